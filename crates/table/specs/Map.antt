-- The map: the paper's form of entries, as one of the forms of the theory. Heights count from below: 0 a leaf, 1 a
-- middle table, 2 a root.
use Rattle.std.specs.Prelude.{ℕ, zero, suc, ◌+◌, ◌*◌, ◌-◌, ◌/◌, ◌%◌, ◌<◌, ◌≡◌, ◌≢◌, Bool, false, cond, ◌&&◌, eqb, ltb, leb}
use Rattle.theory.specs.Form.{Form}
use Rattle.words.specs.Rights.{bit31, right_at, good_rights}
use Rattle.table.specs.declared.Shape.{Shape}
use Rattle.table.specs.Shape.{size, first_middle, first_leaf, first_place, places}

-- An address is 32 bits.
abbrev pub addresses : ℕ
addresses = 4294967296

-- How many bytes an entry covers: 64, 4 KB, 4 MB.
abbrev pub block : ℕ → ℕ
block zero = 64
block (suc zero) = 4096
block (suc (suc h)) = 4194304

-- How many bytes one of its rights covers: a word, 512 bytes, 512 KB.
abbrev pub part : ℕ → ℕ
part zero = 4
part (suc zero) = 512
part (suc (suc h)) = 524288

-- How many rights an entry has.
abbrev pub parts : ℕ → ℕ
parts zero = 16
parts (suc h) = 8

-- The first byte of the block of an address, and of sub-block `i` of that block.
abbrev pub block_at : ℕ → ℕ → ℕ
block_at h a = a / block h * block h

abbrev pub part_at : ℕ → ℕ → ℕ → ℕ
part_at h a i = block_at h a + part h * i

-- The number of the sub-block that an address lies in.
abbrev pub part_of : ℕ → ℕ → ℕ
part_of h a = a / part h % parts h

-- The entry by which an address goes: bits 31 to 22 in a root, 21 to 12 in a middle table, 11 to 6 in a leaf.
abbrev pub index : ℕ → ℕ → ℕ
index h a = a / block h % size h

-- The rights that the entry `w` of height `h` says.
abbrev pub entry_rights : ℕ → ℕ → ℕ → ℕ
entry_rights h w a = right_at w (part_of h a)

-- Bit 31 clear in a root or middle entry: a pool word number.
abbrev pub leads : ℕ → ℕ → Bool
leads zero w = false
leads (suc h) w = ltb w bit31

-- The word `w` is the number of the first word of one of `n` places of `long` words, the first of which begins at
-- `from`.
abbrev pub is_place : ℕ → ℕ → ℕ → ℕ → Bool
is_place from long n w = leb from w && ltb w (from + long * n) && eqb ((w - from) % long) 0

-- Some sub-block, of `s` bytes, of the block of `n` bytes around the address `a` has two different rights.
abbrev pub Divided : ℕ → ℕ → (ℕ → ℕ) → ℕ → Type 0
Divided n s R a =
    (b : ℕ) × (c : ℕ) × (b < addresses) × (c < addresses) × (b / n ≡ a / n) × (b / s ≡ c / s) × (R b ≢ R c)

module _ (s : Shape) where
  -- A word is good: any word in a leaf; in a middle table or a root, of the height `suc h`, eight rights, or the first
  -- word of a place for a table one level down.
  abbrev pub good : ℕ → ℕ → Bool
  good zero w = ltb w 4294967296
  good (suc h) w = ltb h 2 && cond (leads (suc h) w) (is_place (first_place s h) (size h) (places s h) w) (good_rights w)

  -- The height whose tables may have a pool word.
  abbrev pub zone : ℕ → ℕ
  zone i = cond (ltb i (first_middle s)) 2 (cond (ltb i (first_leaf s)) 1 0)

  -- The paper's form, in a pool of this shape.
  abbrev pub form_of : Form
  form_of = record {
    top = 2;
    domains = s.domains;
    span = addresses;
    root = λ d. size 2 * d;
    size = size;
    index = index;
    good = good;
    leads = leads;
    target = λ h w. w;
    says = entry_rights;
    Wants = λ h R a. Divided (block h) (part h) R a;
    zone = zone;
  }
