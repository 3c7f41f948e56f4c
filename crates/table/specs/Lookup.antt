-- Lookup: the right, the deciding entry, the loads made and how far the right reaches, or a refusal.
use Rattle.std.specs.Prelude.{ℕ, ◌+◌, ◌-◌, ◌<◌, ◌≡◌, cond, Result, Ok, Err, List, length, ltb}
use Rattle.refusals.specs.declared.Refusal.{Refusal}
use Rattle.refusals.specs.declared.Refusal.TheVariants.{NoShape, NoDomain, NotSound}
use Rattle.refusals.specs.Refusals.{number}
use Rattle.theory.specs.Form.{Form}
use Rattle.theory.specs.Pool.{words, entry, right_of}
use Rattle.theory.specs.Walk.{End, bad, decides, walk}
use Rattle.theory.specs.Settled.{Together}
use Rattle.words.specs.Stretches.{Longest}
use Rattle.table.specs.declared.Shape.{Shape}
use Rattle.table.specs.declared.Decided.{Decided}
use Rattle.table.specs.declared.Deciding.{Deciding}
use Rattle.table.specs.Shape.{fits_of}
use Rattle.table.specs.Map.{addresses, block, block_at, form_of}
use Rattle.table.specs.Stretches.{first_byte, last_byte}

-- The paper's numbers for what comes back.
pub record Numbers : Type 0 where
  pub refusal : ℕ
  pub right : ℕ
  pub entry : ℕ
  pub loads : ℕ
  pub first : ℕ
  pub last : ℕ

-- A refusal is its number with all other results zero.
abbrev pub numbers : Result Deciding Refusal → Numbers
numbers (Ok x) = record {
  refusal = 0;
  right = x.right;
  entry = x.entry;
  loads = x.loads;
  first = x.first.0;
  last = x.last.0;
}
numbers (Err r) = record { refusal = number r; right = 0; entry = 0; loads = 0; first = 0; last = 0 }

-- What the entry `w` of height `h`, which says the rights `R`, decides of the address `a`: its right, after 1, 2 or 3
-- loads by its level, and the bytes around it that have this right, inside its block.
abbrev pub decided_by : (ℕ → ℕ) → ℕ → ℕ → ℕ → Deciding
decided_by R h w a = record {
  right = R a;
  entry = w;
  loads = 3 - h;
  first = record { 0 = first_byte R h a };
  last = record { 0 = last_byte R h a };
}

-- What the end of a walk answers: not sound for a bad word, else what the deciding word says.
abbrev pub found_at : Form → (ℕ → ℕ) → ℕ → End → Result Deciding Refusal
found_at F P a bad = Err NotSound
found_at F P a (decides h k) = Ok (decided_by (F.says h (P k)) h (P k) a)

-- What a lookup of the address `a` for domain `d` answers.
abbrev pub lookup_of : List ℕ → Shape → ℕ → ℕ → Result Deciding Refusal
lookup_of p s d a =
    cond (fits_of s (length p))
    (cond (ltb d s.domains)
    (found_at (form_of s) (words p) a (walk (form_of s) (words p) a 2 (entry (form_of s) d a)))
    (Err NoDomain))
    (Err NoShape)

-- The same without how far it reaches.
abbrev pub without_reach : Result Deciding Refusal → Result Decided Refusal
without_reach (Ok x) = Ok (record { right = x.right; entry = x.entry; loads = x.loads })
without_reach (Err r) = Err r

-- Inside the block of height `h` around the address `a`, the bytes from `first` to `last` are the longest stretch
-- around it that has one right in the table.
abbrev pub Reaches : List ℕ → Shape → (d a h first last : ℕ) → Type 0
Reaches p s d a h first last =
    Longest (right_of (form_of s) (words p) d) (block_at h a) (block_at h a + block h) a first last

-- A lookup answers `r`; the deciding entry gives the table's right on every word of its whole block; and the answer
-- reaches as far as it says.
pub record LooksUp (p : List ℕ) (s : Shape) (d a : ℕ) (r : Result Deciding Refusal) : Type 0 where
  pub answer : r ≡ lookup_of p s d a
  pub block : (x : Deciding) → r ≡ Ok x → (b : ℕ) → b < addresses → Together (form_of s) (3 - x.loads) a b
      → right_of (form_of s) (words p) d b ≡ (form_of s).says (3 - x.loads) x.entry b
  pub reach : (x : Deciding) → r ≡ Ok x → a < addresses → Reaches p s d a (3 - x.loads) x.first.0 x.last.0
