-- Laws of blocks and their sub-blocks: two addresses lie together exactly where their blocks have one number.
use Prim.Native.Nat.{ℕ, zero, suc, ◌+◌, ◌*◌, ◌-◌, ◌/◌, ◌%◌, ◌≤◌, ◌<◌}
use mathlib.Core.Path.{◌≡◌, sym, ap, ◌∙◌}
use native.Mathlib.Omega.{arith}
use native.Mathlib.Decide.{ℕ_discrete}
use Rattle.theory.specs.Settled.{Together}
use Rattle.table.specs.declared.Shape.{Shape}
use Rattle.table.specs.Shape.{size}
use Rattle.table.specs.Map.{addresses, block, part, parts, block_at, part_at, part_of, index, form_of}
use Rattle.table.specs.Wants.{word_at, words_in}

-- The number of a block: it is the number of the block above, and the index in the table of that one.

block_up : (h a : ℕ) → h < 2 → a / block (suc h) ≡ a / block h / size h
block_up zero a hi = omega arith
block_up (suc zero) a hi = omega arith
block_up (suc (suc h)) a hi = absurd (omega arith)

block_index : (h a : ℕ) → h < 2 → a / block h ≡ a / block (suc h) * size h + index h a
block_index zero a hi = omega arith
block_index (suc zero) a hi = omega arith
block_index (suc (suc h)) a hi = absurd (omega arith)

root_index : (a : ℕ) → a < addresses → a / block 2 ≡ index 2 a
root_index a ba = omega arith

-- What lies in one block lies in one block above.
pub block_above : (i h a b : ℕ) → h ≤ i → i ≤ 2 → a / block h ≡ b / block h → a / block i ≡ b / block i
block_above zero h a b lo hi e = let z : h ≡ 0 = omega arith in rw z at e
block_above (suc i) h a b lo hi e = elim (ℕ_discrete h (suc i)) [
  | yes z ↦ rw z at e
  | no z ↦ block_up i a (omega arith) ∙ ap (λ x. x / size i) (block_above i h a b (omega arith) (omega arith) e)
      ∙ sym (block_up i b (omega arith))
]

block_below : (h a b : ℕ) → h < 2 → a / block (suc h) ≡ b / block (suc h) → index h a ≡ index h b → a / block h
    ≡ b / block h
block_below h a b hi e f =
    block_index h a hi ∙ ap (λ x. x * size h + index h a) e ∙ ap (λ x. b / block (suc h) * size h + x) f
    ∙ sym (block_index h b hi)

module _ (s : Shape) where
  -- Addresses of one block lie together ..
  pub block_together : (h a b : ℕ) → a / block h ≡ b / block h → Together (form_of s) h a b
  block_together h a b e i lo hi = ap (λ x. x % size i) (block_above i h a b lo hi e)

  -- .. and addresses that lie together are of one block.
  pub together_block : (h a b : ℕ) → h ≤ 2 → a < addresses → b < addresses → Together (form_of s) h a b → a / block h
      ≡ b / block h
  together_block h a b hi ba bb t = down h hi t
    where
      two : Together (form_of s) 2 a b → a / block 2 ≡ b / block 2
      two t = root_index a ba ∙ t 2 (omega arith) (omega arith) ∙ sym (root_index b bb)

      one : Together (form_of s) 1 a b → a / block 1 ≡ b / block 1
      one t = block_below 1 a b (omega arith) (two (λ i lo up. t i (omega arith) up)) (t 1 (omega arith) (omega arith))

      down : (h : ℕ) → h ≤ 2 → Together (form_of s) h a b → a / block h ≡ b / block h
      down zero hi t = block_below 0 a b (omega arith) (one (λ i lo up. t i (omega arith) up))
          (t 0 (omega arith) (omega arith))
      down (suc zero) hi t = one t
      down (suc (suc h)) hi t = let z : h ≡ 0 = omega arith in two (rw z at t)

-- Sub-blocks.

part_block : (h a : ℕ) → a / block h ≡ a / part h / parts h
part_block zero a = omega arith
part_block (suc zero) a = omega arith
part_block (suc (suc h)) a = omega arith

-- What lies in one sub-block lies in one block.
pub part_in_block : (h a b : ℕ) → a / part h ≡ b / part h → a / block h ≡ b / block h
part_in_block h a b e = part_block h a ∙ ap (λ x. x / parts h) e ∙ sym (part_block h b)

pub number_below : (h a : ℕ) → a / part h % parts h < parts h
number_below zero a = omega arith
number_below (suc h) a = omega arith

pub few_parts : (h : ℕ) → parts h ≤ 16
few_parts zero = omega arith
few_parts (suc h) = omega arith

part_up : (h a : ℕ) → h < 2 → a / part (suc h) ≡ a / part h / (part (suc h) / part h)
part_up zero a hi = omega arith
part_up (suc zero) a hi = omega arith
part_up (suc (suc h)) a hi = absurd (omega arith)

-- What lies in one sub-block lies in one sub-block of the height above.
pub part_above : (h a b : ℕ) → h < 2 → a / part h ≡ b / part h → a / part (suc h) ≡ b / part (suc h)
part_above h a b hi e = part_up h a hi ∙ ap (λ x. x / (part (suc h) / part h)) e ∙ sym (part_up h b hi)

-- The four bytes of a word lie in one sub-block, and so in one block.
pub byte_part : (h a : ℕ) → a / part h ≡ a / 4 * 4 / part h
byte_part zero a = omega arith
byte_part (suc zero) a = omega arith
byte_part (suc (suc h)) a = omega arith

pub byte_block : (h a : ℕ) → a / block h ≡ a / 4 * 4 / block h
byte_block h a = part_in_block h a (a / 4 * 4) (byte_part h a)

-- The bytes of a block, and of its sub-blocks.

pub around : (h a : ℕ) → (block_at h a ≤ a) × (a < block_at h a + block h)
around zero a = (omega arith, omega arith)
around (suc zero) a = (omega arith, omega arith)
around (suc (suc h)) a = (omega arith, omega arith)

-- A sub-block has bytes, and a block sub-blocks.
pub some_bytes : (h : ℕ) → (0 < part h) × (0 < parts h)
some_bytes zero = (omega arith, omega arith)
some_bytes (suc zero) = (omega arith, omega arith)
some_bytes (suc (suc h)) = (omega arith, omega arith)

pub block_is : (h a b : ℕ) → block_at h a ≤ b → b < block_at h a + block h → a / block h ≡ b / block h
block_is zero a b lo hi = omega arith
block_is (suc zero) a b lo hi = omega arith
block_is (suc (suc h)) a b lo hi = omega arith

pub block_low : (h a : ℕ) → a < addresses → block_at h a + block h ≤ addresses
block_low zero a ba = omega arith
block_low (suc zero) a ba = omega arith
block_low (suc (suc h)) a ba = omega arith

-- A byte lies in the first sub-blocks up to its own, and not past them.
pub part_from : (h a i b : ℕ) → block_at h a ≤ b → b < block_at h a + block h → part_at h a i ≤ b → i ≤ part_of h b
part_from zero a i b lo hi e = omega arith
part_from (suc zero) a i b lo hi e = omega arith
part_from (suc (suc h)) a i b lo hi e = omega arith

pub part_upto : (h a i b : ℕ) → block_at h a ≤ b → b < block_at h a + block h → b ≤ part_at h a i + (part h - 1)
    → part_of h b ≤ i
part_upto zero a i b lo hi e = omega arith
part_upto (suc zero) a i b lo hi e = omega arith
part_upto (suc (suc h)) a i b lo hi e = omega arith

pub from_part : (h a i b : ℕ) → block_at h a ≤ b → b < block_at h a + block h → i ≤ part_of h b → part_at h a i ≤ b
from_part zero a i b lo hi e = omega arith
from_part (suc zero) a i b lo hi e = omega arith
from_part (suc (suc h)) a i b lo hi e = omega arith

pub upto_part : (h a i b : ℕ) → block_at h a ≤ b → b < block_at h a + block h → part_of h b ≤ i
    → b ≤ part_at h a i + (part h - 1)
upto_part zero a i b lo hi e = omega arith
upto_part (suc zero) a i b lo hi e = omega arith
upto_part (suc (suc h)) a i b lo hi e = omega arith

pub same_part : (h a b : ℕ) → block_at h a ≤ b → b < block_at h a + block h
    → b / part h ≡ part_at h a (part_of h b) / part h
same_part zero a b lo hi = omega arith
same_part (suc zero) a b lo hi = omega arith
same_part (suc (suc h)) a b lo hi = omega arith

-- The last byte of a sub-block lies in the block, the byte before its first in the sub-block before, the one after
-- its last in the next.
pub part_ends : (h a i : ℕ) → i < parts h → part_at h a i + (part h - 1) < block_at h a + block h
part_ends zero a i b = omega arith
part_ends (suc zero) a i b = omega arith
part_ends (suc (suc h)) a i b = omega arith

-- The first and the last sub-block.
pub parts_ends : (h a : ℕ) → (part_at h a 0 ≡ block_at h a)
    × (part_at h a (parts h - 1) + (part h - 1) ≡ block_at h a + (block h - 1))
parts_ends zero a = (omega arith, omega arith)
parts_ends (suc zero) a = (omega arith, omega arith)
parts_ends (suc (suc h)) a = (omega arith, omega arith)

pub part_some : (h a i : ℕ) → block_at h a < part_at h a i → 0 < i
part_some zero a i b = omega arith
part_some (suc zero) a i b = omega arith
part_some (suc (suc h)) a i b = omega arith

pub part_before : (h a i : ℕ) → 0 < i → i < parts h → (block_at h a ≤ part_at h a i - 1)
    × (part_at h a i - 1 < block_at h a + block h) × (part_of h (part_at h a i - 1) ≡ i - 1)
part_before zero a i lo hi = (omega arith, omega arith, omega arith)
part_before (suc zero) a i lo hi = (omega arith, omega arith, omega arith)
part_before (suc (suc h)) a i lo hi = (omega arith, omega arith, omega arith)

pub part_after : (h a i : ℕ) → part_at h a i + (part h - 1) + 1 < block_at h a + block h → (i + 1 < parts h)
    × (part_of h (part_at h a i + (part h - 1) + 1) ≡ i + 1)
part_after zero a i hi = (omega arith, omega arith)
part_after (suc zero) a i hi = (omega arith, omega arith)
part_after (suc (suc h)) a i hi = (omega arith, omega arith)

-- Sub-blocks counted from the first of the memory on: so code finds the first byte of one, and no product wraps.

pub part_first : (h a i : ℕ) → (a / part h % parts h ≤ a / part h)
    × ((a / part h - a / part h % parts h + i) * part h ≡ part_at h a i)
part_first zero a i = (omega arith, omega arith)
part_first (suc zero) a i = (omega arith, omega arith)
part_first (suc (suc h)) a i = (omega arith, omega arith)

pub number_fits : (h a i : ℕ) → a < addresses → i < parts h
    → let x = a / part h - a / part h % parts h + i in (x ≤ x * part h) × (x * part h + (part h - 1) < addresses)
number_fits zero a i ba b = (omega arith, omega arith)
number_fits (suc zero) a i ba b = (omega arith, omega arith)
number_fits (suc (suc h)) a i ba b = (omega arith, omega arith)

-- The words of a block.

pub first_word : (h : ℕ) → 0 < words_in h
first_word zero = omega arith
first_word (suc zero) = omega arith
first_word (suc (suc h)) = omega arith

pub word_below : (h a i j : ℕ) → a < addresses → i < parts h → j < words_in h → word_at h a i j < addresses
word_below zero a i j ba bi bj = omega arith
word_below (suc zero) a i j ba bi bj = omega arith
word_below (suc (suc h)) a i j ba bi bj = omega arith

pub word_block : (h a i j : ℕ) → i < parts h → j < words_in h → word_at h a i j / block h ≡ a / block h
word_block zero a i j bi bj = omega arith
word_block (suc zero) a i j bi bj = omega arith
word_block (suc (suc h)) a i j bi bj = omega arith

pub word_part : (h a i j : ℕ) → i < parts h → j < words_in h → word_at h a i j / part h ≡ a / block h * parts h + i
word_part zero a i j bi bj = omega arith
word_part (suc zero) a i j bi bj = omega arith
word_part (suc (suc h)) a i j bi bj = omega arith

pub word_number : (h a i j : ℕ) → i < parts h → j < words_in h → word_at h a i j / part h % parts h ≡ i
word_number zero a i j bi bj = omega arith
word_number (suc zero) a i j bi bj = omega arith
word_number (suc (suc h)) a i j bi bj = omega arith

-- A sub-block begins with its first word.
pub part_number : (h a i : ℕ) → i < parts h → part_of h (part_at h a i) ≡ i
part_number h a i b =
    let z : part_at h a i ≡ word_at h a i 0 = omega arith in
    ap (part_of h) z ∙ word_number h a i 0 b (first_word h)

-- Every address is a byte of one of the words of its block.
word_of : (h b : ℕ) → b / 4 * 4 ≡ word_at h b (b / part h % parts h) (b % part h / 4)
word_of zero b = omega arith
word_of (suc zero) b = omega arith
word_of (suc (suc h)) b = omega arith

pub which_word : (h a b : ℕ) → a / block h ≡ b / block h
    → (j : ℕ) × (j < words_in h) × (b / 4 * 4 ≡ word_at h a (b / part h % parts h) j)
which_word h a b e = (
  b % part h / 4,
  inside h b,
  word_of h b
      ∙ ap (λ x. x * block h + part h * (b / part h % parts h) + 4 * (b % part h / 4)) (sym e),
)
  where
    inside : (h b : ℕ) → b % part h / 4 < words_in h
    inside zero b = omega arith
    inside (suc zero) b = omega arith
    inside (suc (suc h)) b = omega arith

-- The first address of entry `i` of the table for the block of height `suc h` around `a`.
abbrev pub entry_at : ℕ → ℕ → ℕ → ℕ
entry_at h a i = a / block (suc h) * block (suc h) + block h * i

pub entry_below : (h a i : ℕ) → h < 2 → a < addresses → i < size h → entry_at h a i < addresses
entry_below zero a i hi ba bi = omega arith
entry_below (suc zero) a i hi ba bi = omega arith
entry_below (suc (suc h)) a i hi ba bi = absurd (omega arith)

pub entry_block : (h a i : ℕ) → h < 2 → i < size h → entry_at h a i / block (suc h) ≡ a / block (suc h)
entry_block zero a i hi bi = omega arith
entry_block (suc zero) a i hi bi = omega arith
entry_block (suc (suc h)) a i hi bi = absurd (omega arith)

pub entry_index : (h a i : ℕ) → h < 2 → i < size h → index h (entry_at h a i) ≡ i
entry_index zero a i hi bi = omega arith
entry_index (suc zero) a i hi bi = omega arith
entry_index (suc (suc h)) a i hi bi = absurd (omega arith)
