-- Targets: what the entry of a page or a block should be, once a region is painted with a right.
use Rattle.std.specs.Prelude.{ℕ, zero, suc, ◌+◌, ◌/◌, ◌%◌, ◌≤◌, ◌<◌, ◌≡◌, Bool, true, false, cond, List, length, None, Option, Some}
use Rattle.theory.specs.Pool.{words}
use Rattle.words.specs.Rights.{right_at, good_rights}
use Rattle.words.specs.Region.{covered}
use Rattle.table.specs.Shape.{size}
use Rattle.table.specs.Map.{addresses, block, part, parts, index, leads}
use Rattle.table.specs.Entries.{same_of}
use Rattle.table.specs.Wants.{wants_of, said_of}
use Rattle.targets.specs.declared.Paint.{Paint}
use Rattle.targets.specs.Paints.{region}

-- The rights `R`, with the painted right on every address that the region covers.
unfoldable pub painted : Paint → (ℕ → ℕ) → ℕ → ℕ
painted p R a = cond (covered (region p) a) p.right (R a)

-- What the entry of height `h` of the block around `a` should be, with the rights `R`: rights, or none where a table is
-- wanted, to which it must lead.
abbrev pub target_of : (ℕ → ℕ) → ℕ → ℕ → Option ℕ
target_of R h a = cond (wants_of R h a) None (Some (said_of R h a))

-- The entry of height `h` that stands for block `n` where there is no table: the right that the entry `e` above has
-- for it.
abbrev pub virtual_of : ℕ → ℕ → ℕ → ℕ
virtual_of h e n = same_of h (right_at e (n / (size h / 8) % 8))

-- How many blocks there are that an entry of a height may have.
abbrev pub entry_blocks : ℕ → ℕ
entry_blocks h = addresses / block h

-- The right that the entry `e` of a height, in the pool `P`, gives to an address.
unfoldable pub given : (ℕ → ℕ) → ℕ → ℕ → ℕ → ℕ
given P zero e a = right_at e (a / part zero % parts zero)
given P (suc h) e a = cond (leads (suc h) e) (given P h (P (e + index h a)) a)
    (right_at e (a / part (suc h) % parts (suc h)))

-- On the block of height `h` that has the number `n`, the rights `R` are those that the entry `e` gives.
abbrev pub Gives : (ℕ → ℕ) → ℕ → ℕ → ℕ → (ℕ → ℕ) → Type 0
Gives P h e n R = (a : ℕ) → a / block h ≡ n → R a ≡ given P h e a

-- The same of a leaf entry, which needs no pool.
abbrev pub GivesLeaf : ℕ → ℕ → (ℕ → ℕ) → Type 0
GivesLeaf w n R = (a : ℕ) → a / 64 ≡ n → R a ≡ right_at w (a / 4 % 16)

-- The entry `e` of height `h + 1` is eight rights, or leads to a table in the pool whose entries are `Below`.
pub record ReadableOver (p : List ℕ) (h : ℕ) (Below : ℕ → Type 0) (e : ℕ) : Type 0 where
  pub rights : leads (suc h) e ≡ false → good_rights e ≡ true
  pub table : leads (suc h) e ≡ true → e + size h ≤ length p
  pub entries : leads (suc h) e ≡ true → (i : ℕ) → i < size h → Below (words p (e + i))

-- The entry `e` of a height is readable: any word of a leaf; above, eight rights, or one that leads to a table of
-- readable entries.
abbrev pub Readable : List ℕ → ℕ → ℕ → Type 0
Readable p zero e = Unit {0}
Readable p (suc h) e = ReadableOver p h (Readable p h) e

-- The test `r` is passed exactly where `A` holds.
pub record Decides (r : Bool) (A : Type 0) : Type 0 where
  pub holds : r ≡ true → A
  pub passes : A → r ≡ true
