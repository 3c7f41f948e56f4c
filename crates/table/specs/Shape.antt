-- The shape of a pool: how many roots, middle places and leaf places it has, and where they begin.
use Rattle.std.specs.Prelude.{ℕ, zero, suc, ◌+◌, ◌*◌, ◌≤◌, ◌≡◌, Bool, ◌&&◌, eqb, leb}
use Rattle.table.specs.declared.Shape.{Shape}

-- D is 1 to this number.
abbrev pub max_domains : ℕ
max_domains = 4

-- M is 0 to this number.
abbrev pub max_middles : ℕ
max_middles = 8

-- L is 0 to this number.
abbrev pub max_leaves : ℕ
max_leaves = 64

-- How many entries a table has, each one word: 64 in a leaf, 1,024 in a middle table and in a root.
abbrev pub size : ℕ → ℕ
size zero = 64
size (suc h) = 1024

-- The pool word where the middle places begin: after D roots.
abbrev pub first_middle : Shape → ℕ
first_middle s = size 2 * s.domains

-- The pool word where the leaf places begin: after M middle places.
abbrev pub first_leaf : Shape → ℕ
first_leaf s = size 2 * s.domains + size 1 * s.middles

-- Where the places for tables of a height begin, and how many they are.
abbrev pub first_place : Shape → ℕ → ℕ
first_place s zero = first_leaf s
first_place s (suc h) = first_middle s

abbrev pub places : Shape → ℕ → ℕ
places s zero = s.leaves
places s (suc h) = s.middles

-- The length of the pool: L leaf places come last.
abbrev pub pool_length : Shape → ℕ
pool_length s = size 2 * s.domains + size 1 * s.middles + size 0 * s.leaves

-- D, M and L are in their ranges.
pub record InRange (s : Shape) : Type 0 where
  pub some_domain : 1 ≤ s.domains
  pub domains : s.domains ≤ max_domains
  pub middles : s.middles ≤ max_middles
  pub leaves : s.leaves ≤ max_leaves

-- The shape is in range, and a pool of `n` words has its length.
pub record Fits (s : Shape) (n : ℕ) : Type 0 where
  pub range : InRange s
  pub long : n ≡ pool_length s

-- The same, as a test.
abbrev pub fits_of : Shape → ℕ → Bool
fits_of s n =
    leb 1 s.domains && leb s.domains max_domains && leb s.middles max_middles && leb s.leaves max_leaves
    && eqb n (pool_length s)
