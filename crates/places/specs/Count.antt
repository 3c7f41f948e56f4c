-- How many tables rights need.
use Rattle.std.specs.Prelude.{ℕ, zero, suc, ◌+◌, ◌*◌, ◌/◌, ◌%◌, ◌≤◌, ◌<◌, Bool, cond}
use Rattle.table.specs.declared.Shape.{Shape}
use Rattle.table.specs.Shape.{places}
use Rattle.table.specs.Map.{block}
use Rattle.table.specs.Wants.{wants_of}

-- Of the numbers below `n`, how many pass the test `f`.
unfoldable pub count : (ℕ → Bool) → ℕ → ℕ
count f zero = 0
count f (suc n) = count f n + cond (f n) 1 0

-- The tables below this height stand at places: leaves, of height 0, and middle tables, of height 1.
abbrev pub heights : ℕ
heights = 2

-- How many blocks of a domain may have a table of height `h`: 1,048,576 pages a leaf, 1,024 blocks of 4 MB a middle
-- table.
abbrev pub blocks : ℕ → ℕ
blocks zero = 1048576
blocks (suc h) = 1024

-- These blocks are numbered over all domains, in order of domain and address: the domain of block `i` ..
abbrev pub domain_of : ℕ → ℕ → ℕ
domain_of h i = i / blocks h

-- .. and its first address.
abbrev pub address_of : ℕ → ℕ → ℕ
address_of h i = i % blocks h * block (suc h)

-- With the rights `R`, block `i` wants a table of height `h`.
abbrev pub want : (ℕ → ℕ → ℕ) → ℕ → ℕ → Bool
want R h i = wants_of (R (domain_of h i)) (suc h) (address_of h i)

-- At each height the rights `R` want no more tables, over all domains, than there are places.
pub record Room (s : Shape) (R : ℕ → ℕ → ℕ) : Type 0 where
  pub tables : (h : ℕ) → h < heights → count (want R h) (blocks h * s.domains) ≤ places s h
