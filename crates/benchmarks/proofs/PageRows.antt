-- The rows whose change makes a middle table, and a leaf: 2, 3 and 6.
use Prim.Native.Nat.{ℕ, ◌≤◌}
use mathlib.Core.Path.{◌≡◌, refl}
use mathlib.Core.List.{List}
use native.Mathlib.Omega.{arith}
use Rattle.std.specs.Prelude.{Ok}
use Rattle.theory.specs.Walk.{walk}
use Rattle.words.specs.Rights.{pack}
use Rattle.words.specs.Region.{rounded, region_of}
use Rattle.words.specs.declared.Region.{Region}
use Rattle.words.proofs.RegionLaws.{covered_range}
use Rattle.words.specs.Stretches.{first_like, last_like}
use Rattle.table.specs.Wants.{any}
use Rattle.table.specs.Fresh.{fresh_pool}
use Rattle.table.proofs.WantLaws.{wants_leaf}
use Rattle.change.specs.declared.Ending.TheVariants.{Done}
use Rattle.change.specs.Cuts.{differing}
use Rattle.benchmarks.specs.Rows.{shape, Sets, SetsOneLeaf, LooksAround, SetsOneMiddle}
use Rattle.benchmarks.proofs.RowLaws.{always_change, by, finds, listed}
use Rattle.benchmarks.proofs.PageLaws.{OnePage, after}
use Rattle.benchmarks.proofs.PagePools.{painted, one_page, page_pool, page_done}

-- Row 2: a leaf whose first entry has the right.
abbrev pub in_leaf : Region
in_leaf = rounded 0x1000 64

pub leaf_page : OnePage 1 0 (painted in_leaf 2) 0x1000 0x1040 0xAAAAAAAA
unfolding pack
leaf_page = one_page 1 0 in_leaf 2 0x1000 0x1040 (omega arith) (λ z. omega arith) (omega arith) (omega arith)
    (λ z. omega arith) (omega arith)
    (λ b e. let r = covered_range in_leaf b e in omega arith) refl refl refl (wants_leaf (painted in_leaf 2) 0x1000)

abbrev pub leaf_pool : List ℕ
leaf_pool = page_pool 1 0 0x1000 0xAAAAAAAA

pub leaf_stores : differing (fresh_pool (shape 1 1)) leaf_pool ≡ 1026
unfolding differing listed after
leaf_stores = refl

pub leaf_set : (n : ℕ) → 1026 ≤ n → Sets 1 1 0x1000 64 2 n (Ok (Done 1026)) leaf_pool
unfolding region_of
leaf_set n h = page_done in_leaf 2 leaf_page (omega arith) 0x1000 64 (omega arith) refl n 1026 leaf_stores h

pub row_2 : SetsOneLeaf
unfolding listed after
row_2 n h = always_change (leaf_set n h) (refl, refl)

-- Row 3: lookups in that pool.
pub row_3 : LooksAround
unfolding listed after walk first_like last_like
row_3 n h = always_change (leaf_set n h) (
  finds leaf_pool (shape 1 1) 0x103F (by 2 0xAAAAAAAA 3 0x1000 0x103F) refl,
  finds leaf_pool (shape 1 1) 0x1040 (by 0 0 3 0x1040 0x107F) refl,
  finds leaf_pool (shape 1 1) 0x2000 (by 0 0x80000000 2 0x2000 0x2FFF) refl,
  finds leaf_pool (shape 1 1) 0x400000 (by 0 0x80000000 1 0x400000 0x7FFFFF) refl,
)

-- Row 6: a middle table alone.
abbrev pub in_middle : Region
in_middle = rounded 0x1000 512

pub middle_page : OnePage 0 1 (painted in_middle 2) 0x1000 0x1200 0x80000002
unfolding pack any
middle_page = one_page 0 1 in_middle 2 0x1000 0x1200 (omega arith) (λ z. omega arith) (omega arith) (omega arith)
    (λ z. omega arith) (omega arith)
    (λ b e. let r = covered_range in_middle b e in omega arith) refl refl refl refl

abbrev pub middle_pool : List ℕ
middle_pool = page_pool 0 1 0x1000 0x80000002

middle_stores : differing (fresh_pool (shape 1 0)) middle_pool ≡ 1025
unfolding differing listed after
middle_stores = refl

pub middle_set : (n : ℕ) → 1025 ≤ n → Sets 1 0 0x1000 512 2 n (Ok (Done 1025)) middle_pool
unfolding region_of
middle_set n h = page_done in_middle 2 middle_page (omega arith) 0x1000 512 (omega arith) refl n 1025 middle_stores h

pub row_6 : SetsOneMiddle
unfolding listed after
row_6 n h = always_change (middle_set n h) (refl, refl)
