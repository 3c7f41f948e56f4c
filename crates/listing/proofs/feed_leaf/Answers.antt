-- `listing::feed_leaf` meets its contract. The loop's invariant: the words of the entries passed were fed.
use Prim.Native.Nat.{◌+◌, ◌*◌}
use mathlib.Core.Path.{refl, ◌∙◌}
use native.Mathlib.Omega.{arith}
use Rattle.table.specs.Entries.{level_of}
use Rattle.listing.specs.Levels.{EntryAt, SomeTable}
use Rattle.listing.proofs.SheetLaws.{along_start, along_end}
use Rattle.listing.proofs.LevelLaws.{entry_inside, rights_fed, entry_at, entry_next}
use Rattle.listing.proofs.feed_leaf.Goals as goal
use Rattle.listing.proofs.feed_leaf.Goals.{After-index-start, In-loop-i}

-- The leaf, from where its first word stands.
leaf : (c : After-index-start) → let a = c.args in
    SomeTable a.pool.now 0 c.index-start.result a.at
leaf c = rw c.index-start.ensures c.requires.some_table

-- Entry `i` is for its block, which lies in the memory.
stands : (c : In-loop-i) → let a = c.args in
    EntryAt a.pool.now (leaf (goal.at.In-loop-i c).After-index-start).shape 0
    (c.index-start.result + c.loop-i.i) (a.at + c.loop-i.i * 16)
stands c = entry_at _ _ _ _ _ (leaf (goal.at.In-loop-i c).After-index-start).table (level_of 0) refl _ c.loop-i-test.true

pub loop-i-init : goal.loop-i-init
loop-i-init c = ((λ x k. along_start _ _ _ _ _ c.requires.open_at), refl)

pub overflow_add-start : goal.overflow_add-start
overflow_add-start c = let x = stands (goal.at.overflow_add-start c).In-loop-i in omega (arith, entry_inside _ _ x, x.fits.long, x.fits.range)

pub offset_bounds-pool-start : goal.offset_bounds-pool-start
offset_bounds-pool-start c = let x = stands (goal.at.offset_bounds-pool-start c).In-loop-i in omega (arith, entry_inside _ _ x, x.fits.long, x.fits.range)

pub bounds-pool-start : goal.bounds-pool-start
bounds-pool-start c = entry_inside _ _ (stands (goal.at.bounds-pool-start c).In-loop-i)

pub overflow_add-at : goal.overflow_add-at
overflow_add-at c = let x = stands (goal.at.overflow_add-at c).In-loop-i in omega (arith, x.inside)

pub feed_rights-s-requires : goal.feed_rights-s-requires
feed_rights-s-requires c = let x = stands (goal.at.feed_rights-s-requires c).In-loop-i in
    record {
      height_value = (x.aligned, x.inside);
      open_at = (c.loop-i.invariant.0 _ (leaf (goal.at.feed_rights-s-requires c).After-index-start).table).numbers;
    }

pub loop-i-preserved : goal.loop-i-preserved
loop-i-preserved c = let a = c.args in
    let l = c.loop-i in (
      (λ x k. entry_next _ x _ _ _ k (level_of 0) refl _ c.loop-i-test.true _ _ _ (l.invariant.0 x k)
          (c.feed_rights-s.ensures ∙ rights_fed a.pool.now x 0 (c.index-start.result + l.i) _ _ refl)),
      omega arith,
    )

pub returns : goal.returns
returns c x k = along_end _ _ _ _ _ _ _ (c.loop-i.invariant.0 x (rw c.index-start.ensures k)) c.loop-i-test.false
    ∙ rw c.index-start.ensures refl
