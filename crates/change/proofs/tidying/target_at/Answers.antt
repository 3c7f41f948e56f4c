-- `tidying::target_at` meets its contract.
use Prim.Native.Nat.{◌+◌, ◌≤◌, ◌<◌}
use mathlib.Core.Path.{◌≡◌, ap, ◌∙◌}
use native.Mathlib.Omega.{arith}
use borrow.Author.Tests.{lt-ltb}
use Rattle.table.specs.Shape.{first_middle}
use Rattle.change.specs.Tidying.{Owns}
use Rattle.change.proofs.TidyAimLaws.{root_reads, root_aim, page_reads, page_aim, table_root}
use Rattle.change.proofs.TidyAimLaws.{table_owned, table_passed}
use Rattle.change.proofs.tidying.target_at.Goals as goal
use Rattle.change.proofs.tidying.target_at.Goals.{After-index-k, Else-index-shape, Then-index-shape}

-- The word that is read.
at : (c : After-index-k) → let a = c.args in c.index-k.result ≡ a.base.0 + a.i
at c = c.index-k.ensures ∙ ap (λ w. w.0) c.after.ensures

-- The table is a root,
root : (c : Then-index-shape) → let a = c.args in
    a.base.0 + a.i < first_middle a.shape
root c =
    let b : c.args.base.0 < first_middle c.args.shape =
    omega (arith, c.index.ensures, c.if-index-shape.true) in
    table_root _ _ _ _ _ c.requires.table.0 c.requires.table.1 b

-- or a middle table that has an owner.
owned : (c : Else-index-shape) → let a = c.args in
    Owns a.shape a.pool.now a.owner a.base.0
owned c =
    let b : first_middle c.args.shape ≤ c.args.base.0 =
    omega (arith, c.index.ensures, c.if-index-shape.false) in
    table_owned _ _ _ _ c.requires.table.0 b

pub returns-then-w-ge-BIT_31 : goal.returns-then-w-ge-BIT_31
returns-then-w-ge-BIT_31 c = let a = c.args in
    let e = at (goal.at.returns-then-w-ge-BIT_31 c).After-index-k in
    table_passed a.shape a.pool.now a.owner a.base.0 a.i c.requires.table.0 c.requires.table.1
    (rw e at c.if-w-ge-BIT_31.true)

pub entry_target-requires-clause-readable : goal.entry_target-requires-clause-readable
entry_target-requires-clause-readable c = let a = c.args in
    rw (at (goal.at.entry_target-requires-clause-readable c).After-index-k)
    (root_reads a.shape a.pool.now _ (root (goal.at.entry_target-requires-clause-readable c).Then-index-shape)
    c.requires.fits.0 c.requires.fits.1)

pub returns-then-index-shape : goal.returns-then-index-shape
returns-then-index-shape c = let a = c.args in
    let e = at (goal.at.returns-then-index-shape c).After-index-k in
    root_aim a.shape a.pool.now _ (root (goal.at.returns-then-index-shape c).Then-index-shape) c.entry_target.result
    (lt-ltb _ _ (rw e at c.if-w-ge-BIT_31.false)) (rw e at c.entry_target.ensures)

pub entry_target-requires-2-clause-readable : goal.entry_target-requires-2-clause-readable
entry_target-requires-2-clause-readable c = let a = c.args in
    rw (at (goal.at.entry_target-requires-2-clause-readable c).After-index-k)
    (page_reads a.shape a.pool.now _ _ (owned (goal.at.entry_target-requires-2-clause-readable c).Else-index-shape) _
    c.requires.table.1 c.requires.fits.0 c.requires.fits.1)

pub returns : goal.returns
returns c = let a = c.args in
    let e = at (goal.at.returns c).After-index-k in
    page_aim a.shape a.pool.now _ _ (owned (goal.at.returns c).Else-index-shape) _ c.requires.table.1 c.entry_target-2.result c.requires.fits.0
    (lt-ltb _ _ (rw e at c.if-w-ge-BIT_31.false)) (rw e at c.entry_target-2.ensures)
