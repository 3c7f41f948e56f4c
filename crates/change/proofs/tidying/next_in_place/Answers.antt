-- `tidying::next_in_place` meets its contract.
use Prim.Native.Nat.{◌*◌, ◌-◌, ◌/◌, ◌≤◌}
use mathlib.Core.Path.{sym, ap, ◌∙◌}
use native.Mathlib.Omega.{arith}
use lib.ListN.{get_or}
use Rattle.theory.specs.Pool.{words}
use Rattle.table.specs.Shape.{first_middle}
use Rattle.change.specs.Runs.{OnlyFrom}
use Rattle.change.specs.Tidying.{MiddlePlace}
use Rattle.change.proofs.TidyAimLaws.{place_middle, place_passed, place_owner}
use Rattle.change.proofs.tidying.next_in_place.Goals as goal
use Rattle.change.proofs.tidying.next_in_place.Goals.{Else-first-roots}
use Rattle.change.proofs.tidying.next_in_place.Goals.{else-owner-roots-via-then-owner-roots+else-pool-index, else-owner-roots-via-else-owner-roots}

-- Past the first test a middle place begins here,
middle : (c : Else-first-roots) → let a = c.args in MiddlePlace a.shape a.base.0
middle c =
    let b : first_middle c.args.shape ≤ c.args.base.0 =
    omega (arith, c.index-first.ensures, c.if-first-roots.false) in
    place_middle c.args.shape _ c.requires.place.0 b

-- and no root word but its owner leads to it.
only : (c : Else-first-roots) → let a = c.args in
    OnlyFrom a.shape a.pool.now (get_or a.owners.now
    ((c.index-first.result - 1024 * a.shape.domains) / 1024) 0) a.base.0
only c =
    let a = c.args in
    rw c.index-first.ensures
    (place_owner a.shape a.owners.now a.pool.now a.base.0 (middle c) c.requires.middle_owners)

pub returns : goal.returns
returns c =
    let a = c.args in
    let m = middle (goal.at.returns c).Else-first-roots in
    let o = only (goal.at.returns c).Else-first-roots in
    elim c.else-owner-roots.branch [
      | else-owner-roots-via-then-owner-roots+else-pool-index w ↦
          place_passed a.shape a.pool.now a.base.0 a.from m c.requires.place.1
          (λ j b z. w.if-pool-index.false (ap (words a.pool.now) (w.index.ensures ∙ ap (λ w. w.0) c.from-root.ensures) ∙ ap (words a.pool.now) (o j b z) ∙ z ∙ sym c.index-first.ensures))
      | else-owner-roots-via-else-owner-roots w ↦
          place_passed a.shape a.pool.now a.base.0 a.from m c.requires.place.1
          (λ j b z. let y = o j b z in omega (arith, w.if-owner-roots.false))
    ]
