-- `plan::plan_change` meets its contract. The loop's invariant: the domain and the paint are stored, and the heights
-- done are placed.
use Prim.Native.Nat.{ℕ, ◌≤◌, ◌<◌}
use mathlib.Core.Path.{◌≡◌}
use lib.ListN.{get_or}
use Rattle.theory.specs.Pool.{words}
use Rattle.places.specs.Count.{heights}
use Rattle.plan.specs.Plan.{ends_in, paint_in}
use Rattle.plan.specs.Edges.{EndsPlaced}
use Rattle.plan.proofs.plan_change.Given as goal

abbrev pub invariant-loop-height : goal.invariant-loop-height
invariant-loop-height l = (get_or l.plan 0 0 ≡ l.domain) × (paint_in l.plan ≡ l.paint)
    × ((g : ℕ) → l.height ≤ g → g < heights → EndsPlaced l.shape l.domain l.paint (words l.pool) g (ends_in l.plan g))
