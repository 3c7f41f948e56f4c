-- `table::walk_down` meets its contract. The loop's invariant: what is left of the walk ends as the whole does, the
-- word that it stands at lies in the pool, and the loads made are the levels passed.
use Prim.Native.Nat.{◌+◌, ◌*◌, ◌≤◌, ◌<◌}
use mathlib.Core.Path.{◌≡◌}
use lib.ListN.{length}
use Rattle.theory.specs.Pool.{words}
use Rattle.theory.specs.Walk.{walk}
use Rattle.table.specs.Map.{index, form_of}
use Rattle.table.proofs.walk_down.Given as goal

abbrev pub invariant-loop-entry : goal.invariant-loop-entry
invariant-loop-entry l = (l.height ≤ 2) × (l.loads + l.height ≡ 2) × (l.at.0 < length l.pool)
    × (walk (form_of l.shape) (words l.pool) l.address.0 l.height l.at.0
    ≡ walk (form_of l.shape) (words l.pool) l.address.0 2 (1024 * l.domain + index 2 l.address.0))

abbrev pub decreases-loop-entry : goal.decreases-loop-entry
decreases-loop-entry l = l.height
