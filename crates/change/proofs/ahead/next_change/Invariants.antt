-- `ahead::next_change` meets its contract. The loop takes every run that stands at the first cursor to the cursor `at`.
use Prim.Native.Nat.{◌+◌, ◌*◌, ◌-◌, ◌≤◌}
use lib.ListN.{length}
use Rattle.plan.specs.Plan.{plan_in}
use Rattle.change.specs.Runs.{Change}
use Rattle.change.specs.Runs.{Run, Stands}
use Rattle.change.proofs.ahead.next_change.Given as goal

abbrev pub invariant-loop-at : goal.invariant-loop-at
invariant-loop-at l = (l.at.word.0 ≤ l.at.past.0) × (l.at.past.0 ≤ length l.pool)
    × ((u : Run l.shape (Change (plan_in l.plan))) → Stands l.shape (Change (plan_in l.plan)) u l.initial.at.phase l.initial.at.word.0 l.pool
    → Stands l.shape (Change (plan_in l.plan)) u l.at.phase l.at.word.0 l.pool)

abbrev pub decreases-loop-at : goal.decreases-loop-at
decreases-loop-at l = 21474836480 - (l.at.phase * 4294967296 + l.at.past.0)
