-- `tidying::next_given_up` meets its contract. The loop takes every tidying that stands at word `from` of the table
-- to its word `i`.
use Prim.Native.Nat.{◌+◌, ◌-◌, ◌≤◌}
use Rattle.change.specs.Runs.{Tidying}
use Rattle.change.specs.Runs.{Run, Stands}
use Rattle.change.proofs.tidying.next_given_up.Given as goal

abbrev pub invariant-loop-i : goal.invariant-loop-i
invariant-loop-i l = (l.i ≤ 1024)
    × ((u : Run l.shape Tidying) → Stands l.shape Tidying u 1 (l.base.0 + l.from) l.pool → Stands l.shape Tidying u 1
    (l.base.0 + l.i) l.pool)

abbrev pub decreases-loop-i : goal.decreases-loop-i
decreases-loop-i l = 1024 - l.i
