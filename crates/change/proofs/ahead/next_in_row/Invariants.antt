-- `ahead::next_in_row` meets its contract. The loop takes every run that stands at the cursor to word `i` of its row.
use Prim.Native.Nat.{◌+◌}
use Rattle.plan.specs.Plan.{plan_in}
use Rattle.change.specs.Runs.{Change}
use Rattle.change.specs.Runs.{Run, Stands}
use Rattle.change.proofs.ahead.next_in_row.Given as goal

abbrev pub invariant-loop-i : goal.invariant-loop-i
invariant-loop-i l =
    (u : Run l.shape (Change (plan_in l.plan)))
    → Stands l.shape (Change (plan_in l.plan)) u l.at.phase l.at.word.0 l.pool
    → Stands l.shape (Change (plan_in l.plan)) u l.at.phase (l.at.word.0 + l.i) l.pool
