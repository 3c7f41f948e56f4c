-- `tidying::next_tidying` meets its contract. The loop takes every tidying that stands at the cursor to word `k`, which
-- is of the place that comes next.
use Prim.Native.Nat.{◌+◌, ◌*◌, ◌≤◌}
use Rattle.change.specs.Runs.{Tidying}
use Rattle.change.specs.Runs.{Run, Stands}
use Rattle.change.proofs.tidying.next_tidying.Given as goal

abbrev pub invariant-loop-place : goal.invariant-loop-place
invariant-loop-place l =
    (1024 * l.place ≤ l.k) × (l.k ≤ 1024 * l.place + 1024)
    × ((u : Run l.shape Tidying) → Stands l.shape Tidying u l.fn.from.phase l.fn.from.word.0 l.pool
    → Stands l.shape Tidying u 1 l.k l.pool)
