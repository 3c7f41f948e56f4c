-- `census::entry_check` and `census::table_check` call each other. The measure is twice the height, and one more in
-- `table_check`, whose loop calls `entry_check` at the same height. The loop's invariant: what is left of the table
-- gives what the whole gives.
use Rattle.std.proofs.Common.{◌≡◌, ◌+◌, ◌-◌, ◌*◌, ◌≤◌, length}
use Rattle.theory.specs.Pool.{words}
use Rattle.census.specs.Tally.{through, entry_tally, table_tally}
use Rattle.census.proofs.+entry_check_table_check.Given as goal

abbrev pub decreases-entry_check : goal.decreases-entry_check
decreases-entry_check l = 2 * l.height

abbrev pub decreases-table_check : goal.decreases-table_check
decreases-table_check l = 2 * l.height + 1

abbrev pub invariant-table_check-loop-i : goal.invariant-table_check-loop-i
invariant-table_check-loop-i l =
    (l.i ≤ 1024) × (l.base.0 + 1024 ≤ length l.pool)
    × (through (λ k. entry_tally l.shape l.pool l.height (words l.pool k)) (1024 - l.i) (l.base.0 + l.i)
    (l.first + l.i) l.owners ≡ table_tally l.shape l.pool l.height l.base.0 l.block l.initial.owners)

abbrev pub decreases-table_check-loop-i : goal.decreases-table_check-loop-i
decreases-table_check-loop-i l = 1024 - l.i
