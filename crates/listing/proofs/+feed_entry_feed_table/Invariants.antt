-- `listing::feed_entry` and `listing::feed_table` call each other. The measure is twice the height, and one more in
-- `feed_table`, whose loop calls `feed_entry` at the same height. The loop's invariant: the words of the entries
-- passed were fed.
use Rattle.std.proofs.Common.{◌≡◌, ◌+◌, ◌*◌, ◌-◌, length}
use Rattle.table.specs.declared.Shape.{Shape}
use Rattle.listing.specs.Sheets.{sheet}
use Rattle.listing.specs.Levels.{table_right, TableAt}
use Rattle.listing.proofs.SheetLaws.{Along}
use Rattle.listing.proofs.+feed_entry_feed_table.Given as goal

abbrev pub decreases-feed_entry : goal.decreases-feed_entry
decreases-feed_entry l = 2 * l.height

abbrev pub decreases-feed_table : goal.decreases-feed_table
decreases-feed_table l = 2 * l.height + 1

abbrev pub invariant-feed_table-loop-i : goal.invariant-feed_table-loop-i
invariant-feed_table-loop-i l =
    ((x : Shape) → TableAt l.pool x l.height l.base.0 l.at
    → Along (table_right x l.pool l.height l.base.0) l.level.entries l.level.block l.at (sheet l.initial.s l.initial.runs) l.i
    (sheet l.s l.runs))
    × (length l.runs ≡ length l.initial.runs)

abbrev pub decreases-feed_table-loop-i : goal.decreases-feed_table-loop-i
decreases-feed_table-loop-i l = l.level.entries - l.i
