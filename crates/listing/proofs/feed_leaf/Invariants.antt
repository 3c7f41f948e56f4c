-- `listing::feed_leaf` meets its contract. The loop's invariant: the words of the entries passed were fed.
use mathlib.Core.Path.{◌≡◌}
use lib.ListN.{length}
use Rattle.table.specs.declared.Shape.{Shape}
use Rattle.listing.specs.Sheets.{sheet}
use Rattle.listing.specs.Levels.{table_right, TableAt}
use Rattle.listing.proofs.SheetLaws.{Along}
use Rattle.listing.proofs.feed_leaf.Given as goal

abbrev pub invariant-loop-i : goal.invariant-loop-i
invariant-loop-i l = ((x : Shape) → TableAt l.pool x 0 l.start l.at → Along (table_right x l.pool 0 l.start) 64 16 l.at (sheet l.initial.s l.initial.runs) l.i
    (sheet l.s l.runs)) × (length l.runs ≡ length l.initial.runs)
