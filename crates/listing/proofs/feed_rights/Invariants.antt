-- `listing::feed_rights` meets its contract. The loop's invariant: the words of the parts passed were fed, and the
-- right turns at the next.
use Prim.Native.Nat.{◌-◌, ◌<◌}
use mathlib.Core.Path.{◌≡◌}
use mathlib.Core.Logic.{◌≢◌}
use lib.ListN.{length}
use Rattle.words.specs.Rights.{right_at}
use Rattle.listing.specs.Levels.{entry_says}
use Rattle.listing.specs.Sheets.{Sheet, sheet}
use Rattle.listing.proofs.SheetLaws.{Along}
use Rattle.listing.proofs.feed_rights.Given as goal

abbrev pub invariant-loop-i : goal.invariant-loop-i
invariant-loop-i l = ((u : Sheet) → Along (entry_says l.height l.w) l.level.parts l.level.step l.at u l.initial.i (sheet l.initial.s l.initial.runs)
    → Along (entry_says l.height l.w) l.level.parts l.level.step l.at u l.i (sheet l.s l.runs))
    × (length l.runs ≡ length l.initial.runs) × (l.i < l.level.parts → right_at l.w l.i ≢ l.s.right)

abbrev pub decreases-loop-i : goal.decreases-loop-i
decreases-loop-i l = l.level.parts - l.i
