-- `show_all` meets its contract: what is left of the listing falls, page by page.
use Prim.Native.Nat.{◌*◌, ◌-◌}
use lib.ListN.{length}
use Rattle.rights_listing.proofs.ShowLaws.{runs, Showing}
use Rattle.rights_listing.proofs.show_all.Given as goal

abbrev pub invariant-loop-left : goal.invariant-loop-left
invariant-loop-left l = Showing l.pool l.count

abbrev pub decreases-loop-left : goal.decreases-loop-left
decreases-loop-left l = length (runs l.pool) - l.count * 1024
