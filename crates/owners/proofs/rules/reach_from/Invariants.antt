-- `owners::rules::reach_from` meets its contract. The invariant: none of the regions below `i` holds a word of the
-- stretch so far.
use Rattle.std.proofs.Common.{◌<◌}
use Rattle.owners.proofs.ReachLaws.{Free}
use Rattle.owners.proofs.rules.reach_from.Given as goal

abbrev pub invariant-loop-i : goal.invariant-loop-i
invariant-loop-i l = (l.w < l.until) × Free l.ws l.w l.until l.i
