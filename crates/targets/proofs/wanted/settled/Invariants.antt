-- `targets::wanted::settled` meets its contract. The loop's invariant: the tables at the places from `n` on are wanted.
use Rattle.targets.proofs.WantedLaws.{WantedFrom}
use Rattle.targets.proofs.wanted.settled.Given as goal

abbrev pub invariant-loop-n : goal.invariant-loop-n
invariant-loop-n l = WantedFrom l.pool l.shape l.owners l.n
