-- `hear_all` meets its contract: a chunk more in each turn.
use Rattle.rights_listing.proofs.HearsLaws.{Hearing}
use Rattle.rights_listing.proofs.hear_all.Given as goal

abbrev pub invariant-loop : goal.invariant-loop
invariant-loop l = Hearing l.initial.pool l.line l.pool l.counter
