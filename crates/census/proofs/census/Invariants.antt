-- `census::census` meets its contract. The loop's invariant: the roots passed are fine, and have left the owners so
-- far.
use mathlib.Core.Path.{◌≡◌}
use Rattle.census.specs.Tally.{owned, roots_tally}
use Rattle.census.proofs.census.Given as goal

abbrev pub invariant-loop-d : goal.invariant-loop-d
invariant-loop-d l = roots_tally l.shape l.pool l.d ≡ owned l.owners
