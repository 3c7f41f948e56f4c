-- `targets::search` meets its contract. The loop's invariant: what it has said are the rights of the sub-blocks passed.
use Prim.Native.Nat.{suc}
use Rattle.theory.specs.Pool.{words}
use Rattle.targets.specs.Targets.{painted, given}
use Rattle.targets.proofs.SearchLaws.{Gathers}
use Rattle.targets.proofs.search.Given as goal

abbrev pub invariant-loop-i : goal.invariant-loop-i
invariant-loop-i l = Gathers (painted l.paint (given (words l.pool) (suc l.below) l.e)) (suc l.below) l.n l.said l.i
