-- `change::make_stores` meets its contract: each turn of the loop starts between two stores of the work.
use Rattle.plan.specs.Aims.{aim_of}
use Rattle.change.proofs.RunLaws.{Midst}
use Rattle.change.proofs.make_stores.Given as goal

abbrev pub invariant-loop-at : goal.invariant-loop-at
invariant-loop-at g l =
    Midst l.shape (g.G.Guide.owners l.guide) (aim_of l.domain l.paint) (g.G.Guide.work l.guide) l.initial.pool l.allowance l.from l.pool l.left

abbrev pub decreases-loop-at : goal.decreases-loop-at
decreases-loop-at g l = l.left
