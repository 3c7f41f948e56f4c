-- `change::put` meets its contract.
use Rattle.plan.specs.Aims.{aim_of}
use Rattle.change.proofs.CutLaws.{put_cuts}
use Rattle.change.proofs.put.Goals as goal

pub returns-clause-cut : goal.returns-clause-cut
returns-clause-cut c = let a = c.args in rw c.index.ensures (put_cuts a.shape (aim_of a.domain a.paint) c.requires)
