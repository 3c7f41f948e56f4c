-- `gates::steps::push` meets its contract.
use Rattle.gates.proofs.LayoutLaws.{pushed_words}
use Rattle.gates.proofs.steps.push.Goals as goal

pub returns : goal.returns
returns c = rw c.put_frame.ensures (pushed_words c.args.stack.now _ c.args.f _ c.args.to
    c.told-stack c.requires)
