-- `gates::steps::return_step` meets its contract.
use mathlib.Core.Path.{sym}
use Rattle.std.proofs.lemmas.Result.{err_from_is_err_and}
use Rattle.gates.proofs.LayoutLaws.{step_stays_as}
use Rattle.gates.proofs.steps.return_step.Goals as goal

pub returns-in_err-fetch : goal.returns-in_err-fetch
returns-in_err-fetch c = let p = err_from_is_err_and c.from_residual.result c.from_residual.ensures.1 in
    rw (p.1, p.2) (step_stays_as c.args.stack.now c.told-stack _ _ (rw (sym c.in_err-fetch.ensures)))

pub returns-in-Deny : goal.returns-in-Deny
returns-in-Deny c = step_stays_as c.args.stack.now c.told-stack _ _ (rw (sym c.in_ok-fetch.ensures, c.in-Deny.is))
