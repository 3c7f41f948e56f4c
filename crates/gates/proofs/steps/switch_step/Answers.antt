-- `gates::steps::switch_step` meets its contract.
use mathlib.Core.Path.{sym}
use borrow.Author.Tests.{lt-ltb, le-ltb}
use Rattle.std.proofs.lemmas.Result.{err_from_is_err_and}
use Rattle.gates.specs.Steps.{max_depth, switch_step}
use Rattle.gates.proofs.LayoutLaws.{step_stays_as}
use Rattle.gates.proofs.steps.switch_step.Goals as goal

pub returns-then-stack-ge-MAX_DEPTH : goal.returns-then-stack-ge-MAX_DEPTH
unfolding switch_step
returns-then-stack-ge-MAX_DEPTH c = step_stays_as c.args.stack.now c.told-stack _ _ (rw (le-ltb _ max_depth c.if-stack-ge-MAX_DEPTH.true))

pub returns-in_err-fetch : goal.returns-in_err-fetch
unfolding switch_step
returns-in_err-fetch c = let p = err_from_is_err_and c.from_residual.result c.from_residual.ensures.1 in
    rw (p.1, p.2) (step_stays_as c.args.stack.now c.told-stack _ _ (rw (
      lt-ltb _ max_depth c.if-stack-ge-MAX_DEPTH.false,
      sym c.in_err-fetch.ensures,
    )))

pub returns-in-Deny : goal.returns-in-Deny
unfolding switch_step
returns-in-Deny c = step_stays_as c.args.stack.now c.told-stack _ _ (rw (
  lt-ltb _ max_depth c.if-stack-ge-MAX_DEPTH.false,
  sym c.in_ok-fetch.ensures,
  c.in-Deny.is,
))
