-- `goleuthan::calls::step` meets its contract. Assumes nothing.
use Rattle.std.proofs.Common.{◌≡◌, length, arith}
use borrow.Author.Tests.{eq-eqb}
use Rattle.std.proofs.lemmas.Result.{err_from_is_err_and}
use Rattle.goleuthan.specs.StateCalls.{step_call}
use Rattle.goleuthan.proofs.calls.step.Goals as goal

pub returns-in_err-fetch_step : goal.returns-in_err-fetch_step
unfolding step_call
returns-in_err-fetch_step c =
    let p = err_from_is_err_and c.from_residual-in_err-fetch_step.result c.from_residual-in_err-fetch_step.ensures.1 in
    let (long, shape) = c.in_ok-shape.ensures in
    let gates : c.in_ok-gates.gates.now ≡ c.args.gates.now = grind arith in
    let stack : c.in_ok-stack.stack.now ≡ c.args.stack.now = grind arith in
    let whole_gates : length c.args.gates.now ≡ 193 = grind arith in
    let whole_stack : length c.args.stack.now ≡ 34 = grind arith in
    let (answer, words) = rw (shape, gates, stack) at c.in_err-fetch_step.ensures in
    rw (p.1, p.2, words) (λ out. rw (
      eq-eqb (length c.args.shape.now) 5 long,
      eq-eqb (length c.args.gates.now) 193 whole_gates,
      eq-eqb (length c.args.stack.now) 34 whole_stack,
      ← answer,
    ))
