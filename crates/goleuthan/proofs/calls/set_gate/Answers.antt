-- `goleuthan::calls::set_gate` meets its contract. Assumes nothing.
use Rattle.std.proofs.Common.{◌≡◌, length, arith}
use borrow.Author.Tests.{eq-eqb}
use Rattle.goleuthan.specs.StateCalls.{gates_call}
use Rattle.goleuthan.proofs.calls.set_gate.Goals as goal

pub returns : goal.returns
unfolding gates_call
returns c =
    let same : c.in_ok-gates.gates.now ≡ c.args.gates.now = grind arith in
    let whole : length c.args.gates.now ≡ 193 = grind arith in
    let (answer, words) = rw same at c.set_gate.ensures in
    rw (answer, words, eq-eqb (length c.args.gates.now) 193 whole)
