-- `gates::places::gate_here` meets its contract.
use mathlib.Core.Path.{sym, ap, ◌∙◌}
use native.Mathlib.Omega.{arith}
use Rattle.std.proofs.Common.{Some}
use Rattle.gates.specs.declared.GateAt.{GateAt}
use Rattle.gates.specs.Gates.{no_gate}
use Rattle.gates.specs.Layout.{gates_of}
use Rattle.gates.proofs.GateLaws.{gate_at_lem, no_gate_at}
use Rattle.gates.proofs.LayoutLaws.{gates_said, gates_at}
use Rattle.gates.proofs.places.gate_here.Goals as goal

pub returns-in_err-place : goal.returns-in_err-place
returns-in_err-place c = let a = c.args in
    rw c.from_residual.ensures (sym (no_gate_at (gates_of a.gates.now) a.domain a.address.0 (sym c.in_err-place.ensures.place)))

pub returns : goal.returns
returns c = let a = c.args in
    let long = gates_said a.gates.now in
    let l = c.in_ok-place.ensures.held in
    ap (λ (g : GateAt). Some g.gate) (c.gate_at.ensures ∙ sym (gates_at a.gates.now _ (omega arith)))
    ∙ sym (gate_at_lem (gates_of a.gates.now) a.domain a.address.0 (omega arith) _ no_gate (sym c.in_ok-place.ensures.place))
