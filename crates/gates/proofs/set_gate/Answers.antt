-- `gates::set_gate` meets its contract.
use Prim.Native.Nat.{◌+◌}
use mathlib.Core.Path.{sym}
use Rattle.std.proofs.lemmas.Result.{err_from_is_err_and}
use Rattle.gates.specs.Gates.{stored}
use Rattle.gates.specs.Layout.{gates_of}
use Rattle.gates.proofs.GateLaws.{new, set_refused_lem, set_own, set_replaces, set_full, set_adds}
use Rattle.gates.proofs.LayoutLaws.{set_refused_as, set_done_as}
use Rattle.gates.proofs.set_gate.Goals as goal

pub returns-in_err-place_refusal : goal.returns-in_err-place_refusal
returns-in_err-place_refusal c = let a = c.args in
    let p = err_from_is_err_and c.from_residual.result c.from_residual.ensures.1 in
    rw (p.1, p.2) (set_refused_as a.gates.now c.told-gates _ _ (set_refused_lem a.domains (gates_of a.gates.now) a.domain
    a.address a.gate _ (sym c.in_err-place_refusal.ensures.answer)))

pub returns-then-leads_to : goal.returns-then-leads_to
returns-then-leads_to c = let a = c.args in
    set_refused_as a.gates.now c.told-gates _ _ (set_own a.domains (gates_of a.gates.now) a.domain a.address a.gate
    (sym c.in_ok-place_refusal.ensures.answer) (sym c.if-leads_to.ensures))

pub returns-in-Some : goal.returns-in-Some
returns-in-Some c = let a = c.args in
    let G = gates_of a.gates.now in
    set_done_as _ _ (stored G _ (new a.domains G a.domain a.address a.gate) G.count)
    (set_replaces a.domains G a.domain a.address a.gate (sym c.in_ok-place_refusal.ensures.answer)
    (sym c.if-leads_to.ensures) _ (sym c.in-Some.ensures.place))
    c.store_gate.ensures

pub returns-in-None : goal.returns-in-None
returns-in-None c = let a = c.args in
    set_refused_as a.gates.now c.told-gates _ _ (set_full a.domains (gates_of a.gates.now) a.domain a.address a.gate
    (sym c.in_ok-place_refusal.ensures.answer) (sym c.if-leads_to.ensures) (sym c.in-None.ensures.place)
    c.if-count-eq-MAX_GATES.true)

pub returns-in-None-2 : goal.returns-in-None-2
returns-in-None-2 c = let a = c.args in
    let G = gates_of a.gates.now in
    set_done_as _ _ (stored G G.count (new a.domains G a.domain a.address a.gate) (G.count + 1))
    (set_adds a.domains G a.domain a.address a.gate (sym c.in_ok-place_refusal.ensures.answer)
    (sym c.if-leads_to.ensures) (sym c.in-None-2.ensures.place) c.if-count-eq-MAX_GATES.false)
    c.store_gate-in-None-2.ensures
