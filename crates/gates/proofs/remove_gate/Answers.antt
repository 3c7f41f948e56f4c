-- `gates::remove_gate` meets its contract.
use mathlib.Core.Path.{◌≡◌, sym, ◌∙◌}
use native.Mathlib.Omega.{arith}
use Rattle.std.proofs.Common.{Some, None}
use Rattle.std.proofs.lemmas.Result.{err_from_is_err_and}
use Rattle.refusals.specs.declared.Refusal.TheVariants.{NoGate}
use Rattle.gates.specs.Gates.{without}
use Rattle.gates.specs.Layout.{gates_of}
use Rattle.gates.proofs.GateLaws.{remove_refused, remove_missing, remove_takes_out}
use Rattle.gates.proofs.LayoutLaws.{set_refused_as, set_done_as}
use Rattle.gates.proofs.remove_gate.Goals as goal

pub returns-in_err-place_refusal : goal.returns-in_err-place_refusal
returns-in_err-place_refusal c = let a = c.args in
    let p = err_from_is_err_and c.from_residual.result c.from_residual.ensures.1 in
    rw (p.1, p.2) (set_refused_as a.gates.now c.told-gates _ _ (remove_refused a.domains (gates_of a.gates.now) a.domain
    a.address _ (sym c.in_err-place_refusal.ensures.answer)))

pub returns-in_err-place : goal.returns-in_err-place
returns-in_err-place c = let a = c.args in
    let G = gates_of a.gates.now in
    let p = err_from_is_err_and c.from_residual-in_err-place.result c.from_residual-in_err-place.ensures.1 in
    let e : c.in_err-place.field-0.0 ≡ NoGate = grind arith in
    let none : c.place_of.result ≡ None = grind arith in
    rw (p.1, p.2, e) (set_refused_as a.gates.now c.told-gates _ _ (remove_missing a.domains G a.domain a.address
    (sym c.in_ok-place_refusal.ensures.answer) (sym c.place_of.ensures.place ∙ none)))

pub returns : goal.returns
returns c = let a = c.args in
    let G = gates_of a.gates.now in
    let e : c.place_of.result ≡ Some c.in_ok-place.place = grind arith in
    set_done_as _ _ (without G _) (remove_takes_out a.domains G a.domain a.address
    (sym c.in_ok-place_refusal.ensures.answer) _ (sym c.place_of.ensures.place ∙ e))
    c.close_up.ensures
