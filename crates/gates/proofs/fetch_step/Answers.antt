-- `gates::fetch_step` meets its contract.
use mathlib.Core.Path.{sym, ap, ◌∙◌}
use Rattle.std.proofs.Common.{Some}
use Rattle.std.proofs.lemmas.Result.{err_from_is_err_and}
use Rattle.gates.specs.Layout.{gates_of, stack_of}
use Rattle.gates.proofs.StepLaws.{step_refused_lem, step_by_gate}
use Rattle.gates.proofs.LayoutLaws.{stack_words_lem, step_stays_as}
use Rattle.gates.proofs.fetch_step.Goals as goal

pub returns-in_err-step_refusal : goal.returns-in_err-step_refusal
returns-in_err-step_refusal c = let a = c.args in
    let p = err_from_is_err_and c.from_residual.result c.from_residual.ensures.1 in
    rw (p.1, p.2) (step_stays_as a.stack.now c.told-stack _ _ (step_refused_lem a.pool.now a.shape
    (gates_of a.gates.now) (stack_of a.stack.now) a.address a.target _ (sym c.in_err-step_refusal.ensures.answer)))

-- In each of the three below, the step goes by what was found.
pub returns-in-None : goal.returns-in-None
returns-in-None c = let a = c.args in
    let by_gate = step_by_gate a.pool.now a.shape (gates_of a.gates.now) (stack_of a.stack.now) a.address a.target
    (sym c.in_ok-step_refusal.ensures.answer) (sym c.in-None.ensures) in
    rw by_gate (c.plain_step.ensures, sym (stack_words_lem a.stack.now c.told-stack))

pub returns-in-Some-Switch : goal.returns-in-Some-Switch
returns-in-Some-Switch c = let a = c.args in
    let by_gate = step_by_gate a.pool.now a.shape (gates_of a.gates.now) (stack_of a.stack.now) a.address a.target
    (sym c.in_ok-step_refusal.ensures.answer) (sym c.in-Some-Switch.ensures ∙ ap Some c.in-Some-Switch.field-0-is) in
    rw by_gate c.switch_step.ensures

pub returns-in-Some-Return : goal.returns-in-Some-Return
returns-in-Some-Return c = let a = c.args in
    let by_gate = step_by_gate a.pool.now a.shape (gates_of a.gates.now) (stack_of a.stack.now) a.address a.target
    (sym c.in_ok-step_refusal.ensures.answer) (sym c.in-Some-Return.ensures ∙ ap Some c.in-Some-Return.field-0-is) in
    rw by_gate c.return_step.ensures
