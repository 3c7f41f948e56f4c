-- `gates::steps::give_back` meets its contract.
use mathlib.Core.Path.{◌≡◌, refl, sym, ◌∙◌}
use native.Mathlib.Omega.{arith}
use borrow.Author.Tests.{eq-eqb, ne_eqb, not-true, not-false}
use Rattle.gates.specs.Steps.{top, given_back}
use Rattle.gates.specs.Layout.{stack_of}
use Rattle.gates.proofs.LayoutLaws.{frames_at, step_stays_as, popped_words}
use Rattle.gates.proofs.steps.give_back.Goals as goal
use Rattle.gates.proofs.steps.give_back.Goals.{After-frame_at-caller}

-- The frame that was read is the top one.
is_top : (c : After-frame_at-caller) → top (stack_of c.args.stack.now) ≡ c.frame_at-caller.result
is_top c = frames_at c.args.stack.now _ (omega arith) ∙ sym c.frame_at-caller.ensures

pub returns-then-depth-eq0 : goal.returns-then-depth-eq0
unfolding given_back
returns-then-depth-eq0 c = step_stays_as c.args.stack.now c.told-stack _ _ (rw (eq-eqb _ 0 c.if-depth-eq0.true))

pub returns-then-ne : goal.returns-then-ne
unfolding given_back
returns-then-ne c = step_stays_as c.args.stack.now c.told-stack _ _ (rw (
  ne_eqb _ 0 c.if-depth-eq0.false,
  is_top (goal.at.returns-then-ne c).After-frame_at-caller,
  not-true _ (sym c.if-ne.ensures),
))

pub returns : goal.returns
unfolding given_back
returns c = rw (
  ne_eqb _ 0 c.if-depth-eq0.false,
  is_top (goal.at.returns c).After-frame_at-caller,
  not-false _ (sym c.if-ne.ensures),
) (refl, popped_words c.args.stack.now _ _ c.told-stack)
