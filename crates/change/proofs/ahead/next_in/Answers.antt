-- `ahead::next_in` meets its contract.
use mathlib.Core.Path.{sym, ap, ◌∙◌}
use mathlib.Core.Bool.{not}
use mathlib.Core.Logic.{inl, inr, ⊎_elim}
use native.Mathlib.Omega.{arith}
use borrow.Author.Tests.{ne_eqb}
use Rattle.plan.specs.Plan.{plan_in}
use Rattle.change.proofs.AheadLaws.{ahead_as, ahead_both, kept_idle, given_idle}
use Rattle.change.proofs.ahead.next_in.Goals as goal

pub returns-in-1 : goal.returns-in-1
returns-in-1 c = ahead_as c.next_high.ensures
    (λ j z. ⊎_elim
    (⊎_elim inl (λ y. inr (inl (y ∙ sym (ap not (ne_eqb c.args.c 2 (λ e. omega (arith, c.in-1.is))))))))
    (λ y. inr (inr (c.in-1.is, y)))
    (given_idle (plan_in c.args.plan.now) j z))

pub returns-in_default : goal.returns-in_default
returns-in_default c =
    ahead_as (ahead_both c.next_high-in_default.ensures c.next_low.ensures)
    (λ j z. ⊎_elim inl (λ y. inr (inl (y ∙ sym (ap not (ne_eqb c.args.c 2 (λ e. omega arith))))))
    (kept_idle (plan_in c.args.plan.now) j z.0 z.1))
