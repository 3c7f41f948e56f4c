-- `plan::plan_change` meets its contract.
use Prim.Native.Nat.{ℕ, ◌-◌}
use mathlib.Core.Path.{sym, subst, ◌∙◌}
use native.Mathlib.Omega.{arith}
use native.Mathlib.Decide.{ℕ_discrete}
use Rattle.theory.specs.Pool.{words}
use Rattle.plan.specs.Plan.{ends_in, plan_in}
use Rattle.plan.specs.Edges.{EndsPlaced}
use Rattle.plan.proofs.PlanLaws.{plan_ready}
use Rattle.plan.proofs.LayoutLaws.{ends_in_lem, ends_beside, domain_beside, paint_beside}
use Rattle.plan.proofs.plan_change.Goals as goal

pub loop-height-preserved : goal.loop-height-preserved
loop-height-preserved c =
    let a = c.args in
    let h = c.loop-height.height - 1 in
    let m = c.plan_ends.new.plan in
    let i = c.loop-height.invariant in
    let done = c.if-not-plan_ends.ensures in
    let Here : ℕ → Type 0 = λ g. EndsPlaced a.shape a.domain a.paint (words a.pool.now) g (ends_in m g) in (
      domain_beside h done.beside ∙ i.0,
      paint_beside h done.beside ∙ i.1,
      λ g lo up. elim (ℕ_discrete g h) [
        | yes e ↦ subst Here (sym e) done.ends
        | no e ↦ subst (EndsPlaced a.shape a.domain a.paint (words a.pool.now) g)
            (sym (ends_beside h g (omega arith) up e done.beside)) (i.2 g (omega arith) up)
      ],
    )

pub returns : goal.returns
returns c =
    let a = c.args in
    let q = c.loop-height in
    plan_ready a.shape a.domain a.paint (words a.pool.now) (plan_in q.plan) q.invariant.0 q.invariant.1
    (λ g hi. subst (EndsPlaced a.shape a.domain a.paint (words a.pool.now) g)
    (sym (ends_in_lem q.plan g)) (q.invariant.2 g (omega arith) hi))
