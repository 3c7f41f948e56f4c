-- `change::plan_region` meets its contract.
use mathlib.Core.Path.{sym, ◌∙◌}
use mathlib.Core.Bool.{true≢false}
use native.Mathlib.Omega.{arith}
use Rattle.theory.specs.Pool.{words}
use Rattle.theory.specs.Settled.{Settled}
use Rattle.table.specs.Map.{form_of}
use Rattle.change.specs.Answers.{unsound, unsettled, no_room}
use Rattle.change.proofs.RegionLaws.{plan_ready, planning_ready, planning_none}
use Rattle.change.proofs.plan_region.Goals as goal
use Rattle.change.proofs.plan_region.Goals.{Else-not-settled}

-- Past the second test the pool is settled.
settled_here : (c : Else-not-settled) → let a =
    c.args in
    Settled (form_of a.shape) (words a.pool.now)
settled_here c = c.settled.ensures.holds (c.if-not-settled.false)

pub returns-then-not-census : goal.returns-then-not-census
returns-then-not-census c = λ n. unsound (λ z. true≢false
    (sym (c.census.ensures.whole z) ∙ c.if-not-census.true))

pub returns-then-not-settled : goal.returns-then-not-settled
returns-then-not-settled c = λ n. unsettled (c.census.ensures.sound (c.if-not-census.false))
    (λ z. true≢false (sym (c.settled.ensures.passes z) ∙ c.if-not-settled.true))

pub returns-then-not-plan_change : goal.returns-then-not-plan_change
returns-then-not-plan_change c = let a = c.args in
    λ n. no_room (settled_here (goal.at.returns-then-not-plan_change c).Else-not-settled) (planning_none a.pool.now a.shape a.domain a.paint
    c.plan_change.result _ c.plan_change.ensures (c.if-not-plan_change.true))

pub returns : goal.returns
returns c = let a = c.args in
    let t = settled_here (goal.at.returns c).Else-not-settled in (
      t,
      plan_ready a.pool.now a.shape a.domain a.paint _ c.requires.fits t
          (λ i. omega (arith, c.type_inv.pool i)) c.requires.domain_lt_domains.0 c.requires.domain_lt_domains.1
          (planning_ready a.pool.now a.shape a.domain a.paint c.plan_change.result _
          c.plan_change.ensures (c.if-not-plan_change.false)),
    )
