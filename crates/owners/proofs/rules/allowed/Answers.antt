-- `owners::rules::allowed` meets its contract. The invariant: what is left to ask from `w` on gives the whole answer.
use Prim.Native.Nat.{ℕ, ◌≤◌, ◌<◌}
use mathlib.Core.Bool.{Bool}
use mathlib.Core.Path.{◌≡◌, refl, sym, ap, ◌∙◌}
use native.Mathlib.Omega.{arith}
use Rattle.std.proofs.Common.{unwrap_or}
use Rattle.owners.specs.Regions.{count_of, holds}
use Rattle.owners.proofs.PlaceLaws.{found_place}
use Rattle.owners.specs.Rules.{may_at, may_word}
use Rattle.owners.proofs.RuleLaws.{every_fails, every_reach, every_none}
use Rattle.owners.proofs.rules.allowed.Goals as goal
use Rattle.owners.proofs.rules.allowed.Goals.{After-may_at}

-- What the reach and the verdict tell.
module _ (c : After-may_at) where
  abbrev asked : ℕ → Bool
  asked = let a = c.args in may_word a.ws.now a.caller a.domain
      a.right

  -- One verdict for every word of the stretch.
  same : (v : ℕ) → c.loop-w.w ≤ v → v < c.reach_from-r.result.until
      → asked v ≡ c.may_at.result
  same v g h =
      let a = c.args in
      ap (λ k. may_at a.ws.now k a.caller a.domain a.right)
      (sym (found_place a.ws.now (holds v)) ∙ ap (λ x. unwrap_or x (count_of a.ws.now)) (c.reach_from-r.ensures.same v g h))
      ∙ sym c.may_at.ensures

pub loop-w-init : goal.loop-w-init
loop-w-init c = refl

pub returns-then-not-may_at : goal.returns-then-not-may_at
returns-then-not-may_at c = let a = c.args in
    sym (c.loop-w.invariant ∙ every_fails (may_word a.ws.now a.caller a.domain a.right) a.region.hi
    c.loop-w.w (omega arith)
    (same (goal.at.returns-then-not-may_at c).After-may_at c.loop-w.w (omega arith) c.reach_from-r.ensures.further
    ∙ c.if-not-may_at.true))

pub loop-w-smaller : goal.loop-w-smaller
loop-w-smaller c = let f = c.reach_from-r.ensures.further in omega arith

pub loop-w-preserved : goal.loop-w-preserved
loop-w-preserved c = let a = c.args in
    let f = c.reach_from-r.ensures.further in
    c.loop-w.invariant ∙ every_reach (may_word a.ws.now a.caller a.domain a.right) a.region.hi c.loop-w.w _
    (omega arith) (λ v g h. same (goal.at.loop-w-preserved c).After-may_at v g h ∙ c.if-not-may_at.false)

pub returns : goal.returns
returns c = let a = c.args in
    sym (c.loop-w.invariant ∙ every_none (may_word a.ws.now a.caller a.domain a.right) a.region.hi
    c.loop-w.w (omega arith))
