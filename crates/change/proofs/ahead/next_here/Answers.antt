-- `ahead::next_here` meets its contract.
use Prim.Native.Nat.{◌<◌}
use mathlib.Core.Path.{sym, ap, ◌∙◌}
use native.Mathlib.Omega.{arith}
use lib.ListN.{length}
use Rattle.theory.specs.Pool.{words}
use Rattle.plan.specs.Plan.{plan_in}
use Rattle.change.proofs.TurnLaws.{turn_same, turn_other, turn_stores}
use Rattle.change.proofs.ahead.next_here.Goals as goal
use Rattle.change.proofs.ahead.next_here.Goals.{then-value-x-via-then-value-x, then-value-x-via-else-value-x+then-phase_of-at}

pub returns-then-value-x : goal.returns-then-value-x
returns-then-value-x c =
    let a = c.args in
    let read = ap (words a.pool.now) c.index.ensures in
    elim c.then-value-x.branch [
      | then-value-x-via-then-value-x w ↦ λ u y. turn_same a.shape (plan_in a.plan.now) a.at.phase a.at.word.0 a.pool.now
          (omega (arith, c.requires.1, c.requires.0.follows.2)) u y
          (rw (← read) (sym c.final_word-value.ensures ∙ w.if-value-x.true))
      | then-value-x-via-else-value-x+then-phase_of-at w ↦ λ u y. turn_other a.shape (plan_in a.plan.now) a.at.phase a.at.word.0 a.pool.now
          (omega (arith, c.requires.1, c.requires.0.follows.2)) u y
          (λ e. w.if-phase_of-at.true (w.phase_of.ensures ∙ rw read e))
    ]

pub returns : goal.returns
returns c =
    let a = c.args in
    let f = c.requires.0.follows in
    let h : a.at.word.0 < length a.pool.now = omega (arith, c.requires.1, f.2) in
    let read = ap (words a.pool.now) c.index.ensures in
    let e = rw read at c.final_word-value.ensures in
    let next = ap (λ w. w.0) c.after.ensures in
    rw e (record {
      inside = h;
      word = next;
      follows = (f.0, omega (arith, c.requires.1), f.2);
      stores = λ u y. turn_stores a.shape (plan_in a.plan.now) a.at.phase a.at.word.0 a.pool.now h u y
          (rw (← read) (sym c.phase_of.ensures ∙ c.if-phase_of-at.false))
          (λ z. c.if-value-x.false (e ∙ z ∙ sym read));
    })
