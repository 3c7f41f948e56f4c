-- `ahead::next_row` meets its contract.
use Prim.Native.Nat.{ℕ, ◌<◌}
use mathlib.Core.Path.{◌≡◌, sym, ap, ◌∙◌}
use mathlib.Core.List.{List}
use mathlib.Core.Logic.{◌≢◌, ⊎_elim}
use native.Mathlib.Omega.{arith}
use borrow.Author.Tests.{eqb-true, eqb-false}
use lib.ListN.{length}
use Rattle.table.specs.declared.Shape.{Shape}
use Rattle.plan.specs.Plan.{plan_in}
use Rattle.change.specs.Runs.{Change}
use Rattle.change.specs.Runs.{Run, Stands}
use Rattle.change.proofs.TurnLaws.{row_turn, row_ahead}
use Rattle.change.proofs.ahead.next_row.Goals as goal
use Rattle.change.proofs.ahead.next_row.Goals.{then-index, else-index}

pub returns-then-eq : goal.returns-then-eq
returns-then-eq c = let a = c.args in record {
  row = (omega arith, omega arith);
  last = omega arith;
  moves = omega arith;
  comes = λ s u x e y. row_turn s (plan_in a.plan.now) a.at.phase a.at.past.0 x u y
      (eqb-true a.at.past.0 a.end.0 (sym c.if-eq.ensures) ∙ sym e);
}

pub returns : goal.returns
returns c =
    let a = c.args in
    let q = plan_in a.plan.now in
    let r = c.next_in-row.ensures in
    let row = c.next_in-row.result in
    let f = r.from in
    let differ : a.at.past.0 ≢ a.end.0 = eqb-false a.at.past.0 a.end.0 (sym c.if-eq.ensures) in
    let comes : (s : Shape) (u : Run s (Change q)) (x : List ℕ) → length x ≡ a.end.0
    → Stands s (Change q) u a.at.phase a.at.past.0 x → Stands s (Change q) u a.at.phase row.from.0 x =
    λ s u x e y. row_ahead s q a.at.phase a.at.past.0 x u y row.from.0 f r.passed in
    elim c.if-index.branch [
      | then-index w ↦
          let o : row.from.0 < row.past.0 = ⊎_elim (λ h. h)
          (λ e. absurd (let z = ap (λ r. r.past.0) e in omega arith)) r.some in
          let p = ap (λ w. w.0) w.past-is in
          record { row = (omega arith, omega arith); last = omega arith; moves = omega arith; comes = comes }
      | else-index w ↦
          let p = ap (λ w. w.0) w.past-is in
          let u = r.upto in
          record { row = (omega arith, omega arith); last = omega arith; moves = omega arith; comes = comes }
    ]
