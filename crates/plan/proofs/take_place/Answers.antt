-- `plan::take_place` meets its contract.
use Prim.Native.Nat.{ℕ, ◌<◌, ◌≤◌}
use mathlib.Core.Path.{◌≡◌, refl, ap, ◌∙◌}
use mathlib.Core.Logic.{inl, inr, ⊎_elim}
use mathlib.Core.Bool.{true, ◌&&◌, not, and-false}
use native.Mathlib.Omega.{arith}
use borrow.Author.Tests.{lt-ltb, le-ltb}
use Rattle.table.specs.Map.{leads}
use Rattle.plan.specs.declared.Edge.{Edge}
use Rattle.plan.specs.Plan.{edge_in, is_new}
use Rattle.plan.proofs.LayoutLaws.{beside_none, beside_set, edge_set}
use Rattle.plan.proofs.take_place.Goals as goal

-- An edge that leads, and whose old entry did not, gets a table that it did not have.
new : (h : ℕ) (e : Edge) → e.last < 2147483648 → 2147483648 ≤ e.old → is_new h e ≡ true
new h e l o = ap (λ t. t && not (leads 1 e.old)) (lt-ltb _ _ l) ∙ ap not (le-ltb _ _ o)

pub returns-then-last-ge-BIT_31 : goal.returns-then-last-ge-BIT_31
returns-then-last-ge-BIT_31 c = let a = c.args in
    let e : Edge = edge_in a.plan.now a.i in
    record {
      taken = inl (
        ⊎_elim (λ x. ap (λ t. t && not (leads 1 e.old)) (le-ltb _ _ x))
            (λ x. ap (λ t. leads 1 e.last && not t) (lt-ltb _ _ x.1) ∙ and-false (leads 1 e.last))
            c.then-last-ge-BIT_31.either,
        refl,
        refl,
      );
      beside = beside_none a.i 3 a.plan.now;
    }

pub returns-in_err-place : goal.returns-in_err-place
returns-in_err-place c = let a = c.args in
    rw c.from_residual.ensures (record {
      taken = (
        new a.height (edge_in a.plan.now a.i) c.if-last-ge-BIT_31.false c.if-old-lt-BIT_31.false,
        rw c.places_of-count.ensures at c.in_err-place.ensures,
      );
      beside = beside_none a.i 3 a.plan.now;
    })

pub returns : goal.returns
returns c = let a = c.args in
    let l = a.plan.now in
    let k = ap (λ w. w.0) c.first_place.ensures in
    let b = c.requires.from_bound.1 in
    let g = edge_set l a.i c.entry.result (omega arith) in
    record {
      taken = inr (record {
        makes_new = new a.height (edge_in l a.i) c.if-last-ge-BIT_31.false c.if-old-lt-BIT_31.false;
        place = c.in_ok-place.place;
        first = rw c.places_of-count.ensures at c.in_ok-place.ensures;
        same_number = ap (λ (x : Edge). x.number) g;
        same_old = ap (λ (x : Edge). x.old) g;
        points = ap (λ (x : Edge). x.last) g ∙ c.entry.ensures ∙ ap (λ w. w.0) c.after-table.ensures
            ∙ rw (k, c.size_of.ensures) refl;
        next = refl;
      });
      beside = beside_set l a.i c.entry.result;
    }
