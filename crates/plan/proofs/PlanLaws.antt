-- Laws that join the steps of planning: from the draft to the places, and from the places to a plan that is ready, or
-- to no room.
use Prim.Native.Nat.{ℕ, ◌<◌}
use mathlib.Core.Path.{◌≡◌, sym, subst}
use mathlib.Core.Bool.{Bool, false}
use Rattle.theory.specs.Pool.{right_of}
use Rattle.table.specs.declared.Shape.{Shape}
use Rattle.table.specs.Map.{form_of}
use Rattle.places.specs.Count.{heights}
use Rattle.places.proofs.HeightLaws.{choose}
use Rattle.targets.specs.declared.Paint.{Paint}
use Rattle.plan.specs.declared.Edge.{Edge}
use Rattle.plan.specs.declared.Ends.{Ends}
use Rattle.plan.specs.Plan.{Plan, ends_of}
use Rattle.plan.specs.Planning.{Regular}
use Rattle.plan.specs.Edges.{EdgeIs, EndsIs, PlanReady, Placed, EndsPlaced}
use Rattle.plan.proofs.Giving.{ends_at, EndsTold}
use Rattle.plan.proofs.DraftLaws.{drafted_ends}

-- A draft tells its edges.
pub told_ends : (s : Shape) (d : ℕ) (paint : Paint) (P : ℕ → ℕ) → Regular paint → (h : ℕ) → h < heights → {ends : Ends}
    → ends ≡ ends_at P d paint (right_of (form_of s) P d) h → EndsTold s d paint P h ends
told_ends s d paint P g h hi e = subst (EndsTold s d paint P h) (sym e) (drafted_ends s d paint P g h hi)

-- Edges are right by the owners of their own height alone.
module _ (s : Shape) (d : ℕ) (paint : Paint) (P : ℕ → ℕ) (owner : ℕ → ℕ → ℕ) (h : ℕ) where
  edge_owned : {n : ℕ} {e : Edge} → EdgeIs s d paint P (λ g. owner h) h n e → EdgeIs s d paint P owner h n e
  edge_owned b = record { number = b.number; old = b.old; last = b.last }

  ends_owned : {ends : Ends} → EndsIs s d paint P (λ g. owner h) h ends → EndsIs s d paint P owner h ends
  ends_owned b = record { first = edge_owned b.first; last = edge_owned b.last }

-- Where the tables of each height have their places, the plan with these edges is ready.
pub plan_ready : (s : Shape) (d : ℕ) (paint : Paint) (P : ℕ → ℕ) (q : Plan) → q.domain ≡ d → q.paint ≡ paint
    → ((h : ℕ) → h < heights → EndsPlaced s d paint P h (ends_of q h))
    → PlanReady s d paint P q
plan_ready s d paint P q for_domain for_paint all =
    let (f, told) = choose {A = (ℕ → Bool) × (ℕ → ℕ)} (λ h x. Placed s d paint P h x.0 x.1
    × EndsIs s d paint P (λ g. x.1) h (ends_of q h)) ((λ p. false), λ p. 0)
    (λ h hi. let e = all h hi in ((e.free, e.owner), (e.placed, e.right))) in
    record {
      free = λ h. (f h).0;
      owner = λ h. (f h).1;
      placed = λ h hi. (told h hi).0;
      edges = record {
        for_domain = for_domain;
        for_paint = for_paint;
        ends = λ h hi. ends_owned s d paint P (λ g. (f g).1) h (told h hi).1;
      };
    }
