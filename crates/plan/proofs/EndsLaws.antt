-- Laws of planning one height in the words of a plan: the edges are drafted, and then take their places.
use Prim.Native.Nat.{ℕ, suc, ◌+◌, ◌<◌}
use mathlib.Core.Path.{◌≡◌, refl, sym, subst, fun_ext, ap, ◌∙◌}
use mathlib.Core.Logic.{◌≢◌, ⊎_elim}
use Rattle.std.specs.Prelude.{Option, Some, None, is_some}
use mathlib.Core.Bool.{Bool, true, false, not}
use mathlib.Core.List.{List}
use native.Mathlib.Omega.{arith}
use lib.ListN.{length}
use borrow.Author.Tests.{lt-ltb}
use Rattle.theory.specs.Pool.{words, right_of}
use Rattle.theory.specs.Settled.{Settled}
use Rattle.theory.proofs.Logic.{and_both}
use Rattle.table.specs.declared.Shape.{Shape}
use Rattle.table.specs.Shape.{InRange, Fits}
use Rattle.table.specs.Map.{leads, form_of}
use Rattle.places.specs.Count.{heights}
use Rattle.places.specs.Final.{place_at}
use Rattle.places.proofs.OldLaws.{place_low}
use Rattle.census.specs.Census.{Owners}
use Rattle.targets.specs.declared.Paint.{Paint}
use Rattle.plan.specs.declared.Edge.{Edge}
use Rattle.plan.specs.declared.Ends.{Ends}
use Rattle.plan.specs.Plan.{plan_words, edge_word, edge_in, ends_in, put_edge, Beside}
use Rattle.plan.specs.Planning.{Regular, first_of, last_of}
use Rattle.plan.specs.Edges.{edge_at, kept_at, EndsAre, PlansEnds, TakenIs, TakesPlace}
use Rattle.plan.proofs.Giving.{ends_at, GivesOut}
use Rattle.plan.proofs.KeptLaws.{kept_all}
use Rattle.plan.proofs.GiveLaws.{given_none, given_one, given_second_none, given_two}
use Rattle.plan.proofs.PlanLaws.{told_ends}
use Rattle.plan.proofs.LayoutLaws.{put_told, beside_both, edge_below, edge_above, ends_are, last_after}
use Rattle.plan.proofs.LayoutLaws.{first_low}

-- Which tables are kept is told by the numbers of the edges and by whether their entries lead.
kept_like : (o : List ℕ) (h d : ℕ) (a b : Ends) → a.first.number ≡ b.first.number
    → leads 1 a.first.last ≡ leads 1 b.first.last
    → a.last ≡ b.last
    → kept_at o h d a ≡ kept_at o h d b
kept_like o h d a b n l e = fun_ext (λ p. rw (n, l, e) refl)

-- An edge that takes a place keeps its number, and leads where it led.
taken_like : {f : ℕ → Bool} {c : ℕ} {s : Shape} {h : ℕ} {e g : Edge} {x : ℕ} → InRange s → h < heights
    → TakenIs f c s h e g (Some x)
    → (g.number ≡ e.number) × (leads 1 g.last ≡ leads 1 e.last)
taken_like {s = s} {h = h} {e = e} r hi t = ⊎_elim
    (λ y. (ap (λ (a : Edge). a.number) y.1, ap (λ (a : Edge). leads 1 a.last) y.1))
    (λ k. (
      k.same_number,
      ap (leads 1) k.points ∙ lt-ltb (place_at s h k.place) 2147483648 (place_low s h k.place r hi k.first.high)
          ∙ sym (and_both (leads (suc h) e.last) (not (leads (suc h) e.old)) k.makes_new).0,
    ))
    t

module _ (p : List ℕ) (s : Shape) (o : List ℕ) (d : ℕ) (paint : Paint) (fits : Fits s (length p))
    (settled : Settled (form_of s) (words p)) (own : Owners p s o) (bd : d < s.domains) (regular : Regular paint)
    (h : ℕ) (hi : h < heights) where
  -- The pool as words, and the edge of a block before places are given out.
  abbrev P : ℕ → ℕ
  P = words p

  abbrev edge : ℕ → Edge
  edge = edge_at P d paint (right_of (form_of s) P d) h

  -- Where the words of the first edge begin, and those of the last.
  abbrev F : ℕ
  F = edge_word h true

  abbrev L : ℕ
  L = edge_word h false

  -- The places of kept tables, by the edges in the words of a plan.
  abbrev kept : List ℕ → ℕ → Bool
  kept l = kept_at o h d (ends_in l h)

  -- Once the edges are drafted, places can be given out.
  gives : (l : List ℕ) → ends_in l h ≡ ends_at P d paint (right_of (form_of s) P d) h
      → GivesOut s d paint P h (kept l) (ends_in l h)
  gives l e =
      let told = told_ends s d paint P regular h hi e in
      record {
        height = hi;
        range = fits.range;
        settled = settled;
        domain = bd;
        regular = regular;
        kept = kept_all p s d paint fits settled o own h hi told;
        told = told;
      }

  -- The words of the last edge follow those of the first.
  after : L ≡ F + 3
  after = last_after h

  -- The words of the plan from step to step: `l₁` once the first edge is drafted, `l₂` once the last is, `l₃` once the
  -- first has its place, and `l₄` at the end.
  module _ (l₀ l₁ : List ℕ) (long : length l₀ ≡ plan_words) (put₁ : l₁ ≡ put_edge l₀ F (edge (first_of h paint))) where
    -- The first edge is read back, and there is room for the last.
    room₀ : F + 2 < length l₀
    room₀ = let (_, b) = first_low h in omega arith

    first_told : edge_in l₁ F ≡ edge (first_of h paint)
    first_told = (put_told l₀ F (edge (first_of h paint)) put₁ room₀).0

    beside₁ : Beside F 3 l₀ l₁
    beside₁ = (put_told l₀ F (edge (first_of h paint)) put₁ room₀).1

    room₁ : L + 2 < length l₁
    room₁ = let (_, b) = first_low h in let e = after in let z = beside₁.long in omega arith

    -- An edge is stored after it, and the first takes its place.
    module _ (l₂ l₃ : List ℕ) (e : Edge) (put₂ : l₂ ≡ put_edge l₁ L e) (r : Option ℕ)
        (t : TakesPlace (kept l₂) 0 s h F l₂ l₃ r) where
      -- Both edges are read back,
      beside₂ : Beside L 3 l₁ l₂
      beside₂ = (put_told l₁ L e put₂ room₁).1

      first_stays : edge_in l₂ F ≡ edge (first_of h paint)
      first_stays = let z = after in edge_below F (omega arith) beside₂ ∙ first_told

      last_told : edge_in l₂ L ≡ e
      last_told = (put_told l₁ L e put₂ room₁).0

      -- the other words are as they were,
      beside₃ : Beside F 6 l₀ l₃
      beside₃ =
          let z = after in
          beside_both F 6 (omega arith) (omega arith) (omega arith) (omega arith)
          (beside_both F 6 (omega arith) (omega arith) (omega arith) (omega arith) beside₁ beside₂) t.beside

      room₃ : L + 2 < length l₃
      room₃ = let (_, b) = first_low h in let z = after in let u = beside₃.long in omega arith

      -- and with the edge of the last block the height is drafted.
      drafted : e ≡ edge (last_of h paint) → ends_in l₂ h ≡ ends_at P d paint (right_of (form_of s) P d) h
      drafted q = ends_are l₂ h first_stays (last_told ∙ q)

    -- Both edges are one, which takes its place before it is stored again.
    module _ (l₂ l₃ l₄ : List ℕ) (same : first_of h paint ≡ last_of h paint)
        (put₂ : l₂ ≡ put_edge l₁ L (edge (first_of h paint)))
        (r : Option ℕ) (t : TakesPlace (kept l₂) 0 s h F l₂ l₃ r) (put₄ : l₄ ≡ put_edge l₃ L (edge_in l₃ F)) where
      -- It is read back in both places ..
      again : (edge_in l₄ L ≡ edge_in l₃ F) × Beside L 3 l₃ l₄
      again = put_told l₃ L (edge_in l₃ F) put₄ (room₃ l₂ l₃ (edge (first_of h paint)) put₂ r t)

      -- .. what was known of it lets the places be given out ..
      one_gives : GivesOut s d paint P h (kept l₂) (ends_in l₂ h)
      one_gives = gives l₂ (drafted l₂ l₃ (edge (first_of h paint)) put₂ r t (ap edge same))

      -- .. and so the height is planned.
      one_ends : ends_in l₄ h ≡ record { first = edge_in l₃ F; last = edge_in l₃ F }
      one_ends = let z = after in ends_are l₄ h (edge_below F (omega arith) again.1) again.0

      one_are : (r : Option ℕ) → TakenIs (kept l₂) 0 s h (edge_in l₂ F) (edge_in l₃ F) r
          → EndsAre s d paint P h (is_some r) (ends_in l₄ h)
      one_are (Some x) k =
          let told = one_gives.told in
          subst (EndsAre s d paint P h true) (sym one_ends) (given_one one_gives (edge_in l₃ F) x
          (told.first_told.number ∙ same ∙ sym told.last_told.number) k)
      one_are None k = given_none one_gives (edge_in l₃ F) (ends_in l₄ h) k

      pub one_planned : PlansEnds s d paint P h l₀ l₄ (is_some r)
      one_planned =
          let z = after in
          record {
            ends = one_are r t.taken;
            beside = beside_both F 6 (omega arith) (omega arith) (omega arith) (omega arith)
                (beside₃ l₂ l₃ (edge (first_of h paint)) put₂ r t) again.1;
          }

    -- The last edge is another ..
    module _ (l₂ l₃ : List ℕ) (apart : first_of h paint ≢ last_of h paint)
        (put₂ : l₂ ≡ put_edge l₁ L (edge (last_of h paint))) where
      -- What is known of both lets the places be given out.
      two_gives : (r : Option ℕ) → TakesPlace (kept l₂) 0 s h F l₂ l₃ r
          → GivesOut s d paint P h (kept l₂) (ends_in l₂ h)
      two_gives r t = gives l₂ (drafted l₂ l₃ (edge (last_of h paint)) put₂ r t refl)

      -- The first finds no place.
      pub first_full : TakesPlace (kept l₂) 0 s h F l₂ l₃ None → PlansEnds s d paint P h l₀ l₃ false
      first_full t = record {
        ends = given_none (two_gives None t) (edge_in l₃ F) (ends_in l₃ h) t.taken;
        beside = beside₃ l₂ l₃ (edge (last_of h paint)) put₂ None t;
      }

      -- .. and takes its place after the first.
      module _ (l₄ : List ℕ) (x : ℕ) (t : TakesPlace (kept l₂) 0 s h F l₂ l₃ (Some x)) (r : Option ℕ)
          (u : TakesPlace (kept l₃) x s h L l₃ l₄ r) where
        -- The edges differ.
        numbers : (edge_in l₂ F).number ≢ (edge_in l₂ L).number
        numbers z =
            let told = (two_gives (Some x) t).told in
            apart (sym told.first_told.number ∙ z ∙ told.last_told.number)

        -- That the first has its place leaves the last, and which tables are kept.
        same_last : edge_in l₃ L ≡ edge_in l₂ L
        same_last = let z = after in edge_above L (omega arith) t.beside

        same_kept : kept l₃ ≡ kept l₂
        same_kept =
            let (n, l) = taken_like fits.range hi t.taken in
            kept_like o h d (ends_in l₃ h) (ends_in l₂ h) n l same_last

        -- So the height is planned.
        two_ends : ends_in l₄ h ≡ record { first = edge_in l₃ F; last = edge_in l₄ L }
        two_ends = let z = after in ends_are l₄ h (edge_below F (omega arith) u.beside) refl

        two_are : (r : Option ℕ) → TakenIs (kept l₂) x s h (edge_in l₂ L) (edge_in l₄ L) r
            → EndsAre s d paint P h (is_some r) (ends_in l₄ h)
        two_are (Some y) k = subst (EndsAre s d paint P h true) (sym two_ends)
            (given_two (two_gives (Some x) t) (edge_in l₃ F) x (edge_in l₄ L) y numbers t.taken k)
        two_are None k = given_second_none (two_gives (Some x) t) (edge_in l₃ F) x (edge_in l₄ L) (ends_in l₄ h) numbers
            t.taken k

        pub two_planned : PlansEnds s d paint P h l₀ l₄ (is_some r)
        two_planned =
            let z = after in
            record {
              ends = two_are r (subst (λ f. TakenIs f x s h (edge_in l₂ L) (edge_in l₄ L) r) same_kept
                  (subst (λ e. TakenIs (kept l₃) x s h e (edge_in l₄ L) r) same_last u.taken));
              beside = beside_both F 6 (omega arith) (omega arith) (omega arith) (omega arith)
                  (beside₃ l₂ l₃ (edge (last_of h paint)) put₂ (Some x) t) u.beside;
            }
