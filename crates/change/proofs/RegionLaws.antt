-- From a request to its plan, and from the end of the loop to the answer of a change.
use Prim.Native.Nat.{ℕ, ◌≤◌, ◌<◌}
use mathlib.Core.Path.{◌≡◌, sym, ap, ◌∙◌}
use mathlib.Core.Bool.{Bool, true, false}
use mathlib.Core.List.{List}
use native.Mathlib.Omega.{arith}
use lib.ListN.{length}
use Rattle.std.specs.Prelude.{Result, Ok, Err}
use Rattle.refusals.specs.declared.Refusal.{Refusal}
use Rattle.theory.specs.Pool.{words}
use Rattle.theory.specs.Settled.{Settled}
use Rattle.table.specs.declared.Shape.{Shape}
use Rattle.table.specs.Shape.{Fits}
use Rattle.table.specs.Map.{form_of}
use Rattle.places.specs.Count.{Room}
use Rattle.targets.specs.declared.Paint.{Paint}
use Rattle.words.specs.Region.{region_of}
use Rattle.words.specs.declared.Region.{Region}
use Rattle.words.proofs.RegionLaws.{region_covering}
use Rattle.plan.specs.Plan.{Plan, PlanFits}
use Rattle.plan.specs.Planning.{Regular, first_of, last_of}
use Rattle.plan.specs.Goals.{Planned}
use Rattle.plan.specs.Edges.{PlanReady, PlansChange}
use Rattle.plan.proofs.PlannedLaws.{planned}
use Rattle.targets.specs.Paints.{paint_of}
use Rattle.plan.specs.Aims.{Aim, aim_of, change_aim, aimed_at}
use Rattle.change.specs.declared.Ending.{Ending}
use Rattle.change.specs.Runs.{Change}
use Rattle.change.specs.Answers.{Asked, ChangesRegion, Changes, in_order, done, cut}
use Rattle.change.specs.Requests.{RegionIs, RequestIs}
use Rattle.change.specs.Runs.{Ready, Ends, all_made, cut_short}

ready_for : (p : List ℕ) (s : Shape) (A : Aim) (q : Plan) {G : ℕ → ℕ} {K : ℕ → Bool} → Fits s (length p)
    → PlanFits q
    → Planned s A q p G K → Ready s A (Change q) p
ready_for p s A q {G} {K} f r pl =
    record { fits = f; goal = G; kept = K; due = pl.goal; meant = pl; follows = (r, omega arith, omega arith) }

-- A plan that is right at its edges is ready to be carried out.
pub plan_ready : (p : List ℕ) (s : Shape) (d : ℕ) (paint : Paint) (q : Plan) → Fits s (length p)
    → Settled (form_of s) (words p) → ((k : ℕ) → words p k < 4294967296) → d < s.domains → Regular paint
    → PlanReady s d paint (words p) q → Ready s (aim_of d paint) (Change q) p
plan_ready p s d paint q f t small bd g r =
    let e = r.edges in
    ready_for p s (aim_of d paint) q f
    (record {
      domain = let z = f.range.domains in let y = e.for_domain in omega arith;
      region = rw e.for_paint g;
      first = λ h hi. (e.ends h hi).first.number ∙ ap (first_of h) (sym e.for_paint);
      last = λ h hi. (e.ends h hi).last.number ∙ ap (last_of h) (sym e.for_paint);
    })
    (planned s d paint p f t small bd g r.free r.placed q e)

-- What the planning says, where it is ready, and where there is no room.
module _ (p : List ℕ) (s : Shape) (d : ℕ) (paint : Paint) (r : Bool) (q : Plan)
    (z : PlansChange s d paint (words p) r q) where
  pub planning_ready : r ≡ true → PlanReady s d paint (words p) q
  planning_ready e = rw e at z

  pub planning_none : r ≡ false → Room s (aimed_at s (aim_of d paint) (words p)) → ⊥
  planning_none e = rw e at z

-- The request of a region that is in order.
pub request_is : (p : List ℕ) (s : Shape) (d start len r : ℕ) {g : Region} (q : Plan) (t : Result (Unit {0}) Refusal)
    → Asked p s d start len r g → RegionIs p s (change_aim d g r) q t
    → RequestIs p s d start len r q t
request_is p s d start len r {g} q (Err k) a f = λ n. in_order g a (f n)
request_is p s d start len r {g} q (Ok _) a (t, y) = (g, a, t, y)

-- What the end of the loop says of the change.
pub region_answers : {s : Shape} {A : Aim} {p : List ℕ} {n : ℕ} {a : Ending} {y : List ℕ}
    → Settled (form_of s) (words p)
    → Ends p s A n a y → ChangesRegion p s A n (Ok a) y
region_answers t (all_made q d) = done t q d
region_answers t (cut_short x c) = cut t x c

-- A request that was planned.
module _ {p : List ℕ} {s : Shape} {d start len r : ℕ} {q : Plan} (planned : RequestIs p s d start len r q (Ok tt)) where
  pub request_answers : {n : ℕ} {a : Ending} {y : List ℕ} → Ends p s (aim_of q.domain q.paint) n a y
      → Changes p s d start len r n (Ok a) y
  request_answers e = let (g, a, t, y) = planned in in_order g a (region_answers t (rw (← y.meant.aim) at e))

-- A region that was rounded may be changed.
pub covers_regular : (start len r : ℕ) (g : Region) → r ≤ 3 → region_of start len ≡ Ok g → Regular (paint_of g r)
covers_regular start len r g h e = let c = region_covering start len g e in
    record { some = c.some; below = c.below; right = omega arith }
