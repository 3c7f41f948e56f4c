-- What the program answers to a line, and to an input.
use Prim.Native.Nat.{ℕ, suc, ◌<◌, ◌≤◌}
use native.Mathlib.Omega.{arith}
use mathlib.Core.Path.{◌≡◌, refl, ap}
use mathlib.Core.Logic.{⊎_elim}
use mathlib.Core.Bool.{Bool, true, false, cond}
use mathlib.Core.List.{List, [], ◌∷◌}
use lib.Dec.{eqb}
use lib.ListN.{length}
use Rattle.words.proofs.RegionLaws.{region_number}
use Rattle.refusals.specs.declared.Refusal.{Refusal}
use Rattle.refusals.specs.Refusals.{number}
use Rattle.change.specs.declared.Ending.{Ending}
use Rattle.change.specs.declared.Ending.TheVariants.{Done, Cut}
use Rattle.change.specs.Cuts.{differing}
use Rattle.change.specs.Answers.{numbers, Changes}
use Rattle.change.specs.Answers as answers
use Rattle.change.proofs.ChangesLaws.{one_change}
use Rattle.std.proofs.Common.{Result, Ok, Err}
use Rattle.lines.specs.declared.NotOfForm.{NotOfForm}
use Rattle.lines.specs.Forms.{Said, asks}
use Rattle.rights_listing.specs.Serves.{whole, suffices, Serves, not_of_form, request, Replies, none, next}

-- ---- One line.

differing_most : (p q : List ℕ) → differing p q ≤ length p
unfolding differing
differing_most [] q = omega arith
differing_most (x ∷ p) [] = omega arith
differing_most (x ∷ p) (y ∷ q) = go (eqb x y) (differing_most p q)
  where
    go : (b : Bool) → differing p q ≤ length p → cond b (differing p q) (suc (differing p q)) ≤ suc (length p)
    go true h = omega arith
    go false h = omega arith

-- The allowance suffices: no change is cut.
pub never_cut : {p q : List ℕ} {d start len r : ℕ} → Changes p whole d start len r suffices (Ok Cut) q → ⊥
never_cut {p = p} (answers.in_order g o (answers.cut t x z)) =
    let n = z.cut.count in
    let m = differing_most p x in
    let l = o.fits.long in
    omega arith

-- A request is answered by its change.
pub serves_request : {p q : List ℕ} {d start len r k : ℕ} {said : Said} {a : Result Ending Refusal} → said ≡ asks d start len r
    → (numbers a).refusal ≡ k → Changes p whole d start len r suffices a q → Serves p said k q
serves_request e z h = rw (e, ← z) (request h)

pub serves_none : {p : List ℕ} {said : Said} {e : NotOfForm} → said ≡ Err e → Serves p said 99 p
serves_none e = rw e not_of_form

-- ---- 0 means done.

-- No refusal has the number 0.
refused_some : {p q : List ℕ} {d start len r n : ℕ} {k : Refusal} → Changes p whole d start len r n (Err k) q
    → 0 < number k
refused_some (answers.no_shape f) = omega arith
refused_some (answers.no_domain f h) = omega arith
refused_some (answers.no_right f h g) = omega arith
refused_some {start = start} {len = len} (answers.no_region f h g k z) =
    ⊎_elim (λ y. rw y (omega arith)) (λ y. rw y (omega arith)) (region_number start len k z)
refused_some (answers.in_order g o (answers.unsound u)) = omega arith
refused_some (answers.in_order g o (answers.unsettled u v)) = omega arith
refused_some (answers.in_order g o (answers.no_room u v)) = omega arith

-- A request that is answered with 0 was done.
pub zero_done : {p q : List ℕ} {d start len r k : ℕ} → k ≡ 0 → Serves p (asks d start len r) k q
    → (n : ℕ) × Changes p whole d start len r suffices (Ok (Done n)) q
zero_done {p} {q} {d} {start} {len} {r} e (request {a = a} h) = go a e h
  where
    go : (a : Result Ending Refusal) → (numbers a).refusal ≡ 0 → Changes p whole d start len r suffices a q
        → (n : ℕ) × Changes p whole d start len r suffices (Ok (Done n)) q
    go (Ok (Done n)) e h = (n, h)
    go (Ok Cut) e h = absurd (never_cut h)
    go (Err k) e h = let z = refused_some h in absurd (omega arith)

-- Done and cut are both answered with 0.
pub ended_zero : (e : Ending) → (numbers (Ok e)).refusal ≡ 0
ended_zero (Done n) = refl
ended_zero Cut = refl

-- ---- One outcome.

-- A line has one answer, and leaves one pool.
pub one_answer : {p x y : List ℕ} {said : Said} {k m : ℕ} → Serves p said k x → Serves p said m y → (k ≡ m) × (x ≡ y)
one_answer not_of_form not_of_form = (refl, refl)
one_answer (request a) (request b) = let z = one_change a b in (ap (λ c. (numbers c).refusal) z.0, z.1)

-- So have lines one after the other.
pub one_replies : {p x y : List ℕ} {said : List Said} {ks ms : List ℕ} → Replies p said ks x → Replies p said ms y
    → (ks ≡ ms) × (x ≡ y)
one_replies none none = (refl, refl)
one_replies (next a r) (next b t) =
    let (e, f) = one_answer a b in
    let (g, h) = one_replies r (rw (← f) at t) in
    (rw (e, g), h)
