-- What a change answers and leaves is settled by its input, and by the rounding of its region; and a refusal leaves the
-- pool as it came.
use Prim.Native.Nat.{ℕ}
use mathlib.Core.Path.{◌≡◌, refl, sym, ap, ◌∙◌}
use mathlib.Core.List.{List}
use native.Mathlib.Omega.{arith}
use Rattle.std.specs.Prelude.{Result, Ok, Err}
use Rattle.refusals.specs.declared.Refusal.{Refusal}
use Rattle.words.specs.Region.{region_of}
use Rattle.words.specs.declared.Region.{Region}
use Rattle.table.specs.declared.Shape.{Shape}
use Rattle.places.proofs.Exists.{finished_fits}
use Rattle.plan.specs.Aims.{Aim}
use Rattle.change.specs.declared.Ending.{Ending}
use Rattle.change.specs.declared.Ending.TheVariants.{Done}
use Rattle.change.specs.Cuts.{differing}
use Rattle.change.specs.Answers.{ChangesRegion, Changes, no_shape, no_domain, no_right, no_region, in_order}
use Rattle.change.specs.Answers.{unsound, unsettled, no_room, done, cut}
use Rattle.change.proofs.DoneLaws.{one_done, done_not_cut}
use Rattle.change.proofs.ReachedLaws.{one_cut}
use Rattle.change.proofs.TidiesLaws.{Agree}

one_from_6 : {p : List ℕ} {s : Shape} {A : Aim} {n : ℕ} {a b : Result Ending Refusal} {x y : List ℕ}
    → ChangesRegion p s A n a x
    → ChangesRegion p s A n b y → Agree a x b y
one_from_6 (unsound f) (unsound g) = (refl, refl)
one_from_6 (unsound f) (unsettled g h) = absurd (f g)
one_from_6 (unsound f) (no_room g h) = absurd (f g.sound)
one_from_6 (unsound f) (done g q h) = absurd (f g.sound)
one_from_6 (unsound f) (cut g q h) = absurd (f g.sound)
one_from_6 (unsettled f u) (unsound g) = absurd (g f)
one_from_6 (unsettled f u) (unsettled g h) = (refl, refl)
one_from_6 (unsettled f u) (no_room g h) = absurd (u g)
one_from_6 (unsettled f u) (done g q h) = absurd (u g)
one_from_6 (unsettled f u) (cut g q h) = absurd (u g)
one_from_6 (no_room f u) (unsound g) = absurd (g f.sound)
one_from_6 (no_room f u) (unsettled g h) = absurd (h f)
one_from_6 (no_room f u) (no_room g h) = (refl, refl)
one_from_6 {s = s} (no_room f u) (done g q h) = absurd
    (u (finished_fits s h.finished))
one_from_6 {s = s} (no_room f u) (cut g q h) = absurd
    (u (finished_fits s h.cut.finished))
one_from_6 (done f q h) (unsound g) = absurd (g f.sound)
one_from_6 (done f q h) (unsettled g k) = absurd (k f)
one_from_6 {s = s} (done f q h) (no_room g k) = absurd
    (k (finished_fits s h.finished))
one_from_6 {p = p} (done f q h) (done g x k) = let z = one_done h k in (ap (λ y. Ok (Done (differing p y))) z, z)
one_from_6 (done f q h) (cut g x k) = absurd (done_not_cut h k)
one_from_6 (cut f q h) (unsound g) = absurd (g f.sound)
one_from_6 (cut f q h) (unsettled g k) = absurd (k f)
one_from_6 {s = s} (cut f q h) (no_room g k) = absurd
    (k (finished_fits s h.cut.finished))
one_from_6 (cut f q h) (done g x k) = absurd (done_not_cut k h)
one_from_6 (cut f q h) (cut g x k) = (refl, one_cut h k)

-- A region is rounded in one way.
pub same_region : (start len : ℕ) {g h : Region} → region_of start len ≡ Ok g → region_of start len ≡ Ok h → g ≡ h
same_region start len e f = cc

same_refusal : (start len : ℕ) {k m : Refusal} → region_of start len ≡ Err k → region_of start len ≡ Err m → k ≡ m
same_refusal start len e f = cc

pub not_both : (start len : ℕ) {g : Region} {k : Refusal} → region_of start len ≡ Ok g → region_of start len ≡ Err k
    → ⊥
not_both start len e f = cc

pub one_change : {p : List ℕ} {s : Shape} {d start len r n : ℕ} {a b : Result Ending Refusal} {x y : List ℕ}
    → Changes p s d start len r n a x
    → Changes p s d start len r n b y → Agree a x b y
one_change (no_shape f) (no_shape g) = (refl, refl)
one_change (no_shape f) (no_domain g h) = absurd (f g)
one_change (no_shape f) (no_right g h k) = absurd (f g)
one_change (no_shape f) (no_region g h k m e) = absurd (f g)
one_change (no_shape f) (in_order g u v) = absurd (f u.fits)
one_change (no_domain f h) (no_shape g) = absurd (g f)
one_change (no_domain f h) (no_domain g k) = (refl, refl)
one_change (no_domain f h) (no_right g k l) = absurd (omega arith)
one_change (no_domain f h) (no_region g k l m e) = absurd (omega arith)
one_change (no_domain f h) (in_order g u v) = let k = u.domain in absurd (omega arith)
one_change (no_right f h t) (no_shape g) = absurd (g f)
one_change (no_right f h t) (no_domain g k) = absurd (omega arith)
one_change (no_right f h t) (no_right g k l) = (refl, refl)
one_change (no_right f h t) (no_region g k l m e) = absurd (omega arith)
one_change (no_right f h t) (in_order g u v) = let k = u.right in absurd (omega arith)
one_change (no_region f h t k e) (no_shape g) = absurd (g f)
one_change (no_region f h t k e) (no_domain g l) = absurd (omega arith)
one_change (no_region f h t k e) (no_right g l m) = absurd (omega arith)
one_change {start = start} {len = len} (no_region f h t k e) (no_region g l m j z) =
    (ap Err (same_refusal start len e z), refl)
one_change {start = start} {len = len} (no_region f h t k e) (in_order g u v) = absurd
    (not_both start len u.region e)
one_change (in_order g u v) (no_shape f) = absurd (f u.fits)
one_change (in_order g u v) (no_domain f h) = let k = u.domain in absurd (omega arith)
one_change (in_order g u v) (no_right f h t) = let k = u.right in absurd (omega arith)
one_change {start = start} {len = len} (in_order g u v) (no_region f h t k e) = absurd
    (not_both start len u.region e)
one_change {start = start} {len = len} (in_order g u v) (in_order h w z) =
    let e = same_region start len w.region u.region in
    one_from_6 v (rw e at z)

-- A change looks at start and length through their rounding alone.
pub rounded_alike : {p : List ℕ} {s : Shape} {d start len start' len' r n : ℕ} {a : Result Ending Refusal} {q : List ℕ}
    → region_of start len ≡ region_of start' len' → Changes p s d start len r n a q → Changes p s d start' len' r n a q
rounded_alike e (no_shape f) = no_shape f
rounded_alike e (no_domain f h) = no_domain f h
rounded_alike e (no_right f h t) = no_right f h t
rounded_alike e (no_region f h t k z) = no_region f h t k (sym e ∙ z)
rounded_alike e (in_order g u v) = in_order g (record {
  fits = u.fits;
  domain = u.domain;
  right = u.right;
  region = sym e ∙ u.region;
}) v

-- A change that is refused leaves the pool as it came.
region_refused_kept : {p q : List ℕ} {s : Shape} {A : Aim} {n : ℕ} {k : Refusal} {c : Result Ending Refusal} → ChangesRegion p s A n c q
    → c ≡ Err k → q ≡ p
region_refused_kept (unsound x) e = refl
region_refused_kept (unsettled x y) e = refl
region_refused_kept (no_room x y) e = refl
region_refused_kept (done x q y) e = cc
region_refused_kept (cut x q y) e = cc

pub change_refused_kept : {p q : List ℕ} {s : Shape} {d start len r n : ℕ} {k : Refusal} {c : Result Ending Refusal}
    → Changes p s d start len r n c q → c ≡ Err k → q ≡ p
change_refused_kept (no_shape x) e = refl
change_refused_kept (no_domain x y) e = refl
change_refused_kept (no_right x y z) e = refl
change_refused_kept (no_region x y z k w) e = refl
change_refused_kept (in_order g a x) e = region_refused_kept x e
