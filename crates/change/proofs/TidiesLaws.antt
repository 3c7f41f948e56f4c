-- What a tidying answers and leaves is settled by its input; and what it means for the pool.
use Prim.Native.Nat.{ℕ, ◌<◌}
use mathlib.Core.Path.{◌≡◌, refl, ap}
use mathlib.Core.List.{List}
use native.Mathlib.Omega.{arith}
use lib.ListN.{length}
use Rattle.std.specs.Prelude.{Result, Ok}
use Rattle.refusals.specs.declared.Refusal.{Refusal}
use Rattle.theory.specs.Pool.{words, right_of}
use Rattle.theory.specs.Settled.{Settled}
use Rattle.theory.proofs.FinishedLaws.{settled_finished}
use Rattle.table.specs.declared.Shape.{Shape}
use Rattle.table.specs.Shape.{Fits}
use Rattle.table.specs.Map.{addresses, form_of}
use Rattle.plan.specs.Aims.{no_aim}
use Rattle.change.specs.declared.Ending.{Ending}
use Rattle.change.specs.declared.Ending.TheVariants.{Done}
use Rattle.change.specs.Cuts.{differing}
use Rattle.change.specs.Answers.{IsDone, Tidies, no_shape, unsound, done, cut}
use Rattle.change.proofs.DifferLaws.{differing_self}
use Rattle.change.proofs.DoneLaws.{one_done, done_not_cut}
use Rattle.change.proofs.ReachedLaws.{one_cut}

-- Two outcomes that are one: the same answer and the same pool.
abbrev pub Agree : Result Ending Refusal → List ℕ → Result Ending Refusal → List ℕ → Type 0
Agree a x b y = (a ≡ b) × (x ≡ y)

pub one_tidy : {p : List ℕ} {s : Shape} {n : ℕ} {a b : Result Ending Refusal} {x y : List ℕ} → Tidies p s n a x → Tidies p s n b y
    → Agree a x b y
one_tidy (no_shape f) (no_shape g) = (refl, refl)
one_tidy (no_shape f) (unsound g u) = absurd (f g)
one_tidy (no_shape f) (done g u q d) = absurd (f g)
one_tidy (no_shape f) (cut g u x c) = absurd (f g)
one_tidy (unsound f u) (no_shape g) = absurd (g f)
one_tidy (unsound f u) (unsound g w) = (refl, refl)
one_tidy (unsound f u) (done g w q d) = absurd (u w)
one_tidy (unsound f u) (cut g w x c) = absurd (u w)
one_tidy (done f u q d) (no_shape g) = absurd (g f)
one_tidy (done f u q d) (unsound g w) = absurd (w u)
one_tidy {p = p} (done f u q d) (done g w x e) = let z = one_done d e in (ap (λ y. Ok (Done (differing p y))) z, z)
one_tidy (done f u q d) (cut g w x c) = absurd (done_not_cut d c)
one_tidy (cut f u x c) (no_shape g) = absurd (g f)
one_tidy (cut f u x c) (unsound g w) = absurd (w u)
one_tidy (cut f u x c) (done g w q d) = absurd (done_not_cut d c)
one_tidy (cut f u x c) (cut g w y d) = (refl, one_cut c d)

-- A tidying that is done leaves a settled pool with the same rights.
pub record Tidied (s : Shape) (p q : List ℕ) : Type 0 where
  pub settled : Settled (form_of s) (words q)
  pub rights : (d a : ℕ) → d < s.domains → a < addresses → right_of (form_of s) (words q) d a
      ≡ right_of (form_of s) (words p) d a

pub tidy_settled : {p : List ℕ} {s : Shape} {n : ℕ} {a : Result Ending Refusal} {q : List ℕ} (m : ℕ) → a ≡ Ok (Done m) → Tidies p s n a q
    → Tidied s p q
tidy_settled m e (no_shape f) = cc
tidy_settled m e (unsound f u) = cc
tidy_settled m e (done f u q d) = record { settled = d.finished.settled; rights = d.finished.rights }
tidy_settled m e (cut f u x c) = cc

-- A settled pool is tidy already.
pub settled_tidies : {p : List ℕ} {s : Shape} {n : ℕ} → Fits s (length p) → Settled (form_of s) (words p)
    → Tidies p s n (Ok (Done 0)) p
settled_tidies {p} {s} {n} f t =
    let d : IsDone s no_aim p n p = record {
      finished = settled_finished (form_of s) t;
      long = refl;
      enough = let z = differing_self p in omega arith;
    } in
    let y : Tidies p s n (Ok (Done (differing p p))) p = done f t.sound p d in
    rw (differing_self p) at y

pub tidy_none : {p : List ℕ} {s : Shape} {n : ℕ} {a : Result Ending Refusal} {q : List ℕ} → Fits s (length p)
    → Settled (form_of s) (words p) → Tidies p s n a q
    → (a ≡ Ok (Done 0)) × (q ≡ p)
tidy_none f t y = one_tidy y (settled_tidies f t)
