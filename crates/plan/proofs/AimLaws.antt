-- What an aim aims at, where it covers and elsewhere; and what a change covers.
use Prim.Native.Nat.{ℕ}
use mathlib.Core.Path.{◌≡◌, refl, ap}
use mathlib.Core.Bool.{true, false, cond}
use lib.Dec.{eqb}
use borrow.Author.Tests.{eq-eqb, eqb-true}
use Rattle.theory.specs.Pool.{right_of}
use Rattle.theory.proofs.Logic.{by_cases, and_both}
use Rattle.words.specs.Region.{covered}
use Rattle.words.specs.declared.Region.{Region}
use Rattle.table.specs.declared.Shape.{Shape}
use Rattle.table.specs.Map.{form_of}
use Rattle.targets.specs.declared.Paint.{Paint}
use Rattle.targets.specs.Paints.{region}
use Rattle.plan.specs.Aims.{Aim, change_aim, aim_of, aimed_at}

module _ (s : Shape) (A : Aim) (P : ℕ → ℕ) (e a : ℕ) where
  pub aimed_covered : A.covers e a ≡ true → aimed_at s A P e a ≡ A.sets e a
  aimed_covered c = ap (λ b. cond b (A.sets e a) (right_of (form_of s) P e a)) c

  pub aimed_other : A.covers e a ≡ false → aimed_at s A P e a ≡ right_of (form_of s) P e a
  aimed_other c = ap (λ b. cond b (A.sets e a) (right_of (form_of s) P e a)) c

-- A change covers the words of its region, in its domain, and no others.
module _ (d : ℕ) (g : Region) (r e a : ℕ) where
  pub change_covers : e ≡ d → covered g a ≡ true → (change_aim d g r).covers e a ≡ true
  change_covers q c = rw (eq-eqb e d q, c) refl

  pub covers_change : (change_aim d g r).covers e a ≡ true → (e ≡ d) × (covered g a ≡ true)
  covers_change c = let (x, y) = and_both (eqb e d) (covered g a) c in (eqb-true e d x, y)

  pub change_misses : covered g a ≡ false → (change_aim d g r).covers e a ≡ false
  change_misses c = by_cases (eqb e d) (λ x. rw (x, c) refl) (λ x. rw x refl)

-- A change aims at its right on the words that it covers.
pub aims_covered : (s : Shape) (d : ℕ) (paint : Paint) (P : ℕ → ℕ) (e a : ℕ)
    → (e ≡ d) × (covered (region paint) a ≡ true) → aimed_at s (aim_of d paint) P e a ≡ paint.right
aims_covered s d paint P e a (q, c) =
    aimed_covered s (aim_of d paint) P e a (change_covers d (region paint) paint.right e a q c)
