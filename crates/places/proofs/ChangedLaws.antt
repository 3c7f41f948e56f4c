-- Laws of the rights after a change: what they are on the covered words and elsewhere, and that they are rights of
-- words.
use Prim.Native.Nat.{ℕ, ◌<◌}
use mathlib.Core.Path.{◌≡◌, refl}
use mathlib.Core.Logic.{◌≢◌}
use mathlib.Core.Bool.{Bool, true, false, cond, ◌&&◌}
use lib.Dec.{eqb}
use borrow.Author.Tests.{eq-eqb, ne_eqb}
use Rattle.theory.proofs.Logic.{by_cases}
use Rattle.words.specs.Region.{covered}
use Rattle.words.specs.declared.Region.{Region}
use Rattle.table.specs.Wants.{WordRights}
use Rattle.table.proofs.WantLaws.{painted_rights}
use Rattle.places.specs.Final.{changed}

module _ (R : ℕ → ℕ → ℕ) (e : ℕ) (region : Region) (r : ℕ) where
  pub changed_covered : (a : ℕ) → covered region a ≡ true → changed R e region r e a ≡ r
  changed_covered a c = rw (eq-eqb e e refl, c)

  pub changed_uncovered : (d a : ℕ) → covered region a ≡ false → changed R e region r d a ≡ R d a
  changed_uncovered d a c = by_cases (eqb d e) (λ x. rw (x, c)) (λ x. rw x)

  pub changed_other : (d a : ℕ) → d ≢ e → changed R e region r d a ≡ R d a
  changed_other d a n = rw (ne_eqb d e n)

  pub changed_rights : (d : ℕ) → r < 4 → WordRights (R d) → WordRights (changed R e region r d)
  changed_rights d h s = tested (eqb d e)
    where
      tested : (t : Bool) → WordRights (λ a. cond (t && covered region a) r (R d a))
      tested true = painted_rights region r (R d) h s
      tested false = s
