-- Where the tables fit, a change has a finished pool to go to. A tidying aims at the rights that there are, and
-- always fits.
use Prim.Native.Nat.{ℕ, ◌/◌, ◌<◌}
use mathlib.Core.Path.{◌≡◌, refl, ap, fun_ext}
use mathlib.Core.Bool.{Bool, false}
use mathlib.Core.List.{List}
use native.Mathlib.Omega.{arith}
use lib.ListN.{length}
use lib.Dec.{eqb, leb}
use borrow.Author.Tests.{le-ltb}
use Rattle.theory.specs.Pool.{words, right_of, SoundPool}
use Rattle.table.specs.declared.Shape.{Shape}
use Rattle.table.specs.Shape.{Fits}
use Rattle.table.specs.Map.{form_of}
use Rattle.table.specs.Wants.{WordRights}
use Rattle.theory.proofs.Logic.{by_cases}
use Rattle.words.specs.Region.{covered}
use Rattle.words.specs.declared.Region.{Region}
use Rattle.table.proofs.WantLaws.{pool_rights}
use Rattle.places.specs.Count.{Room}
use Rattle.places.specs.Final.{final, kept_word}
use Rattle.places.proofs.ChangedLaws.{changed_rights}
use Rattle.places.proofs.Exists.{sound_fits, all_owners}
use Rattle.places.proofs.FinalLaws.{final_finished}
use Rattle.places.proofs.FinalWordLaws.{final_past}
use Rattle.places.proofs.TellsLaws.{final_tells}
use Rattle.targets.specs.Paints.{no_paint}
use Rattle.plan.specs.Aims.{Aim, aim_of, change_aim, no_aim, aimed_at, Goal}

-- What the aim leaves are rights of words.
abbrev pub SetsRights : Shape → Aim → List ℕ → Type 0
SetsRights s A p = (e : ℕ) → e < s.domains → WordRights (aimed_at s A (words p) e)

pub change_sets : (s : Shape) (d : ℕ) (g : Region) (r : ℕ) (p : List ℕ) → r < 4 → SetsRights s (change_aim d g r) p
change_sets s d g r p h e be = changed_rights (right_of (form_of s) (words p)) d g r e h (pool_rights s (words p) e)

-- Where there is room for them, the aim has a goal.
pub fits_goal : (s : Shape) (A : Aim) (p : List ℕ) → SetsRights s A p → Fits s (length p)
    → SoundPool (form_of s) (words p)
    → Room s (aimed_at s A (words p))
    → (Q : ℕ → ℕ) × (kept : ℕ → Bool) × Goal s A p Q kept
fits_goal s A p S fits sP room =
    let P = words p in
    let R = aimed_at s A P in
    let (free, owner, O) = all_owners s sP room in (
      final s owner R P,
      kept_word s free,
      record {
        sound = sP;
        finished = final_finished s fits.range S sP owner free O (λ j. refl);
        tells = final_tells s fits.range S sP owner free O (λ j. refl);
        beyond = λ k h. final_past s owner R P k (rw fits.long at h);
      },
    )

-- The paint that covers nothing aims at nothing.
pub no_paint_lem : aim_of 0 no_paint ≡ no_aim
no_paint_lem = ap (λ c. record { covers = c; sets = λ e a. 0 }) (fun_ext (λ e. fun_ext (λ a. none e a)))
  where
    none : (e a : ℕ) → (aim_of 0 no_paint).covers e a ≡ false
    none e a = by_cases (eqb e 0) (λ x. rw x (empty a)) (λ x. rw x refl)
      where
        empty : (a : ℕ) → covered (record { lo = 0; hi = 0 }) a ≡ false
        empty a = rw (le-ltb (a / 4) 0 (omega arith)) (by_cases (leb 0 (a / 4)) (λ x. rw x refl) (λ x. rw x refl))

-- A tidying aims at the rights that there are, for which there is room.
pub tidy_goal : (s : Shape) (p : List ℕ) → Fits s (length p) → SoundPool (form_of s) (words p)
    → (Q : ℕ → ℕ) × (kept : ℕ → Bool) × Goal s no_aim p Q kept
tidy_goal s p fits sP = fits_goal s no_aim p (λ e be. pool_rights s (words p) e) fits sP
    (sound_fits s (λ e a be ba. refl) sP)
