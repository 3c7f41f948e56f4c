-- Laws of the right that a walk finds: its clauses, its value along a walk, and in two pools that agree. For any form.
use Prim.Native.Nat.{ℕ, zero, suc, ◌+◌}
use mathlib.Core.Path.{◌≡◌, refl, sym, ap, ◌∙◌}
use mathlib.Core.Bool.{true, false, cond}
use Rattle.theory.proofs.Logic.{by_cases}
use Rattle.theory.specs.Form.{Form}
use Rattle.theory.specs.Pool.{Reach, Visits, here, next, right}
use Rattle.theory.specs.Lawful.{Lawful}
use Rattle.theory.proofs.ReachLaws.{visits_reach}

-- The clauses of `right`.
module _ (F : Form) (P : ℕ → ℕ) where
  pub right_last : (k a : ℕ) → right F P zero k a ≡ F.says zero (P k) a
  unfolding right
  right_last k a = refl

  pub right_down : (h k a : ℕ) → F.leads (suc h) (P k) ≡ true
      → right F P (suc h) k a ≡ right F P h (F.target (suc h) (P k) + F.index h a) a
  unfolding right
  right_down h k a e = ap (λ b. cond b (right F P h (F.target (suc h) (P k) + F.index h a) a)
      (F.says (suc h) (P k) a)) e

  pub right_says : (h k a : ℕ) → F.leads h (P k) ≡ false → right F P h k a ≡ F.says h (P k) a
  unfolding right
  right_says zero k a e = refl
  right_says (suc h) k a e = ap (λ b. cond b (right F P h (F.target (suc h) (P k) + F.index h a) a)
      (F.says (suc h) (P k) a)) e

  -- The right does not change along a walk.
  pub right_visits : {a h k m j : ℕ} → Visits F P a h k m j → right F P h k a ≡ right F P m j a
  right_visits here = refl
  right_visits {a} (next {m} {j} v l) = right_visits v ∙ right_down m j a l

-- Where two pools agree on the words of a walk, they give the same right.
module _ (F : Form) (P Q : ℕ → ℕ) (a h k : ℕ) (agree : (m j : ℕ) → Visits F P a h k m j → Q j ≡ P j) where
  right_from : (m j : ℕ) → Visits F P a h k m j → right F Q m j a ≡ right F P m j a
  right_from zero j v = right_last F Q j a ∙ ap (λ w. F.says zero w a) (agree zero j v) ∙ sym (right_last F P j a)
  right_from (suc m) j v = by_cases (F.leads (suc m) (P j))
      (λ e. right_down F Q m j a (rw (agree (suc m) j v) e)
      ∙ ap (λ w. right F Q m (F.target (suc m) w + F.index m a) a) (agree (suc m) j v)
      ∙ right_from m _ (next v e) ∙ sym (right_down F P m j a e))
      (λ e. right_says F Q (suc m) j a (rw (agree (suc m) j v) e) ∙ ap (λ w. F.says (suc m) w a) (agree (suc m) j v)
      ∙ sym (right_says F P (suc m) j a e))

  pub right_along : right F Q h k a ≡ right F P h k a
  right_along = right_from h k here

-- .. and so where they agree on all that is reached.
pub right_same : (F : Form) → Lawful F → (P Q : ℕ → ℕ) (S : ℕ → ℕ → Type 0)
    → ((m j : ℕ) → Reach F P S m j → Q j ≡ P j) → (h k a : ℕ) → Reach F P S h k → right F Q h k a ≡ right F P h k a
right_same F L P Q S agree h k a r = right_along F P Q a h k (λ m j v. agree m j (visits_reach F P a L r v))
