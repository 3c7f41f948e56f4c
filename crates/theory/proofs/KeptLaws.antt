-- Laws of kept words, which two pools reach by the same words, and of what hangs below a kept word that is to change.
-- For any form.
use Prim.Native.Nat.{ℕ, suc, ◌≤◌}
use mathlib.Core.Path.{◌≡◌, refl, sym, ap, ◌∙◌}
use mathlib.Core.Logic.{◌≢◌}
use mathlib.Core.Bool.{true}
use native.Mathlib.Omega.{arith}
use Rattle.theory.specs.Form.{Form}
use Rattle.theory.specs.Pool.{Reach, start, step, SoundPool, Roots, Table}
use Rattle.theory.specs.Lawful.{Lawful}
use Rattle.theory.specs.Stores.{Kept, top, down}
use Rattle.theory.proofs.ReachLaws.{table_low, through, reach_zone}
use Rattle.theory.proofs.BlockLaws.{step_back}

module _ (F : Form) {P Q : ℕ → ℕ} where
  pub kept_reach : {m j : ℕ} → Kept F P Q m j → Reach F P (Roots F) m j
  kept_reach (top x) = start x
  kept_reach (down i k e l b) = step i (kept_reach k) l b

  pub kept_swap : {m j : ℕ} → Kept F P Q m j → Kept F Q P m j
  kept_swap (top x) = top x
  kept_swap (down {m} {j} i k e l b) = rw e (down i (kept_swap k) (sym e) (rw e at l) b)

  pub kept_low : {m j : ℕ} → Kept F P Q m j → m ≤ F.top
  kept_low (top x) = omega arith
  kept_low (down i k e l b) = let q = kept_low k in omega arith

  pub kept_zone : Lawful F → SoundPool F P → {m j : ℕ} → Kept F P Q m j → F.zone j ≡ m
  kept_zone L s c = reach_zone F L s (kept_reach c)

-- What hangs below a word that leads and is to change is not kept.
module _ (F : Form) (L : Lawful F) {P Q : ℕ → ℕ} (s : SoundPool F P) {h k : ℕ} (c : Kept F P Q (suc h) k)
    (l : F.leads (suc h) (P k) ≡ true) (d : P k ≢ Q k) where
  below : {m j n i : ℕ} → Reach F P (Table F h (F.target (suc h) (P k))) m j → Kept F P Q n i → m ≡ n → j ≡ i → ⊥
  below r (top x) p q = let z = table_low F P h _ r in let y = kept_low F c in omega arith
  below (start x) (down {m} {j} i b e f g) p q = d
      (let z : k ≡ j = (step_back F L s x.0 i (sym p ∙ x.1) (kept_reach F c) l x.3 (kept_reach F b) f g
      (sym x.2 ∙ q)).0 in
      rw z e)
  below (step {m = m} {j = j} i r f b) (down {m = n} {j = o} i' b' e' f' g') p q =
      below {m = suc m} r b' (ap suc p) (step_back F L s i i' (sym p) (through F (kept_reach F c) l r) f b (kept_reach F b') f' g'
      q).0

  pub hangs_not_kept : {m j : ℕ} → Reach F P (Table F h (F.target (suc h) (P k))) m j → (n : ℕ) → Kept F P Q n j → ⊥
  hangs_not_kept r n q =
      below r q (sym (reach_zone F L s (through F (kept_reach F c) l r)) ∙ reach_zone F L s (kept_reach F q)) refl
