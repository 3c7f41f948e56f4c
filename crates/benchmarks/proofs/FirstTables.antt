-- Pools of one root in which each of the first `n` root words leads to a middle table, in their order, and no other
-- word leads.
use Prim.Native.Nat.{ℕ, suc, ◌+◌, ◌*◌, ◌/◌, ◌%◌, ◌≤◌, ◌<◌}
use mathlib.Core.Path.{◌≡◌, refl, sym, ap, ◌∙◌}
use mathlib.Core.Logic.{◌⊎◌, inl, inr, ⊎_elim}
use mathlib.Core.Bool.{true, true≢false}
use native.Mathlib.Omega.{arith}
use native.Mathlib.Decide.{dec_lt}
use Rattle.theory.specs.Form.{Form}
use Rattle.theory.specs.Pool.{SoundPool, Reach, Visits, here, next, right, Roots, entry, right_of, Led}
use Rattle.theory.proofs.RightLaws.{right_down, right_says}
use Rattle.theory.proofs.BlockLaws.{one_word, met_by}
use Rattle.words.specs.Rights.{right_at, good_rights}
use Rattle.words.proofs.RightsLaws.{eight_right}
use Rattle.table.specs.Map.{form_of}
use Rattle.table.proofs.FormLaws.{place_leads, eight_good, exact}
use Rattle.benchmarks.specs.Rows.{shape}

pub record FirstTables (n : ℕ) (X : ℕ → ℕ) : Type 0 where
  pub lead : (j : ℕ) → j < n → X j ≡ 1024 + 1024 * j
  pub roots : (j : ℕ) → n ≤ j → j < 1024 → X j ≡ 0x80000000
  pub middle : (j : ℕ) → 1024 ≤ j → j < 1024 + 1024 * n → good_rights (X j) ≡ true

module _ (M L : ℕ) {n : ℕ} (few : n ≤ M) (most : M ≤ 8) {X : ℕ → ℕ} (o : FirstTables n X) where
  abbrev F : Form
  F = form_of (shape M L)

  -- A walk stays in the root, or goes from one of the first words to its middle table.
  abbrev At : ℕ → ℕ → Type 0
  At m j = ((m ≡ 2) × (j < 1024)) ⊎ ((m ≡ 1) × (1024 ≤ j) × (j < 1024 + 1024 * n))

  first_leads : (j : ℕ) → j < n → (F.good 2 (X j) ≡ true) × (F.leads 2 (X j) ≡ true)
  first_leads j h = rw (o.lead j h) (place_leads (shape M L) 1 j (omega arith) (omega arith) (omega arith))

  -- Only the first root words lead.
  leads_first : (m j : ℕ) → At m j → F.leads m (X j) ≡ true → (m ≡ 2) × (j < n)
  leads_first m j at l = ⊎_elim
      (λ (x, y). elim (dec_lt j n) [
        | yes e ↦ (x, e)
        | no e ↦ absurd (true≢false (sym l ∙ rw (x, o.roots j (omega arith) y) refl))
      ])
      (λ (x, y, z). absurd (true≢false (sym l
      ∙ rw x (eight_good (shape M L) 0 (X j) (omega arith) (o.middle j y z)).1)))
      at

  visits_at : (a d : ℕ) {m j : ℕ} → d < 1 → Visits F X a 2 (entry F d a) m j → At m j
  visits_at a d bd here = inl (refl, omega arith)
  visits_at a d bd (next {m} {j} v l) =
      let (x, y) = leads_first (suc m) j (visits_at a d bd v) l in
      let e = o.lead j y in
      let z : m ≡ 1 = omega arith in
      inr (z, rw (e, z) (omega arith), rw (e, z) (omega arith))

  met : {m j : ℕ} → Reach F X (Roots F) m j → At m j
  met r = let (d, a, bd, ba, v) = met_by F (exact (shape M L)) r in visits_at a d bd v

  pub first_sound : SoundPool F X
  first_sound = record {
    good = λ {m} {j} r. ⊎_elim
        (λ (x, y). elim (dec_lt j n) [
          | yes e ↦ rw x (first_leads j e).0
          | no e ↦ rw (x, o.roots j (omega arith) y) refl
        ])
        (λ (x, y, z). rw x (eight_good (shape M L) 0 (X j) (omega arith) (o.middle j y z)).0)
        (met r);
    once = λ {m} {j} {k} r l q w e.
        let x = o.lead j (leads_first (suc m) j (met r) l).1 in
        let y = o.lead k (leads_first (suc m) k (met q) w).1 in
        let z : X j ≡ X k = e in
        omega arith;
  }

  -- The tables, and for which addresses.
  pub first_led : (d a h t : ℕ) → d < 1 → Led F X d a h t
      → (h ≡ 1) × (a / 4194304 % 1024 < n) × (t ≡ 1024 + 1024 * (a / 4194304 % 1024))
  first_led d a h t bd (k, v, l, e) =
      let (x, y) = leads_first (suc h) k (visits_at a d bd v) l in
      let z = one_word F X v here x in
      let w = o.lead k y in
      let i : X k ≡ t = e in
      (omega arith, omega arith, omega arith)

  pub led_first : (d a : ℕ) → d < 1 → a / 4194304 % 1024 < n → Led F X d a 1 (1024 + 1024 * (a / 4194304 % 1024))
  led_first d a bd h =
      let i : entry F d a ≡ a / 4194304 % 1024 = omega arith in
      (entry F d a, here, rw i (first_leads (a / 4194304 % 1024) h).1, rw i (o.lead (a / 4194304 % 1024) h))

  -- The rights: in the first blocks those of the tables, and none elsewhere.
  pub first_right_lem : (d a : ℕ) → d < 1 → a / 4194304 % 1024 < n
      → right_of F X d a ≡ right_at (X (1024 + 1024 * (a / 4194304 % 1024) + a / 4096 % 1024)) (a / 512 % 8)
  first_right_lem d a bd h =
      let j : ℕ = 1024 + 1024 * (a / 4194304 % 1024) + a / 4096 % 1024 in
      let i : entry F d a ≡ a / 4194304 % 1024 = omega arith in
      let z : X (entry F d a) ≡ 1024 + 1024 * (a / 4194304 % 1024) = ap X i ∙ o.lead (a / 4194304 % 1024) h in
      right_down F X 1 (entry F d a) a (rw i (first_leads (a / 4194304 % 1024) h).1)
      ∙ ap (λ t. right F X 1 (t + a / 4096 % 1024) a) z
      ∙ right_says F X 1 j a (eight_good (shape M L) 0 (X j) (omega arith) (o.middle j (omega arith) (omega arith))).1

  pub rest_right : (d a : ℕ) → d < 1 → n ≤ a / 4194304 % 1024 → right_of F X d a ≡ 0
  rest_right d a bd h =
      let y = o.roots (entry F d a) (omega arith) (omega arith) in
      right_says F X 2 (entry F d a) a (rw y refl) ∙ ap (λ w. right_at w (a / 524288 % 8)) y
      ∙ eight_right 0 (a / 524288 % 8) (omega arith) (omega arith)
