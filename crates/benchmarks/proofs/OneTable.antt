-- Pools of one root in which the first root word leads to the middle table at 1024, and no other word leads.
use Prim.Native.Nat.{ℕ, ◌+◌, ◌*◌, ◌-◌, ◌/◌, ◌%◌, ◌≤◌, ◌<◌}
use mathlib.Core.Path.{◌≡◌, refl, sym, ap, ◌∙◌}
use mathlib.Core.Logic.{◌≢◌}
use mathlib.Core.Bool.{true}
use native.Mathlib.Omega.{arith}
use native.Mathlib.Decide.{dec_lt}
use Rattle.theory.specs.Form.{Form}
use Rattle.theory.specs.Pool.{SoundPool, Reach, start, step, Roots, right_of, Led}
use Rattle.theory.specs.Settled.{Settled}
use Rattle.theory.specs.Finished.{New, Finished}
use Rattle.theory.proofs.SettledLaws.{unsaid_settled}
use Rattle.words.specs.Rights.{right_at, good_rights}
use Rattle.table.specs.Map.{addresses, Divided, form_of}
use Rattle.table.proofs.FormLaws.{lawful}
use Rattle.table.proofs.WantLaws.{divided_unsaid, wanting}
use Rattle.benchmarks.proofs.FirstTables.{FirstTables, first_sound, first_led, led_first, first_right_lem}
use Rattle.benchmarks.proofs.FirstTables.{rest_right}
use Rattle.benchmarks.specs.Rows.{shape}

pub record OneTable (X : ℕ → ℕ) : Type 0 where
  pub first : X 0 ≡ 1024
  pub roots : (j : ℕ) → j ≢ 0 → j < 1024 → X j ≡ 0x80000000
  pub middle : (j : ℕ) → 1024 ≤ j → j < 2048 → good_rights (X j) ≡ true

module _ (L : ℕ) {X : ℕ → ℕ} (o : OneTable X) where
  abbrev F : Form
  F = form_of (shape 1 L)

  -- It is the first of one.
  first : FirstTables 1 X
  first = record {
    lead = λ j h. let e : j ≡ 0 = omega arith in rw e o.first;
    roots = λ j lo hi. o.roots j (λ e. omega arith) hi;
    middle = λ j lo hi. o.middle j lo hi;
  }

  pub table_sound : SoundPool F X
  table_sound = first_sound 1 L (omega arith) (omega arith) first

  -- The one table, and for which addresses.
  pub table_led : (d a h t : ℕ) → d < 1 → Led F X d a h t → (h ≡ 1) × (t ≡ 1024) × (a / 4194304 % 1024 ≡ 0)
  table_led d a h t bd v =
      let (e, x, y) = first_led 1 L (omega arith) (omega arith) first d a h t bd v in
      (e, omega arith, omega arith)

  pub led_table : (d a : ℕ) → d < 1 → a / 4194304 % 1024 ≡ 0 → Led F X d a 1 1024
  led_table d a bd e =
      let z : 1024 + 1024 * (a / 4194304 % 1024) ≡ 1024 = omega arith in
      rw z at (led_first 1 L (omega arith) (omega arith) first d a bd (omega arith))

  -- The rights: in the first block those of the table, and none elsewhere.
  pub table_right_lem : (d a : ℕ) → d < 1 → a / 4194304 % 1024 ≡ 0
      → right_of F X d a ≡ right_at (X (1024 + a / 4096 % 1024)) (a / 512 % 8)
  table_right_lem d a bd e =
      let z : 1024 + 1024 * (a / 4194304 % 1024) ≡ 1024 = omega arith in
      first_right_lem 1 L (omega arith) (omega arith) first d a bd (omega arith)
      ∙ ap (λ t. right_at (X (t + a / 4096 % 1024)) (a / 512 % 8)) z

  pub elsewhere_right : (d a : ℕ) → d < 1 → a / 4194304 % 1024 ≢ 0 → right_of F X d a ≡ 0
  elsewhere_right d a bd n = rest_right 1 L (omega arith) (omega arith) first d a bd (omega (arith, n))

  -- Settled exactly where the first block has two rights in a sub-block.
  pub table_settled : Divided 4194304 524288 (right_of F X 0) 0 → Settled F X
  table_settled (b, c, bb, bc, x, y, z) = unsaid_settled F (wanting (shape 1 L)) (lawful (shape 1 L)) table_sound
      (λ d a h k w bd ba v l s.
      let (e, _, f) = table_led d a h _ bd (k, v, l, refl) in
      let u : d ≡ 0 = omega arith in
      divided_unsaid (shape 1 L) 2 a w (right_of F X 0) (b, c, bb, bc, x ∙ omega arith, y, z) (rw (u, e) at s))

  pub settled_divided : Settled F X → Divided 4194304 524288 (right_of F X 0) 0
  settled_divided s = s.wanted {d = 0} {a = 0} {h = 1} (omega arith) (omega arith) (omega arith)
      (1024, led_table 0 0 (omega arith) refl)

-- From one such pool to another that differs in words of the table alone.
module _ (L : ℕ) {P X : ℕ → ℕ} (p : OneTable P) (o : OneTable X) (R : ℕ → ℕ → ℕ) where
  reached : (j : ℕ) → 1024 ≤ j → j < 2048 → Reach (form_of (shape 1 L)) X (Roots (form_of (shape 1 L))) 1 j
  reached j lo hi =
      let r : Reach (form_of (shape 1 L)) X (Roots (form_of (shape 1 L))) 2 0 = start
      (0, 0, refl, refl, omega arith, omega arith) in
      let e : X 0 + (j - 1024) ≡ j = let z = o.first in omega arith in
      rw e at (step (j - 1024) r (rw o.first refl) (omega arith))

  pub table_finished : Settled (form_of (shape 1 L)) X
      → ((d a : ℕ) → d < 1 → a < addresses → right_of (form_of (shape 1 L)) X d a ≡ R d a)
      → ((j : ℕ) → (1024 ≤ j → j < 2048 → ⊥) → X j ≡ P j) → Finished (form_of (shape 1 L)) P R X
  table_finished settled rights rest = record {
    settled = settled;
    rights = rights;
    keeps = λ {d = d} {a = a} {h = h} {s = s} {t = t} bd ba x y. (table_led L p d a h s bd x).1
        ∙ sym (table_led L o d a h t bd y).1;
    order = λ {d = d} {a = a} {h = h} {s = s} new other before. absurd (none_new d a h s new);
    lowest = λ {d = d} {a = a} {h = h} {t = t} x new place less free. absurd (none_new d a h t new);
    idle = λ j n. elim (dec_lt j 1024) [
      | yes h ↦ rest j (λ lo hi. omega arith)
      | no h ↦ elim (dec_lt j 2048) [
        | yes k ↦ absurd (n 1 (reached j (omega arith) k))
        | no k ↦ rest j (λ lo hi. omega arith)
      ]
    ];
  }
    where
      none_new : (d a h t : ℕ) → New (form_of (shape 1 L)) P X d a h t → ⊥
      none_new d a h t (bd, ba, x, un) =
          let (e, _, f) = table_led L o d a h t bd x in
          un 1024 (rw e (led_table L p d a bd f))
