-- A pool all of whose root words are eight rights has no table; it is the finished pool for the rights that it gives.
use Prim.Native.Nat.{ℕ, ◌+◌, ◌*◌, ◌/◌, ◌%◌, ◌≤◌, ◌<◌}
use mathlib.Core.Path.{◌≡◌, refl, sym, ap, ◌∙◌}
use mathlib.Core.Logic.{◌≢◌}
use mathlib.Core.Bool.{Bool, true, false, cond, true≢false}
use native.Mathlib.Omega.{arith}
use native.Mathlib.Decide.{ℕ_discrete, dec_lt}
use lib.Dec.{eqb, ltb}
use borrow.Author.Tests.{eq-eqb, ne_eqb, lt-ltb, le-ltb}
use Rattle.theory.specs.Pool.{Reach, start, Visits, here, next, Roots, entry, right_of, Led}
use Rattle.theory.specs.Settled.{Settled}
use Rattle.theory.specs.Finished.{Finished}
use Rattle.theory.specs.Stores.{Kept, top, down}
use Rattle.theory.proofs.RightLaws.{right_says}
use Rattle.theory.proofs.BlockLaws.{met_by}
use Rattle.theory.proofs.SettledLaws.{unsaid_settled}
use Rattle.words.specs.Rights.{right_at, good_rights, pack}
use Rattle.words.proofs.RightsLaws.{eight_right, pack_digit}
use Rattle.table.specs.declared.Shape.{Shape}
use Rattle.table.specs.Map.{addresses, form_of}
use Rattle.table.proofs.FormLaws.{eight_good, lawful, exact}
use Rattle.table.proofs.WantLaws.{wanting}

module _ (s : Shape) (Q : ℕ → ℕ) (flat : (j : ℕ) → j < 1024 * s.domains → good_rights (Q j) ≡ true) where
  stays : (d a : ℕ) {m j : ℕ} → d < s.domains → Visits (form_of s) Q a 2 (entry (form_of s) d a) m j
      → (m ≡ 2) × (good_rights (Q j) ≡ true)
  stays d a bd here = (refl, flat _ (omega arith))
  stays d a bd (next {m} {j} v l) =
      let (_, g) = stays d a bd v in
      absurd (true≢false (sym l ∙ (eight_good s 1 (Q j) (omega arith) g).1))

  pub flat_led : (d a h t : ℕ) → d < s.domains → Led (form_of s) Q d a h t → ⊥
  flat_led d a h t bd (k, v, l, e) = true≢false (sym l ∙ (eight_good s 1 (Q k) (omega arith) (stays d a bd v).1).1)

  -- Of a pool whose roots do not lead, only the roots are kept.
  pub flat_kept : (X : ℕ → ℕ) {m j : ℕ} → Kept (form_of s) Q X m j → (m ≡ 2) × (j < 1024 * s.domains)
  flat_kept X (top (d, i, e, q, bd, bi)) = (e, omega arith)
  flat_kept X (down {m} {j} i k e l b) =
      let (_, h) = flat_kept X k in
      absurd (true≢false (sym l ∙ (eight_good s 1 (Q j) (omega arith) (flat j h)).1))

  -- The right is in the root word.
  pub flat_right : (d a : ℕ) → d < s.domains
      → right_of (form_of s) Q d a ≡ right_at (Q (1024 * d + a / 4194304 % 1024)) (a / 524288 % 8)
  flat_right d a bd = right_says (form_of s) Q 2 (entry (form_of s) d a) a
      (eight_good s 1 (Q (entry (form_of s) d a)) (omega arith) (flat (entry (form_of s) d a) (omega arith))).1

  met : {m j : ℕ} → Reach (form_of s) Q (Roots (form_of s)) m j → (m ≡ 2) × (good_rights (Q j) ≡ true)
  met r = let (d, a, bd, ba, v) = met_by (form_of s) (exact s) r in stays d a bd v

  pub flat_settled : Settled (form_of s) Q
  flat_settled = unsaid_settled (form_of s) (wanting s) (lawful s)
      (record {
        good = λ {m} {j} r. let (e, g) = met r in rw e (eight_good s 1 (Q j) (omega arith) g).0;
        once = λ {m} {j} r l q n e. absurd (true≢false (sym l ∙ (eight_good s 1 (Q j) (omega arith) (met r).1).1));
      })
      (λ d a h k w bd ba v l x. flat_led d a h _ bd (k, v, l, refl))

  -- Whatever the old pool has, the finished one has no table, and all but the roots is as it was.
  module _ (P : ℕ → ℕ) (R : ℕ → ℕ → ℕ)
      (rights : (d a : ℕ) → d < s.domains → a < addresses → right_of (form_of s) Q d a ≡ R d a)
      (rest : (j : ℕ) → 1024 * s.domains ≤ j → Q j ≡ P j) where
    root : (j : ℕ) → j < 1024 * s.domains → Roots (form_of s) 2 j
    root j h = (j / 1024, j % 1024, refl, omega arith, omega arith, omega arith)

    pub flat_finished : Finished (form_of s) P R Q
    flat_finished = record {
      settled = flat_settled;
      rights = rights;
      keeps = λ {d = d} {a = a} {h = h} {t = t} bd ba x y. absurd (flat_led d a h t bd y);
      order = λ {d = d} {a = a} {h = h} {s = u} (bd, ba, x, un) n o. absurd (flat_led d a h u bd x);
      lowest = λ {d = d} {a = a} {h = h} {t = t} x (bd, ba, y, un) p lt free. absurd (flat_led d a h t bd y);
      idle = λ j n. elim (dec_lt j (1024 * s.domains)) [
        | yes h ↦ absurd (n 2 (start (root j h)))
        | no h ↦ rest j (omega arith)
      ];
    }

-- The first of eight rights alone is 1.
first_right_lem : (i : ℕ) → i < 8 → right_at 0x80000001 i ≡ cond (eqb i 0) 1 0
unfolding pack
first_right_lem i h = pack_digit 32768 8 i (λ j. cond (eqb j 0) 1 0) (λ j b. small (eqb j 0)) h
  where
    small : (b : Bool) → cond b 1 0 < 4
    small true = omega arith
    small false = omega arith

-- A root that says read of the first 512 KB, and none of all else.
pub first_part : (Q : ℕ → ℕ) → Q 0 ≡ 0x80000001 → ((j : ℕ) → j ≢ 0 → j < 1024 → Q j ≡ 0x80000000) → (a : ℕ)
    → a < addresses
    → right_at (Q (a / 4194304 % 1024)) (a / 524288 % 8) ≡ cond (ltb a 524288) 1 0
first_part Q first others a ba = elim (ℕ_discrete (a / 4194304 % 1024) 0) [
  | yes e ↦ ap (λ w. right_at w (a / 524288 % 8)) (ap Q e ∙ first) ∙ first_right_lem (a / 524288 % 8) (omega arith)
      ∙ ap (λ t. cond t 1 0) (low e)
  | no n ↦ ap (λ w. right_at w (a / 524288 % 8)) (others (a / 4194304 % 1024) n (omega arith))
      ∙ eight_right 0 (a / 524288 % 8) (omega arith) (omega arith)
      ∙ ap (λ t. cond t 1 0) (sym (le-ltb a 524288 (omega arith)))
]
  where
    low : a / 4194304 % 1024 ≡ 0 → eqb (a / 524288 % 8) 0 ≡ ltb a 524288
    low e = elim (dec_lt a 524288) [
      | yes h ↦ eq-eqb (a / 524288 % 8) 0 (omega arith) ∙ sym (lt-ltb a 524288 h)
      | no h ↦ ne_eqb (a / 524288 % 8) 0 (λ z. omega arith) ∙ sym (le-ltb a 524288 (omega arith))
    ]
