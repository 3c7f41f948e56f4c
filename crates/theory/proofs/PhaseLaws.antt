-- Word by word in the order of phases, each word may be stored at its turn. For any form.
use Prim.Native.Nat.{ℕ, ◌<◌}
use mathlib.Core.Path.{◌≡◌, refl, sym, ap, ◌∙◌}
use mathlib.Core.Logic.{◌⊎◌, inl, inr, ⊎_elim}
use mathlib.Core.Bool.{Bool, true, false, cond, ◌&&◌, ◌||◌, true≢false}
use native.Mathlib.Omega.{arith}
use native.Mathlib.Decide.{ℕ_discrete, dec_lt}
use lib.Dec.{eqb, ltb}
use borrow.Author.Tests.{lt-ltb, le-ltb, ne_eqb}
use Rattle.theory.specs.Form.{Form}
use Rattle.theory.specs.Pool.{SoundPool}
use Rattle.theory.specs.Finished.{Finished}
use Rattle.theory.specs.Lawful.{Lawful, Exact}
use Rattle.theory.specs.Stores.{Kept, Cut, Giving, Filling, Linking, Stage, giving, filling, linking, Next}
use Rattle.theory.specs.Stores.{give, fill, link, Ready}
use Rattle.theory.specs.Phase.{phase, midway, Tells}
use Rattle.theory.proofs.Logic.{by_cases}
use Rattle.theory.proofs.KeptLaws.{kept_zone}
use Rattle.theory.proofs.BetweenLaws.{stage_cut}
use Rattle.theory.proofs.ReadyLaws.{finished_links, finished_ready}

module _ (P Q phases : ℕ → ℕ) (c k j : ℕ) where
  pub midway_new : phases j < c → midway P Q phases c k j ≡ Q j
  midway_new h = rw (lt-ltb (phases j) c h) refl

  pub midway_old : c < phases j → midway P Q phases c k j ≡ P j
  midway_old h = rw (le-ltb (phases j) c (omega arith), ne_eqb (phases j) c (λ e. absurd (omega arith))) refl

  pub midway_either : (midway P Q phases c k j ≡ P j) ⊎ (midway P Q phases c k j ≡ Q j)
  midway_either = by_cases (ltb (phases j) c || (eqb (phases j) c && ltb j k))
      (λ e. inr (ap (λ b. cond b (Q j) (P j)) e))
      (λ e. inl (ap (λ b. cond b (Q j) (P j)) e))

module _ (F : Form) (L : Lawful F) {P Q : ℕ → ℕ} (sP : SoundPool F P) (kept : ℕ → Bool) (T : Tells F P Q kept) where
  phase_one : (m j : ℕ) → Kept F P Q m j → F.leads m (P j) ≡ true → phase F P kept j ≡ 1
  phase_one m j q l = rw (T.is m j q, kept_zone F L sP q, l) refl

  phase_three : (m j : ℕ) → Kept F P Q m j → F.leads m (P j) ≡ false → phase F P kept j ≡ 3
  phase_three m j q l = rw (T.is m j q, kept_zone F L sP q, l) refl

  phase_two : (j : ℕ) → ((m : ℕ) → Kept F P Q m j → ⊥) → phase F P kept j ≡ 2
  phase_two j f = by_cases (kept j)
      (λ e. absurd (f (F.zone j) (T.are j e)))
      (λ e. ap (λ b. cond b (cond (F.leads (F.zone j) (P j)) 1 3) 2) e)

  -- The pool when phase `c` has come to word `k`.
  abbrev mid : ℕ → ℕ → ℕ → ℕ
  mid c k = midway P Q (phase F P kept) c k

  -- In phase 1 and before it the stage is giving, in phase 2 filling, from phase 3 on linking.
  giving_at : (c k : ℕ) → c < 2 → Giving F P Q (mid c k)
  giving_at c k b = record {
    kept = λ n j r. by_cases (F.leads n (P j))
        (λ a. ⊎_elim inl (λ e. inr (e, a)) (midway_either P Q (phase F P kept) c k j))
        (λ a. inl (midway_old P Q (phase F P kept) c k j (let e = phase_three n j r a in omega arith)));
    rest = λ j f. midway_old P Q (phase F P kept) c k j (let e = phase_two j f in omega arith);
  }

  filling_at : (k : ℕ) → Filling F P Q (mid 2 k)
  filling_at k = record {
    gave = λ m j r l. midway_new P Q (phase F P kept) 2 k j (let e = phase_one m j r l in omega arith);
    kept = λ m j r l. midway_old P Q (phase F P kept) 2 k j (let e = phase_three m j r l in omega arith);
  }

  linking_at : (c k : ℕ) → 2 < c → Linking F P Q (mid c k)
  linking_at c k b = record {
    kept = λ n j r. midway_either P Q (phase F P kept) c k j;
    gave = λ n j r l. midway_new P Q (phase F P kept) c k j (let e = phase_one n j r l in omega arith);
    rest = λ j f. midway_new P Q (phase F P kept) c k j (let e = phase_two j f in omega arith);
  }

  -- Whatever its phase: at its turn, word `k` may be stored ..
  pub phase_next : (k : ℕ) → Next F P Q (midway P Q (phase F P kept) (phase F P kept k) k) k
  phase_next k = by_cases (kept k)
      (λ e. let q = T.are k e in by_cases (F.leads (F.zone k) (P k))
      (λ l. rw (phase_one (F.zone k) k q l) (give (F.zone k) q l (giving_at 1 k (omega arith))))
      (λ l. rw (phase_three (F.zone k) k q l) (link (F.zone k) q (linking_at 3 k (omega arith)))))
      (λ e.
      let f : (m : ℕ) → Kept F P Q m k → ⊥ = λ m q. true≢false (sym (T.is m k q) ∙ e) in
      rw (phase_two k f) (fill f (filling_at k)))

  -- Midway the pool is always at a stage.
  pub midway_stage : (c k : ℕ) → Stage F P Q (midway P Q (phase F P kept) c k)
  midway_stage c k = elim (dec_lt c 2) [
    | yes b ↦ giving (giving_at c k b)
    | no b ↦ elim (ℕ_discrete c 2) [
      | yes e ↦ rw e (filling (filling_at k))
      | no e ↦ linking
          (linking_at c k (omega arith))
    ]
  ]

  -- On the way to a finished pool each word is safe to store at its turn, and at any time the pool is one that a cut
  -- leaves.
  module _ (E : Exact F) {R : ℕ → ℕ → ℕ} (f : Finished F P R Q) where
    pub phase_ready : (k : ℕ) → Ready F P Q (midway P Q (phase F P kept) (phase F P kept k) k) k
    phase_ready k = finished_ready F L E sP f k (phase_next k)

    pub midway_cut : (c k : ℕ) → Cut F P Q (midway P Q (phase F P kept) c k)
    midway_cut c k = stage_cut F L sP f.settled.sound (finished_links F L E sP f) (midway_stage c k)
