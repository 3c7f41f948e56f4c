-- A change between two words: what the next word holds, when its store is due, and how the state goes on.
use Prim.Native.Nat.{ℕ, ◌+◌, ◌≤◌, ◌<◌}
use mathlib.Core.Path.{◌≡◌, refl, sym, ap, ◌∙◌, fun_ext}
use mathlib.Core.Logic.{◌≢◌, ◌⊎◌, ⊎_elim}
use mathlib.Core.Bool.{Bool, true, false, cond, ◌&&◌, ◌||◌, not}
use mathlib.Core.List.{List}
use native.Mathlib.Omega.{arith}
use native.Mathlib.Decide.{ℕ_discrete, dec_lt}
use lib.Dec.{eqb, ltb}
use lib.ListN.{length, set}
use lib.Seq.{get_or-set_same, get_or-set_other}
use borrow.Author.Tests.{lt-ltb, le-ltb, eq-eqb, ne_eqb}
use Rattle.theory.specs.Pool.{words}
use Rattle.theory.specs.Phase.{midway}
use Rattle.theory.proofs.PhaseLaws.{midway_new, midway_old, phase_next}
use Rattle.theory.proofs.FinishedLaws.{finished_words, one_finished}
use Rattle.theory.proofs.StayLaws.{next_here}
use Rattle.table.specs.declared.Shape.{Shape}
use Rattle.table.specs.Map.{form_of, leads, zone}
use Rattle.table.proofs.FormLaws.{lawful, exact}
use Rattle.table.proofs.WantLaws.{wanting}
use Rattle.plan.specs.Plan.{Plan, after, phase_of}
use Rattle.plan.specs.Aims.{Aim, aimed_at}
use Rattle.change.specs.Cuts.{Due}
use Rattle.change.proofs.CutLaws.{put_cuts}
use Rattle.plan.specs.Goals.{Planned}
use Rattle.change.specs.Runs.{phases, At}

module _ {s : Shape} {A : Aim} {old : List ℕ} {Q : ℕ → ℕ} {kept : ℕ
    → Bool} {n c k : ℕ} {x : List ℕ} {left : ℕ}
    (a : At s A old Q kept n c k x left) where
  abbrev P : ℕ → ℕ
  P = words old

  abbrev ph : ℕ → ℕ
  ph = phases s old kept

  pub at_long : length x ≡ length old
  at_long = a.cut.long

  -- The word at which we are has its finished value where its phase is past, else its old one.
  pub here_new : ph k < c → words x k ≡ Q k
  here_new h = a.pool k ∙ midway_new P Q ph c k k h

  pub here_old : c ≤ ph k → words x k ≡ P k
  here_old h = a.pool k ∙ elim (ℕ_discrete (ph k) c) [
    | yes e ↦ ap (λ b. cond b (Q k) (P k)) (off e)
    | no e ↦ midway_old P Q ph c k k (omega arith)
  ]
    where
      off : ph k ≡ c → (ltb (ph k) c || (eqb (ph k) c && ltb k k)) ≡ false
      off e = rw (le-ltb (ph k) c (omega arith), eq-eqb (ph k) c e, le-ltb k k (omega arith)) refl

  -- A word that is to change has its old value yet.
  pub here_was : Q k ≢ words x k → words x k ≡ P k
  here_was m = elim (dec_lt (ph k) c) [
    | yes e ↦ absurd (m (sym (here_new e)))
    | no e ↦ here_old (omega arith)
  ]

  -- In its phase its store is due.
  pub at_due : k < length x → Q k ≢ words x k → ph k ≡ c → Due s A x k (Q k)
  at_due h m e = record {
    goal = Q;
    finished = finished_words (form_of s) _ _ same a.cut.again;
    sound = a.cut.sound;
    next = next_here (form_of s) (lawful _) (exact _) a.goal.sound a.goal.finished (λ z. m (sym z))
        (rw whole (rw (← e) (phase_next (form_of s) (lawful _) a.goal.sound kept a.goal.tells k)));
    value = refl;
    differs = λ z. m (sym z);
    inside = h;
  }
    where
      whole : words x ≡ midway P Q ph c k
      whole = fun_ext a.pool

      same : (j : ℕ) → a.cut.goal j ≡ Q j
      same = one_finished (form_of s) (lawful _) (wanting _) P (aimed_at s A P) (exact _)
          a.cut.finished a.goal.finished

  -- What a plan says of the word.
  module _ {q : Plan} (p : Planned s A q old Q kept) (h : k < length x) where
    -- Whatever it holds, the plan gives its finished value,
    pub at_final : after q k (words x k) ≡ Q k
    at_final = elim (dec_lt (ph k) c) [
      | yes e ↦ rw (here_new e) (p.still k (rw at_long at h))
      | no e ↦ rw (here_old (omega arith)) (p.final k (rw at_long at h))
    ]

    -- and where it is to change, its phase.
    pub at_phase : Q k ≢ words x k → phase_of s q k (words x k) ≡ ph k
    at_phase m = rw (here_was m, p.new k (rw at_long at h) (λ e. m (e ∙ sym (here_was m)))) (go (kept k))
      where
        go : (b : Bool) → ◌≡◌ {A = ℕ} (cond (not b) 2 (cond (leads (zone s k) (P k)) 1 3))
            (cond b (cond (leads (zone s k) (P k)) 1 3) 2)
        go true = refl
        go false = refl

-- From word to word.
module _ {s : Shape} {A : Aim} {old : List ℕ} {Q : ℕ → ℕ} {kept : ℕ
    → Bool} {n c k : ℕ} {x : List ℕ} {left : ℕ}
    (a : At s A old Q kept n c k x left) where
  -- Off word `k`, and at it where it does not change in this phase, nothing changes.
  beside : (j : ℕ) → j ≢ k → midway (words old) Q (phases s old kept) c (k + 1) j ≡ midway (words old) Q
      (phases s old kept) c k j
  beside j e = ap (λ b. cond (ltb (phases s old kept j) c || (eqb (phases s old kept j) c && b)) (Q j) (words old j))
      (elim (dec_lt j k) [
        | yes z ↦ lt-ltb j (k + 1) (omega arith) ∙ sym (lt-ltb j k z)
        | no z ↦ le-ltb j (k + 1) (omega arith) ∙ sym (le-ltb j k (omega arith))
      ])

  -- Once a word of this phase is passed, its finished value counts.
  passed : phases s old kept k ≡ c → midway (words old) Q (phases s old kept) c (k + 1) k ≡ Q k
  passed e = rw (eq-eqb (phases s old kept k) c e, lt-ltb k (k + 1) (omega arith)) (go (ltb (phases s old kept k) c))
    where
      go : (b : Bool) → cond (b || true) (Q k) (words old k) ≡ Q k
      go true = refl
      go false = refl

  -- A word that has its finished value, or is of another phase, is passed over.
  pub at_skip : (Q k ≡ words x k) ⊎ (phases s old kept k ≢ c) → At s A old Q kept n c (k + 1) x left
  at_skip why = record {
    goal = a.goal;
    pool = λ j. a.pool j ∙ elim (ℕ_discrete j k) [
      | yes e ↦ rw e (sym here)
      | no e ↦ sym (beside j e)
    ];
    done = a.done;
    sum = a.sum;
    cut = a.cut;
  }
    where
      same : phases s old kept k ≢ c → midway (words old) Q (phases s old kept) c (k + 1) k ≡ midway (words old) Q
          (phases s old kept) c k k
      same e = rw (ne_eqb (phases s old kept k) c e) refl

      here : midway (words old) Q (phases s old kept) c (k + 1) k ≡ midway (words old) Q (phases s old kept) c k k
      here = elim (ℕ_discrete (phases s old kept k) c) [
        | yes p ↦ ⊎_elim (λ e. passed p ∙ e ∙ a.pool k) (λ e. absurd (e p)) why
        | no p ↦ same p
      ]

  -- A word of this phase that is to change is stored.
  pub at_store : (l : ℕ) → left ≡ l + 1 → k < length x → Q k ≢ words x k → phases s old kept k ≡ c
      → At s A old Q kept n c (k + 1) (set x k (Q k)) l
  at_store l el h m e = record {
    goal = a.goal;
    pool = λ j. elim (ℕ_discrete j k) [
      | yes z ↦ rw z (get_or-set_same x k (Q k) 0 h ∙ sym (passed e))
      | no z ↦ get_or-set_other x k j (Q k) 0 z ∙ a.pool j ∙ sym (beside j z)
    ];
    done = a.done + 1;
    sum = let z = a.sum in omega arith;
    cut = put_cuts s A (at_due a h m e) old a.done a.cut;
  }
