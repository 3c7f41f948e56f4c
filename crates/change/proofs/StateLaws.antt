-- Where a change begins, how it goes from phase to phase and over words that stay, and where it ends.
use Prim.Native.Nat.{ℕ, ◌+◌, ◌≤◌, ◌<◌}
use mathlib.Core.Path.{◌≡◌, refl, sym, ap, ◌∙◌}
use mathlib.Core.Logic.{◌≢◌, ◌⊎◌, inl, ⊎_elim}
use mathlib.Core.Bool.{Bool, true, false, cond, ◌&&◌, ◌||◌}
use mathlib.Core.List.{List}
use native.Mathlib.Omega.{arith}
use native.Mathlib.Decide.{ℕ_discrete, dec_lt}
use lib.Dec.{eqb, ltb}
use lib.ListN.{length}
use borrow.Author.Tests.{lt-ltb, le-ltb, eq-eqb, ne_eqb}
use Rattle.theory.specs.Pool.{words}
use Rattle.theory.proofs.PhaseLaws.{midway_new}
use Rattle.table.specs.declared.Shape.{Shape}
use Rattle.table.specs.Map.{leads, zone}
use Rattle.plan.specs.Aims.{Aim, Goal}
use Rattle.change.specs.Cuts.{CutAt}
use Rattle.change.proofs.DifferLaws.{differing_self}
use Rattle.change.specs.Runs.{phases, At}

-- The phases are 1, 2 and 3.
phase_range : (s : Shape) (old : List ℕ) (kept : ℕ → Bool) (j : ℕ) → (1 ≤ phases s old kept j)
    × (phases s old kept j < 4)
phase_range s old kept j = go (kept j) (leads (zone s j) (words old j))
  where
    go : (a b : Bool) → (1 ≤ cond a (cond b 1 3) 2) × (cond a (cond b 1 3) 2 < 4)
    go true true = (omega arith, omega arith)
    go true false = (omega arith, omega arith)
    go false b = (omega arith, omega arith)

-- Before the first store the pool is what a cut after no store leaves.
pub cut_none : (s : Shape) (A : Aim) (old : List ℕ) (Q : ℕ → ℕ) (kept : ℕ → Bool)
    → Goal s A old Q kept → CutAt s A old 0 old
cut_none s A old Q kept p = record {
  goal = Q;
  finished = p.finished;
  long = refl;
  count = differing_self old;
  each = λ j. inl refl;
  sound = p.sound;
  covered = λ e a be ba c. inl refl;
  others = λ e a be ba c. refl;
  again = p.finished;
}

pub at_begin : {s : Shape} {A : Aim} {old : List ℕ} {Q : ℕ → ℕ} {kept : ℕ → Bool} (n : ℕ)
    → Goal s A old Q kept
    → At s A old Q kept n 1 0 old n
at_begin {s} {A} {old} {Q} {kept} n p = record {
  goal = p;
  pool = λ j. sym (rw (le-ltb (phases s old kept j) 1 (phase_range s old kept j).0, le-ltb j 0 (omega arith))
      (go j (eqb (phases s old kept j) 1)));
  done = 0;
  sum = omega arith;
  cut = cut_none s A old Q kept p;
}
  where
    go : (j : ℕ) (b : Bool) → cond (b && false) (Q j) (words old j) ≡ words old j
    go j true = refl
    go j false = refl

-- A word that stays is the same on either side.
same : (u v : ℕ) → u ≡ v → (b e : Bool) → cond b u v ≡ cond e u v
same u v z true true = refl
same u v z true false = z
same u v z false true = sym z
same u v z false false = refl

module _ {s : Shape} {A : Aim} {old : List ℕ} {Q : ℕ → ℕ} {kept : ℕ
    → Bool} {n : ℕ} {x : List ℕ} {left : ℕ} where
  -- Words that are to stay, or are of another phase, are passed over in one step.
  pub at_pass : {c : ℕ} (i k : ℕ) → i ≤ k →
      ((j : ℕ) → i ≤ j → j < k → (Q j ≡ words old j) ⊎ (phases s old kept j ≢ c)) → At s A old Q kept n c i x left
      → At s A old Q kept n c k x left
  at_pass {c} i k lo idle a = record {
    goal = a.goal;
    pool = λ j. a.pool j ∙ elim (dec_lt j i) [
      | yes e ↦ ap (test j) (lt-ltb j i e ∙ sym (lt-ltb j k (omega arith)))
      | no e ↦ elim (dec_lt j k) [
        | yes f ↦ ⊎_elim
            (λ z. same (Q j) (words old j) z (ltb (phases s old kept j) c || (eqb (phases s old kept j) c && ltb j i))
            (ltb (phases s old kept j) c || (eqb (phases s old kept j) c && ltb j k)))
            (λ z. rw (ne_eqb (phases s old kept j) c z) refl) (idle j (omega arith) f)
        | no f ↦ ap (test j) (le-ltb j i (omega arith) ∙ sym (le-ltb j k (omega arith)))
      ]
    ];
    done = a.done;
    sum = a.sum;
    cut = a.cut;
  }
    where
      test : ℕ → Bool → ℕ
      test j b = cond (ltb (phases s old kept j) c || (eqb (phases s old kept j) c && b)) (Q j) (words old j)

  pub at_jump : {c : ℕ} (i k : ℕ) → i ≤ k → ((j : ℕ) → i ≤ j → j < k → Q j ≡ words old j)
      → At s A old Q kept n c i x left
      → At s A old Q kept n c k x left
  at_jump i k lo stays = at_pass i k lo (λ j a b. inl (stays j a b))

  -- Past the last word the next phase begins.
  pub at_turn : (c : ℕ) → At s A old Q kept n c (length old) x left → At s A old Q kept n (c + 1) 0 x left
  at_turn c a = record {
    goal = a.goal;
    pool = λ j. a.pool j ∙ elim (dec_lt j (length old)) [
      | yes e ↦ ap (λ b. cond b (Q j) (words old j)) (inside j e)
      | no e ↦ same (Q j) (words old j) (a.goal.beyond j (omega arith))
          (ltb (phases s old kept j) c || (eqb (phases s old kept j) c && ltb j (length old)))
          (ltb (phases s old kept j) (c + 1) || (eqb (phases s old kept j) (c + 1) && ltb j 0))
    ];
    done = a.done;
    sum = a.sum;
    cut = a.cut;
  }
    where
      inside : (j : ℕ) → j < length old → (ltb (phases s old kept j) c ||
          (eqb (phases s old kept j) c && ltb j (length old)))
          ≡ (ltb (phases s old kept j) (c + 1) || (eqb (phases s old kept j) (c + 1) && ltb j 0))
      inside j e = elim (dec_lt (phases s old kept j) c) [
        | yes f ↦ rw (lt-ltb (phases s old kept j) c f, lt-ltb (phases s old kept j) (c + 1) (omega arith)) refl
        | no f ↦ elim (ℕ_discrete (phases s old kept j) c) [
          | yes g ↦ rw (
            le-ltb (phases s old kept j) c (omega arith),
            eq-eqb (phases s old kept j) c g,
            lt-ltb j
                (length old) e,
            lt-ltb (phases s old kept j) (c + 1) (omega arith),
          ) refl
          | no g ↦ rw (
            le-ltb (phases s old kept j) c (omega arith),
            ne_eqb (phases s old kept j) c g,
            le-ltb
                (phases s old kept j) (c + 1) (omega arith),
            le-ltb j 0 (omega arith),
          )
              (last (eqb (phases s old kept j) (c + 1)))
        ]
      ]
        where
          last : (b : Bool) → false ≡ (b && false)
          last true = refl
          last false = refl

  -- Past the last phase the pool is the finished one.
  pub at_end : {c k : ℕ} → 4 ≤ c → At s A old Q kept n c k x left → (j : ℕ) → words x j ≡ Q j
  at_end {c} {k} h a j = a.pool j ∙ midway_new (words old) Q (phases s old kept) c k j
      (let z = (phase_range s old kept j).1 in omega arith)
