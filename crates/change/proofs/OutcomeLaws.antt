-- Where a run ends: finished, or cut.
use Prim.Native.Nat.{ℕ, ◌+◌, ◌<◌}
use mathlib.Core.Path.{◌≡◌, sym, ◌∙◌, fun_ext}
use mathlib.Core.Logic.{◌≢◌, inl, inr, ⊎_elim}
use mathlib.Core.Bool.{Bool}
use mathlib.Core.List.{List}
use native.Mathlib.Omega.{arith}
use lib.ListN.{length}
use Rattle.theory.specs.Pool.{words}
use Rattle.theory.specs.Finished.{Finished}
use Rattle.theory.proofs.FinishedLaws.{one_finished, finished_words}
use Rattle.table.specs.declared.Shape.{Shape}
use Rattle.table.specs.Map.{form_of}
use Rattle.table.proofs.FormLaws.{lawful, exact}
use Rattle.table.proofs.WantLaws.{wanting}
use Rattle.plan.specs.Aims.{Aim, aimed_at, Goal}
use Rattle.change.specs.Cuts.{differing, CutAt}
use Rattle.theory.specs.Phase.{midway}
use Rattle.change.specs.Runs.{phases, At}
use Rattle.change.specs.Answers.{IsCut, IsDone}
use Rattle.change.proofs.DifferLaws.{differing_less}

module _ (s : Shape) (A : Aim) (old : List ℕ) where
  -- A pool that is the goal word by word is the finished one.
  pub outcome_done : (Q : ℕ → ℕ) (kept : ℕ → Bool) (y : List ℕ) (n left : ℕ) → Goal s A old Q kept → length y
      ≡ length old
      → ((j : ℕ) → words y j ≡ Q j) → left + differing old y ≡ n → IsDone s A old n y
  outcome_done Q kept y n left g l e c = record {
    finished = finished_words (form_of s) _ _ (λ j. sym (e j)) g.finished;
    long = l;
    enough = omega arith;
  }

  -- Every cut of the change has the same goal.
  pub one_goal : {n : ℕ} {x : List ℕ} (Q : ℕ → ℕ) → Finished (form_of s) (words old) (aimed_at s A (words old)) Q
      → (c : CutAt s A old n x)
      → (j : ℕ) → c.goal j ≡ Q j
  one_goal Q f c = one_finished (form_of s) (lawful _) (wanting _) (words old) (aimed_at s A (words old))
      (exact _) c.finished f

  -- A run that stands before a word that is to change was cut.
  cut_here : (Q : ℕ → ℕ) (kept : ℕ → Bool) (n c k : ℕ) (x : List ℕ) → Goal s A old Q kept
      → (cut : CutAt s A old n x)
      → ((j : ℕ) → words x j ≡ midway (words old) Q (phases s old kept) c k j) → k < length x → Q k ≢ words x k
      → IsCut s A old n x
  cut_here Q kept n c k x g cut pool h w =
      let same = one_goal Q g.finished cut in
      let e : cut.goal ≡ Q = fun_ext same in
      record {
        cut = cut;
        way = rw e (record { kept = kept; tells = g.tells; phase_reached = c; word_reached = k; is = pool });
        more = λ q l z. rw (← cut.count)
            (differing_less old x q k cut.long l (λ j. ⊎_elim inl (λ y. inr (y ∙ sym (z j))) (cut.each j))
            (rw cut.long at h) (λ y. w (sym (same k) ∙ sym (z k) ∙ y)));
      }

  pub outcome_cut : (Q : ℕ → ℕ) (kept : ℕ → Bool) (n c k : ℕ) (x : List ℕ) → At s A old Q kept n c k x 0
      → k < length x → Q k ≢ words x k
      → IsCut s A old n x
  outcome_cut Q kept n c k x a h w =
      let z = a.sum in
      let e : a.done ≡ n = omega arith in
      cut_here Q kept n c k x a.goal (rw e at a.cut) a.pool h w
