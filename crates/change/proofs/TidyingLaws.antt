-- A tidying between two words: what lies behind it is finished, what is to change is of the first phase; and how it
-- goes on from a word.
use Prim.Native.Nat.{ℕ, ◌+◌, ◌≤◌, ◌<◌}
use mathlib.Core.Path.{◌≡◌, refl, sym, ◌∙◌}
use mathlib.Core.Logic.{◌≢◌, ◌⊎◌, inl, inr, ⊎_elim}
use mathlib.Core.Bool.{Bool, true, false, cond, ◌||◌}
use mathlib.Core.List.{List}
use native.Mathlib.Omega.{arith}
use native.Mathlib.Decide.{ℕ_discrete}
use lib.Dec.{ltb}
use borrow.Author.Tests.{lt-ltb, le-ltb, eq-eqb}
use Rattle.std.specs.Prelude.{Option, Some, None}
use Rattle.theory.specs.Pool.{words, right_of}
use Rattle.theory.specs.Finished.{Finished}
use Rattle.theory.specs.Phase.{midway}
use Rattle.theory.proofs.FinishedLaws.{finished_words}
use Rattle.table.specs.declared.Shape.{Shape}
use Rattle.table.specs.Map.{form_of}
use Rattle.table.proofs.FormLaws.{lawful, exact}
use Rattle.table.proofs.WantLaws.{wanting}
use Rattle.plan.specs.Aims.{no_aim}
use Rattle.change.specs.Runs.{Tidying}
use Rattle.change.specs.Runs.{phases, Run, Stands, Stores}
use Rattle.change.specs.Tidying.{TidyAt, Becomes, AimedAt}
use Rattle.change.proofs.State.{here_was}
use Rattle.change.proofs.StateLaws.{at_jump}
use Rattle.change.proofs.OutcomeLaws.{one_goal}
use Rattle.change.proofs.TidyLaws.{differs_first}

module _ {s : Shape} {old : List ℕ} {Q : ℕ → ℕ} {kept : ℕ → Bool} {n k : ℕ} {x : List ℕ} {left : ℕ}
    (a : TidyAt s old Q kept n k x left) where
  same_goal : (j : ℕ) → a.cut.goal j ≡ Q j
  same_goal = one_goal s no_aim old Q a.goal.finished a.cut

  -- The pool as it is has the same finished pool.
  pub tidy_now : Finished (form_of s) (words x) (right_of (form_of s) (words x)) Q
  tidy_now = finished_words (form_of s) _ _ same_goal a.cut.again

  -- So has the pool as it was.
  pub tidy_old : Finished (form_of s) (words old) (right_of (form_of s) (words old)) Q
  tidy_old = a.goal.finished

  -- A word that is to change is of the first phase.
  pub first_phase : (j : ℕ) → Q j ≢ words old j → phases s old kept j ≡ 1
  first_phase = differs_first (form_of s) (lawful _) (wanting _) (exact _) a.goal.sound tidy_old
      kept a.goal.tells

  pub here_first : Q k ≢ words x k → phases s old kept k ≡ 1
  here_first m = first_phase k (λ e. m (e ∙ sym (here_was a m)))

  pub between : (j : ℕ) → (words x j ≡ words old j) ⊎ (words x j ≡ Q j)
  between j = ⊎_elim inl (λ z. inr (z ∙ same_goal j)) (a.cut.each j)

  -- The words behind have their finished values.
  pub behind : (j : ℕ) → j < k → words x j ≡ Q j
  behind j h = elim (ℕ_discrete (Q j) (words old j)) [
    | yes e ↦ ⊎_elim (λ z. z ∙ sym e) (λ z. z) (between j)
    | no e ↦ a.pool j ∙ passed (first_phase j e)
  ]
    where
      passed : phases s old kept j ≡ 1 → midway (words old) Q (phases s old kept) 1 k j ≡ Q j
      passed e = rw (eq-eqb (phases s old kept j) 1 e, lt-ltb j k h) (go (ltb (phases s old kept j) 1))
        where
          go : (b : Bool) → cond (b || true) (Q j) (words old j) ≡ Q j
          go true = refl
          go false = refl

  -- A word ahead that has its finished value had it from the start.
  ahead : (j : ℕ) → k ≤ j → Q j ≡ words x j → Q j ≡ words old j
  ahead j h m = elim (ℕ_discrete (Q j) (words old j)) [
    | yes e ↦ e
    | no e ↦ m ∙ a.pool j ∙ waits (first_phase j e)
  ]
    where
      waits : phases s old kept j ≡ 1 → midway (words old) Q (phases s old kept) 1 k j ≡ words old j
      waits e = rw (le-ltb (phases s old kept j) 1 (omega arith), eq-eqb (phases s old kept j) 1 e, le-ltb j k h) refl

  -- Words that have their finished values are passed over.
  pub tidy_to : (m : ℕ) → k ≤ m → ((j : ℕ) → k ≤ j → j < m → Q j ≡ words x j) → TidyAt s old Q kept n m x left
  tidy_to m h stays = at_jump k m h (λ j lo hi. ahead j lo (stays j lo hi)) a

-- A run of the work is a tidying.
module _ (s : Shape) (u : Run s Tidying) {x : List ℕ} where
  pub as_tidying : {k : ℕ} → Stands s Tidying u 1 k x → TidyAt s u.old u.goal u.kept u.allowance k x
      u.left
  as_tidying a = rw u.meant at a

  pub of_tidying : {k : ℕ} → TidyAt s u.old u.goal u.kept u.allowance k x u.left
      → Stands s Tidying u 1 k x
  of_tidying a = rw u.meant a

  -- The word stays,
  pub aim_passes : (k : ℕ) (t : Option ℕ) → t ≡ None → AimedAt s k x t → Stands s Tidying u 1 k x
      → Stands s Tidying u 1 (k + 1) x
  aim_passes k t e f b =
      let a = as_tidying b in
      let stays : u.goal k ≡ words x k = rw e at (f u.old u.goal u.kept u.allowance u.left a) in
      of_tidying (tidy_to a (k + 1) (omega arith) (λ j lo hi. let z : j ≡ k = omega arith in rw z stays))

  -- or is stored.
  pub aim_stores : (k v : ℕ) (t : Option ℕ) → t ≡ Some v → AimedAt s k x t → Stands s Tidying u 1 k x
      → Stores s Tidying u x 1 k v
  aim_stores k v t e f b =
      let a = as_tidying b in
      let (g, w) : Becomes (Some v) (words x k) (u.goal k) = rw e
      at (f u.old u.goal u.kept u.allowance u.left a) in
      record { at = b; phase = here_first a (λ z. w (sym z ∙ g)); value = sym g; differs = w }
