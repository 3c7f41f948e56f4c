-- An allowance of as many stores as the pool has words suffices.
use Prim.Native.Nat.{ℕ, suc, ◌≤◌}
use mathlib.Core.Path.{◌≡◌, sym, ap, ◌∙◌}
use mathlib.Core.Logic.{⊎_elim}
use mathlib.Core.Bool.{Bool, true, false, cond}
use mathlib.Core.List.{List, [], ◌∷◌}
use native.Mathlib.Omega.{arith}
use native.Mathlib.Decide.{dec_lt}
use lib.Dec.{eqb}
use lib.ListN.{length, get_or-eq_default}
use Rattle.theory.specs.Pool.{words}
use Rattle.table.specs.declared.Shape.{Shape}
use Rattle.plan.specs.Aims.{Aim, Goal}
use Rattle.change.specs.Cuts.{differing}
use Rattle.change.specs.Answers.{IsDone, IsCut}
use Rattle.change.proofs.OutcomeLaws.{one_goal}
use Rattle.change.proofs.EndLaws.{goal_ends}
use Rattle.benchmarks.proofs.RowLaws.{listed, listed_long, listed_word}

-- No more words differ than there are.
differing_long : (p q : List ℕ) → differing p q ≤ length p
unfolding differing
differing_long [] q = omega arith
differing_long (x ∷ p) [] = omega arith
differing_long (x ∷ p) (y ∷ q) = go (eqb x y) (differing p q) (length p) (differing_long p q)
  where
    go : (b : Bool) (m n : ℕ) → m ≤ n → cond b m (suc m) ≤ suc n
    go true m n h = omega arith
    go false m n h = omega arith

module _ (s : Shape) (A : Aim) (old : List ℕ) (Q : ℕ → ℕ) (kept : ℕ → Bool)
    (g : Goal s A old Q kept) where
  goal_word : (j : ℕ) → words (listed Q 0 (length old)) j ≡ Q j
  goal_word j = elim (dec_lt j (length old)) [
    | yes h ↦ listed_word Q 0 (length old) j h ∙ ap Q (omega arith)
    | no h ↦ get_or-eq_default (listed Q 0 (length old)) 0 (rw (listed_long Q 0 (length old)) (omega arith))
        ∙ sym (g.beyond j (omega arith) ∙ get_or-eq_default old 0 (omega arith))
  ]

  pub enough_done : (q : List ℕ) × IsDone s A old (length old) q
  enough_done = ⊎_elim (λ x. x) (λ (x, c). absurd (too_few x c)) (goal_ends s A old Q kept (length old) g)
    where
      too_few : (x : List ℕ) → IsCut s A old (length old) x → ⊥
      too_few x c =
          let more = c.more (listed Q 0 (length old)) (listed_long Q 0 (length old))
          (λ j. goal_word j ∙ sym (one_goal s A old Q g.finished c.cut j)) in
          let most = differing_long old (listed Q 0 (length old)) in
          omega arith
