-- A run of a change at a word: it passes over the word, or stores it; and it goes on to the next row.
use Prim.Native.Nat.{ℕ, ◌+◌, ◌≤◌, ◌<◌}
use mathlib.Core.Path.{◌≡◌, sym, ◌∙◌}
use mathlib.Core.Logic.{◌≢◌, inl, inr}
use mathlib.Core.List.{List}
use native.Mathlib.Decide.{ℕ_discrete}
use lib.ListN.{length}
use Rattle.theory.specs.Pool.{words}
use Rattle.table.specs.declared.Shape.{Shape}
use Rattle.plan.specs.Plan.{Plan, after, phase_of}
use Rattle.change.specs.Runs.{Change}
use Rattle.change.specs.Runs.{Run, Stands, Stores}
use Rattle.change.specs.Ahead.{Idle}
use Rattle.change.proofs.State.{at_long, at_final, at_phase, at_skip}
use Rattle.change.proofs.StateLaws.{at_turn}
use Rattle.change.proofs.AheadLaws.{at_ahead}

module _ (s : Shape) (q : Plan) (c k : ℕ) (x : List ℕ) (h : k < length x) (u : Run s (Change q))
    (a : Stands s (Change q) u c k x) where
  moves : after q k (words x k) ≢ words x k → u.goal k ≢ words x k
  moves n e = n (at_final a u.meant h ∙ e)

  -- The word has its finished value, or is of another phase,
  pub turn_same : after q k (words x k) ≡ words x k → Stands s (Change q) u c (k + 1) x
  turn_same e = at_skip a (inl (sym (at_final a u.meant h) ∙ e))

  pub turn_other : phase_of s q k (words x k) ≢ c → Stands s (Change q) u c (k + 1) x
  turn_other n = elim (ℕ_discrete (after q k (words x k)) (words x k)) [
    | yes e ↦ turn_same e
    | no e ↦ at_skip a (inr (λ z. n (at_phase a u.meant h (moves e) ∙ z)))
  ]

  -- or is stored.
  pub turn_stores : phase_of s q k (words x k) ≡ c → after q k (words x k) ≢ words x k → Stores s (Change q) u x c k
      (after q k (words x k))
  turn_stores p n = record {
    at = a;
    phase = sym (at_phase a u.meant h (moves n)) ∙ p;
    value = at_final a u.meant h;
    differs = λ z. n (sym z);
  }

module _ (s : Shape) (q : Plan) (c k : ℕ) (x : List ℕ) (u : Run s (Change q)) (a : Stands s (Change q) u c k x) where
  -- Past the last word the next phase begins.
  pub row_turn : k ≡ length x → Stands s (Change q) u (c + 1) 0 x
  row_turn e = let z : k ≡ length u.old = e ∙ at_long a in at_turn c (rw z at a)

  -- Between the rows there is nothing to do.
  pub row_ahead : (i : ℕ) → k ≤ i → ((j : ℕ) → k ≤ j → j < i → Idle q c j) → Stands s (Change q) u c i x
  row_ahead i h idle = at_ahead u.meant h idle a
