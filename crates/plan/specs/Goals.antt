-- A plan that is right at every word of a pool.
use Rattle.std.specs.Prelude.{ℕ, ◌<◌, ◌≡◌, ◌≢◌, Bool, true, not, List, length}
use Rattle.theory.specs.Pool.{words}
use Rattle.table.specs.declared.Shape.{Shape}
use Rattle.table.specs.Map.{zone}
use Rattle.places.specs.Count.{heights}
use Rattle.plan.specs.Plan.{Plan, edge_of, of_table, after, new_word}
use Rattle.plan.specs.Aims.{Aim, aim_of, Goal}

-- The plan is right at every word of the pool `p`.
pub record Planned (s : Shape) (A : Aim) (q : Plan) (p : List ℕ) (Q : ℕ → ℕ) (kept : ℕ → Bool) : Type 0 where
  pub aim : A ≡ aim_of q.domain q.paint
  pub goal : Goal s A p Q kept
  -- From the old content and from the finished one the plan gives the finished one.
  pub final : (k : ℕ) → k < length p → after q k (words p k) ≡ Q k
  pub still : (k : ℕ) → k < length p → after q k (Q k) ≡ Q k
  -- Words that differ are of new tables exactly where they are not kept.
  pub new : (k : ℕ) → k < length p → Q k ≢ words p k → new_word q k ≡ not (kept k)
  -- The table of an edge lies among the tables of its height.
  pub lies : (h k : ℕ) → h < heights → (first : Bool) → of_table h (edge_of q h first) k ≡ true → zone s k ≡ h
  -- The words of the pool are of 32 bits.
  pub small : (k : ℕ) → words p k < 4294967296
