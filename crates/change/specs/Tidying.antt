-- What a tidying does with a word, and whose a table is. It makes the stores of the first phase alone. For the inner
-- functions.
use Rattle.std.specs.Prelude.{ℕ, ◌*◌, ◌+◌, ◌≤◌, ◌<◌, ◌≡◌, ◌≢◌, ◌⊎◌, Bool, List, Option, Some, None}
use Rattle.theory.specs.Pool.{words}
use Rattle.table.specs.declared.Shape.{Shape}
use Rattle.table.specs.Shape.{first_middle}
use Rattle.change.specs.Runs.{At}
use Rattle.plan.specs.Aims.{no_aim}

-- The tidying of `old` with the allowance `n` has come to word `k`; `left` stores are left.
abbrev pub TidyAt : Shape → List ℕ → (ℕ → ℕ) → (ℕ → Bool) → ℕ → ℕ → List ℕ → ℕ → Type 0
TidyAt s old goal kept n k x left = At s no_aim old goal kept n 1 k x left

-- By its target, a word that holds `w` and is to hold `g` changes to rights, or stays.
abbrev pub Becomes : Option ℕ → ℕ → ℕ → Type 0
Becomes (Some v) w g = (g ≡ v) × (w ≢ v)
Becomes None w g = g ≡ w

-- For every tidying that has come to word `k` of the pool `x`, the word is to become what the target says.
abbrev pub AimedAt : Shape → ℕ → List ℕ → Option ℕ → Type 0
AimedAt s k x t =
    (old : List ℕ) (goal : ℕ → ℕ) (kept : ℕ → Bool) (n left : ℕ) → TidyAt s old goal kept n k x left
    → Becomes t (words x k) (goal k)

-- A middle place begins at word `t`.
abbrev pub MiddlePlace : Shape → ℕ → Type 0
MiddlePlace s t = (p : ℕ) × (p < s.middles) × (t ≡ first_middle s + 1024 * p)

-- The root word `owner` leads to the middle table at `t`, which is a place.
pub record Owns (s : Shape) (x : List ℕ) (owner t : ℕ) : Type 0 where
  pub root : owner < first_middle s
  pub leads : words x owner ≡ t
  pub place : MiddlePlace s t

-- A root, or a middle table that has an owner.
abbrev pub Table : Shape → List ℕ → ℕ → ℕ → Type 0
Table s x owner t = (t + 1024 ≤ first_middle s) ⊎ Owns s x owner t

-- A root, or a middle place.
abbrev pub Place : Shape → ℕ → Type 0
Place s t = (t + 1024 ≤ first_middle s) ⊎ MiddlePlace s t
