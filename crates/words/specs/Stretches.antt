-- Stretches of one right among numbered places: the parts of an entry, or the bytes of a block.
use Rattle.std.specs.Prelude.{ℕ, zero, suc, ◌+◌, ◌-◌, ◌≤◌, ◌<◌, ◌≡◌, ◌≢◌, cond, eqb}

-- Among the places `low ≤ j < high`, where place `j` has the right `f j`, those from `first` to `last` are the longest
-- stretch of one right around place `i`.
pub record Longest (f : ℕ → ℕ) (low high i first last : ℕ) : Type 0 where
  -- It lies inside, and place `i` in it.
  pub low_end : low ≤ first
  pub from : first ≤ i
  pub upto : i ≤ last
  pub high_end : last < high
  -- Every place of it has the right; its neighbours inside, if any, have another.
  pub one : (j : ℕ) → first ≤ j → j ≤ last → f j ≡ f i
  pub before : low < first → f (first - 1) ≢ f i
  pub after : last + 1 < high → f (last + 1) ≢ f i

-- The first of the places up to `i` from which on all have the right of place `i`.
unfoldable pub first_like : (ℕ → ℕ) → ℕ → ℕ
first_like f zero = 0
first_like f (suc i) = cond (eqb (f i) (f (suc i))) (first_like f i) (suc i)

-- The last, of place `i` and the `n` after it, up to which all have the right of place `i`.
unfoldable pub last_like : (ℕ → ℕ) → ℕ → ℕ → ℕ
last_like f i zero = i
last_like f i (suc n) = cond (eqb (f i) (f (suc i))) (last_like f (suc i) n) i
