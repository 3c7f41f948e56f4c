-- How a kind of row lies in words: what the laws of rows ask for.
use Prim.Native.Nat.{ℕ, ◌+◌, ◌≤◌}
use mathlib.Core.Path.{◌≡◌}
use mathlib.Core.Bool.{Bool, true}
use mathlib.Core.List.{List, ◌++◌}
use lib.ListN.{length, take, drop}

-- How a row lies in words: in how many; the row in the words from an index on; the words of a row; and that the two
-- are inverse to each other, for each row that words can say.
pub record Layout (A : Type 0) : Type 0 where
  pub width : ℕ
  pub at : List ℕ → ℕ → A
  pub row : A → List ℕ
  pub sayable : A → Bool
  pub long : (x : A) → length (row x) ≡ width
  pub read : (ws : List ℕ) (j : ℕ) → j + width ≤ length ws → row (at ws j) ≡ take width (drop j ws)
  pub again : (x : A) → sayable x ≡ true → (b a : List ℕ) → at (b ++ (row x ++ a)) (length b) ≡ x
