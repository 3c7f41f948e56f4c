-- Rows in words: each row the same number of words, one row after the other.
use Rattle.std.specs.Prelude.{ℕ, zero, suc, List, [], ◌∷◌, ◌++◌}

-- The rows `f 0`, `f 1` and so on, `n` of them.
unfoldable pub rows_of : {A : Type 0} → ℕ → (ℕ → A) → List A
rows_of zero f = []
rows_of (suc n) f = rows_of n f ++ f n ∷ []

-- The words of rows, each of which has the words `row` says.
unfoldable pub words_of : {A : Type 0} → (A → List ℕ) → List A → List ℕ
words_of row [] = []
words_of row (x ∷ xs) = row x ++ words_of row xs
