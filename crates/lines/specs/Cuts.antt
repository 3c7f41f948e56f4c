-- Bytes cut at a mark: an input into lines at newlines, a line into words at spaces.
use Rattle.std.specs.Prelude.{ℕ, cond, List, [], ◌∷◌, eqb}

-- A byte in front of the first piece, or alone where there is no piece.
unfoldable pub onto : ℕ → List (List ℕ) → List (List ℕ)
onto b [] = (b ∷ []) ∷ []
onto b (p ∷ ps) = (b ∷ p) ∷ ps

-- The pieces between the marks m; `end` is what the end of the bytes counts for, after a mark or where there are none.
unfoldable pub cut_at : ℕ → List (List ℕ) → List ℕ → List (List ℕ)
cut_at m end [] = end
cut_at m end (b ∷ bs) = cond (eqb b m) ([] ∷ cut_at m end bs) (onto b (cut_at m end bs))

-- The words of a line, between single spaces: two spaces, or one at an end, leave an empty word.
abbrev pub words_of : List ℕ → List (List ℕ)
words_of line = cut_at 32 ([] ∷ []) line

-- The lines of an input, without their newlines: a last one without a newline counts, and after a last newline there
-- is none.
abbrev pub lines_of : List ℕ → List (List ℕ)
lines_of input = cut_at 10 [] input
