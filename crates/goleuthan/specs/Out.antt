-- Result words, and the numbers that the C face has of its own.
use Rattle.std.specs.Prelude.{ℕ, cond, Result, Ok, Err, List, [], ◌∷◌, leb, replicate}
use Rattle.refusals.specs.declared.Refusal.{Refusal}
use Rattle.refusals.specs.declared.Refusal.TheVariants.{WrongLength}
use Rattle.refusals.specs.Refusals.{number}

-- The results over the lent words `out`: as many as fit. Words past the results stay as they were.
unfoldable pub out_with : List ℕ → List ℕ → List ℕ
out_with [] out = out
out_with (r ∷ rs) [] = []
out_with (r ∷ rs) (w ∷ out) = r ∷ out_with rs out

-- The number of an answer: 0, or that of its refusal.
abbrev pub number_of : {A : Type 0} → Result A Refusal → ℕ
number_of (Ok _) = 0
number_of (Err r) = number r

-- The `n` results of an answer; a refusal has zeros in their place.
abbrev pub words_of : ℕ → Result (List ℕ) Refusal → List ℕ
words_of n (Ok ws) = ws
words_of n (Err _) = replicate n 0

-- What is answered, before all else, where lent words are not as many as their layout has.
abbrev pub wrong_length : ℕ
wrong_length = number WrongLength

-- A change or a tidying was cut.
abbrev pub was_cut : ℕ
was_cut = 100

-- The greatest number of one word.
abbrev pub greatest : ℕ
greatest = 0xFFFFFFFF

-- A number in one word: itself, or the greatest where it is greater.
abbrev pub in_one_word : ℕ → ℕ
in_one_word n = cond (leb n greatest) n greatest
