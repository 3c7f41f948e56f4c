-- Numbers as text: decimal digits without leading zeros, as many numbers to a line as is said.
use Rattle.std.specs.Prelude.{ℕ, zero, suc, ◌+◌, ◌-◌, ◌/◌, ◌%◌, cond, List, [], ◌∷◌, ◌++◌, eqb, ltb}
use Rattle.io.specs.Digits.{last_digits}

-- How many decimal digits a number takes; it has at most one more than the first argument says.
unfoldable pub places_in : ℕ → ℕ → ℕ
places_in zero n = 1
places_in (suc f) n = cond (ltb n 10) 1 (suc (places_in f (n / 10)))

-- A number below 10^10 in decimal, as bytes.
unfoldable pub numeral : ℕ → List ℕ
numeral n = last_digits 10 (places_in 9 n) n

-- The byte after number `i`, where a line has `per` numbers: a space (32), or a newline (10) after the last of a line.
unfoldable pub end_of : ℕ → ℕ → ℕ
end_of per i = cond (eqb (i % per) (per - 1)) 10 32

-- Numbers as text, the first of them number `i`.
unfoldable pub text_from : ℕ → ℕ → List ℕ → List ℕ
text_from per i [] = []
text_from per i (n ∷ ns) = numeral n ++ (end_of per i ∷ text_from per (i + 1) ns)

-- Numbers as text, `per` to a line.
abbrev pub text : ℕ → List ℕ → List ℕ
text per ns = text_from per 0 ns
