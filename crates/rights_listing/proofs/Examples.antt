-- The paper's example: what the program writes, byte by byte.
use mathlib.Core.Path.{◌≡◌, refl}
use mathlib.Core.List.{[], ◌∷◌}
use Rattle.rights_listing.specs.Text.{places_in, numeral, end_of, text_from, text}

paper_numbers : text 1 (0 ∷ 0 ∷ 0 ∷ []) ≡ 48 ∷ 10 ∷ 48 ∷ 10 ∷ 48 ∷ 10 ∷ []
unfolding places_in numeral end_of text_from
paper_numbers = refl

paper_run : text 4 (1 ∷ 4096 ∷ 4103 ∷ 2 ∷ [])
    ≡ 49 ∷ 32 ∷ 52 ∷ 48 ∷ 57 ∷ 54 ∷ 32 ∷ 52 ∷ 49 ∷ 48 ∷ 51 ∷ 32 ∷ 50 ∷ 10 ∷ []
unfolding places_in numeral end_of text_from
paper_run = refl

last_byte : numeral 4294967295 ≡ 52 ∷ 50 ∷ 57 ∷ 52 ∷ 57 ∷ 54 ∷ 55 ∷ 50 ∷ 57 ∷ 53 ∷ []
unfolding places_in numeral
last_byte = refl
