-- Owned regions, computed: who may on which word, what the calls leave, and the refusals in their order.
use Prim.Native.Nat.{ℕ}
use mathlib.Core.Path.{◌≡◌, refl}
use mathlib.Core.Bool.{true, false}
use mathlib.Core.List.{List, [], ◌∷◌, ◌++◌}
use lib.ListN.{replicate}
use Rattle.words.specs.declared.Region.{Region}
use Rattle.words.specs.Region.{region_of}
use Rattle.owners.specs.declared.Owned.{Owned}
use Rattle.owners.specs.Regions.{region_at, count_of, first_from, holds, place_of}
use Rattle.owners.specs.Rules.{no_greater, exports, may_in, may_word, every_word, allowed_of}
use Rattle.owners.specs.Calls.{numbers, owned_words, asked_of, made, passed, gave, make_of, pass_of, give_of}

-- A list with no regions.
abbrev none : List ℕ
none = replicate 321 0

abbrev owned : ℕ → ℕ → ℕ → ℕ → ℕ → Owned
owned owner lo hi given rights = record { owner = owner; lo = lo; hi = hi; given = given; rights = rights }

abbrev from : ℕ → ℕ → Region
from lo hi = record { lo = lo; hi = hi }

-- The order of rights, each row a right and each column an export: none, read, read and write, execute and read.
order : (no_greater 0 0 ∷ no_greater 0 1 ∷ no_greater 0 2 ∷ no_greater 0 3 ∷ [])
    ∷ (no_greater 1 0 ∷ no_greater 1 1 ∷ no_greater 1 2 ∷ no_greater 1 3 ∷ [])
    ∷ (no_greater 2 0 ∷ no_greater 2 1 ∷ no_greater 2 2 ∷ no_greater 2 3 ∷ [])
    ∷ (no_greater 3 0 ∷ no_greater 3 1 ∷ no_greater 3 2 ∷ no_greater 3 3 ∷ []) ∷ []
    ≡ (true ∷ true ∷ true ∷ true ∷ [])
    ∷ (false ∷ true ∷ true ∷ true ∷ [])
    ∷ (false ∷ false ∷ true ∷ false ∷ [])
    ∷ (false ∷ false ∷ false ∷ true ∷ []) ∷ []
order = refl

-- In a region of domain 1 where domain 2 has an export of none, and 3 none given: 2 may set none and nothing more, not
-- for itself; 3 may not even set none.
none_given : may_in (owned 1 0 9 4 0) 2 0 0 ∷ may_in (owned 1 0 9 4 0) 2 0 1 ∷ may_in (owned 1 0 9 4 0) 2 2 0
    ∷ may_in (owned 1 0 9 4 0) 3 0 0 ∷ [] ≡ true ∷ false ∷ false ∷ false ∷ []
none_given = refl

-- Domain 15 may have an export, domain 16 has none, whatever the words hold.
last_export : exports (owned 1 0 9 0xFFFFFFFF 0) 15 ∷ exports (owned 1 0 9 0xFFFFFFFF 0) 16 ∷ [] ≡ true ∷ false ∷ []
last_export = refl

-- Domain 0 makes a region of sixteen bytes for domain 1, and one for domain 2 right after it; the second is named from
-- the middle of a word.
abbrev one : List ℕ
one = (make_of 4 none 0 1 4096 16).list

abbrev two : List ℕ
two = (make_of 4 one 0 2 4114 14).list

regions_made : count_of two ∷ [] ≡ 2 ∷ []
unfolding asked_of region_of made first_from
regions_made = refl

first_made : region_at two 0 ≡ owned 1 1024 1028 0 0
unfolding asked_of region_of made first_from
first_made = refl

second_made : region_at two 1 ≡ owned 2 1028 1032 0 0
unfolding asked_of region_of made first_from
second_made = refl

-- An owner may set any right on its own words, for any domain, itself too, but not across to the next region; domain 0
-- only on words in none.
who_may : allowed_of two 1 1 2 (from 1024 1028) ∷ allowed_of two 1 1 2 (from 1026 1030)
    ∷ allowed_of two 0 1 2 (from 1023 1025) ∷ allowed_of two 0 1 2 (from 1020 1024) ∷ []
    ≡ true ∷ false ∷ false ∷ true ∷ []
unfolding asked_of region_of made first_from every_word
who_may = refl

-- The ends of a region may allow it, and a word in the middle not.
middle_word : allowed_of two 0 1 2 (from 1020 1036) ∷ may_word two 0 1 2 1020 ∷ may_word two 0 1 2 1035 ∷ []
    ≡ false ∷ true ∷ true ∷ []
unfolding asked_of region_of made first_from every_word
middle_word = refl

-- Domain 1 gives domain 3 an export of read and write, and then of read: that may set read or none, for any but itself.
abbrev given : List ℕ
given = (give_of 4 (give_of 4 two 1 3 2 4096 16).list 1 3 1 4096 16).list

region_given : region_at given 0 ≡ owned 1 1024 1028 8 64
unfolding asked_of region_of made first_from gave
region_given = refl

export_may : may_word given 3 2 1 1027 ∷ may_word given 3 2 2 1027 ∷ may_word given 3 3 1 1027 ∷ may_word given 3 2 0 1028
    ∷ []
    ≡ true ∷ false ∷ false ∷ false ∷ []
unfolding asked_of region_of made first_from gave
export_may = refl

-- Passed on, the region has no exports.
passed_on : region_at (pass_of 4 given 1 0 4096 16).list 0 ≡ owned 0 1024 1028 0 0
unfolding asked_of region_of made first_from gave passed
passed_on = refl

-- Of overlapping regions the earlier counts, one that ends where it begins or before holds nothing, and one past the
-- count is idle.
abbrev odd : List ℕ
odd = owned_words (owned 3 9 9 0 0) ++ owned_words (owned 1 4 8 0 0) ++ owned_words (owned 2 6 10 0 0)
    ++ owned_words (owned 3 0 99 0 0) ++ replicate 300 0 ++ 3 ∷ []

earlier_counts : place_of odd (holds 7) ∷ place_of odd (holds 9) ∷ place_of odd (holds 11) ∷ [] ≡ 1 ∷ 2 ∷ 3 ∷ []
unfolding first_from
earlier_counts = refl

-- Making refuses in the order 101, 1, 18, 2, 4, 5, 19, 20: each call below mends the first fault of the one before it.
abbrev many : List ℕ
many = replicate 320 0 ++ 65 ∷ []

abbrev full : List ℕ
full = replicate 320 0 ++ 64 ∷ []

makes_refused : (numbers (make_of 5 (replicate 320 0) 4 9 0 0)).refusal ∷ (numbers (make_of 5 many 4 9 0 0)).refusal
    ∷ (numbers (make_of 4 many 4 9 0 0)).refusal ∷ (numbers (make_of 4 full 4 9 0 0)).refusal ∷ (numbers (make_of 4 full 1 3 4294967294 0)).refusal
    ∷ (numbers (make_of 4 full 1 3 4294967292 5)).refusal ∷ (numbers (make_of 4 full 1 3 4294967292 4)).refusal
    ∷ (numbers (make_of 4 full 0 3 4294967292 4)).refusal ∷ [] ≡ 101 ∷ 1 ∷ 18 ∷ 2 ∷ 4 ∷ 5 ∷ 19 ∷ 20 ∷ []
unfolding asked_of region_of made first_from
makes_refused = refl

-- Giving refuses 3 after 2 and before 4; and 19 for words of no region, for another's, and for the caller itself.
gives_refused : (numbers (give_of 4 two 1 4 4 4096 0)).refusal ∷ (numbers (give_of 4 two 1 3 4 4096 0)).refusal
    ∷ (numbers (give_of 4 two 1 3 3 4096 0)).refusal ∷ (numbers (give_of 4 two 1 3 3 4096 12)).refusal ∷ (numbers (give_of 4 two 2 3 3 4096 16)).refusal
    ∷ (numbers (give_of 4 two 1 1 3 4096 16)).refusal ∷ (numbers (give_of 4 two 1 3 3 4096 16)).refusal ∷ []
    ≡ 2 ∷ 3 ∷ 4 ∷ 19 ∷ 19 ∷ 19 ∷ 0 ∷ []
unfolding asked_of region_of made first_from gave
gives_refused = refl
