-- Rounded regions and words, computed.
use mathlib.Core.Path.{◌≡◌, refl}
use mathlib.Core.Bool.{true, false}
use Rattle.std.specs.Prelude.{Ok, Err}
use Rattle.refusals.specs.declared.Refusal.TheVariants.{EmptyRegion, PastTheEnd}
use Rattle.words.specs.Rights.{right_at, good_rights, eight_of, sixteen_of}
use Rattle.words.specs.Region.{region_of, rounded, covered}

-- Sixty-four bytes from 0x1000 on are sixteen words.
sixty_four : region_of 0x1000 64 ≡ Ok (record { lo = 0x400; hi = 0x410 })
unfolding region_of
sixty_four = refl

-- The last word of the memory can be covered, and nothing after it.
last_word : region_of 0xFFFFFFFC 4 ≡ Ok (record { lo = 0x3FFFFFFF; hi = 0x40000000 })
unfolding region_of
last_word = refl

past_last_word : region_of 0xFFFFFFFC 5 ≡ Err PastTheEnd
unfolding region_of
past_last_word = refl

-- All of the memory, and a length whose rounding does not fit 32 bits.
all_memory : region_of 0 0xFFFFFFFF ≡ Ok (record { lo = 0; hi = 0x40000000 })
unfolding region_of
all_memory = refl

nothing : region_of 0xFFFFFFFC 0 ≡ Err EmptyRegion
unfolding region_of
nothing = refl

-- From the middle of a word: the start's low two bits count with the length.
middle_of_a_word : region_of 0x1002 4 ≡ Ok (record { lo = 0x400; hi = 0x402 })
unfolding region_of
middle_of_a_word = refl

middle_covers : (covered (rounded 0x1002 4) 0x1007 ≡ true) × (covered (rounded 0x1002 4) 0x1008 ≡ false)
middle_covers = (refl, refl)

-- They make no word more where the bytes asked for lie in one ..
half_a_word : region_of 0x1002 2 ≡ Ok (record { lo = 0x400; hi = 0x401 })
unfolding region_of
half_a_word = refl

-- .. nor a length out of none.
no_length : region_of 0x1002 0 ≡ Err EmptyRegion
unfolding region_of
no_length = refl

-- At the top of memory.
last_half : region_of 0xFFFFFFFE 2 ≡ Ok (record { lo = 0x3FFFFFFF; hi = 0x40000000 })
unfolding region_of
last_half = refl

past_last_half : region_of 0xFFFFFFFE 3 ≡ Err PastTheEnd
unfolding region_of
past_last_half = refl

-- Sums that do not fit 32 bits: the last byte is asked for, and one past it.
from_one : region_of 1 0xFFFFFFFF ≡ Ok (record { lo = 0; hi = 0x40000000 })
unfolding region_of
from_one = refl

from_two : region_of 2 0xFFFFFFFF ≡ Err PastTheEnd
unfolding region_of
from_two = refl

-- Words of the paper's benchmarks.
leaf_of_twos : sixteen_of 2 ≡ 0xAAAAAAAA
leaf_of_twos = refl

root_of_ones : eight_of 1 ≡ 0x80005555
root_of_ones = refl

first_of_eight : (right_at 0x80000002 0 ≡ 2) × (right_at 0x80000002 1 ≡ 0)
first_of_eight = (refl, refl)

good_and_bad : (good_rights 0x80000000 ≡ true) × (good_rights 0x80010000 ≡ false) × (good_rights 0 ≡ false)
good_and_bad = (refl, refl, refl)
