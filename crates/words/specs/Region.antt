-- Regions: how a start and a length in bytes are rounded to memory words, and when they are refused.
use Rattle.std.specs.Prelude.{ℕ, ◌+◌, ◌*◌, ◌/◌, ◌%◌, Bool, cond, ◌&&◌, eqb, leb, ltb, Result, Ok, Err}
use Rattle.refusals.specs.declared.Refusal.{Refusal}
use Rattle.refusals.specs.declared.Refusal.TheVariants.{EmptyRegion, PastTheEnd}
use Rattle.refusals.specs.Refusals.{number}
use Rattle.words.specs.declared.Region.{Region}

-- The start, in bytes, rounded down to a multiple of 4.
abbrev pub rounded_start : ℕ → ℕ
rounded_start start = start / 4 * 4

-- The length, in bytes, with the start's low two bits added to it and then rounded up to a multiple of 4.
abbrev pub rounded_length : ℕ → ℕ → ℕ
rounded_length start length = (start % 4 + length + 3) / 4 * 4

-- The first byte after a region: rounded start plus rounded length.
abbrev pub rounded_end : ℕ → ℕ → ℕ
rounded_end start length = rounded_start start + rounded_length start length

-- The memory words that a start and a length stand for.
abbrev pub rounded : ℕ → ℕ → Region
rounded start length = record { lo = rounded_start start / 4; hi = rounded_end start length / 4 }

-- What a start and a length answer: refused where the length is 0 or the end is above 2^32, else the words.
unfoldable pub region_of : ℕ → ℕ → Result Region Refusal
region_of start length =
    cond (eqb length 0) (Err EmptyRegion)
    (cond (ltb 4294967296 (rounded_end start length)) (Err PastTheEnd) (Ok (rounded start length)))

-- The paper's numbers for what comes back: a refusal, and the memory words covered.
pub record Numbers : Type 0 where
  pub refusal : ℕ
  pub lo : ℕ
  pub hi : ℕ

-- A refusal is its number with all other results zero.
abbrev pub numbers : Result Region Refusal → Numbers
numbers (Ok g) = record { refusal = 0; lo = g.lo; hi = g.hi }
numbers (Err k) = record { refusal = number k; lo = 0; hi = 0 }

-- The byte address is one of a word of the region.
abbrev pub covered : Region → ℕ → Bool
covered r a = leb r.lo (a / 4) && ltb (a / 4) r.hi
