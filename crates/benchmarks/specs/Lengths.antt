-- Lengths from the middle of a word: examples beside the twelve, a definition a row, about the same contracts and that
-- of a region flush. D is 1, the domain is 0, and the pool is fresh unless a row says more.
use Rattle.std.specs.Prelude.{ℕ, ◌≤◌, ◌<◌, ◌≡◌, ◌↔◌, cond, ◌&&◌, List, ◌∷◌, leb, ltb, replicate, Result, Ok}
use Rattle.refusals.specs.declared.Refusal.{Refusal}
use Rattle.refusals.specs.declared.Refusal.TheVariants.{EmptyRegion, PastTheEnd}
use Rattle.theory.specs.Pool.{words, right_of}
use Rattle.table.specs.declared.Shape.{Shape}
use Rattle.table.specs.Shape.{first_leaf}
use Rattle.table.specs.Map.{addresses, form_of}
use Rattle.table.specs.Fresh.{fresh_pool}
use Rattle.change.specs.declared.Ending.{Ending}
use Rattle.change.specs.Answers.{Changes}
use Rattle.lookaside.specs.declared.Slot.{Slot}
use Rattle.lookaside.specs.Slots.{Buffer, slot_for, empty_slot}
use Rattle.lookaside.specs.Flushes.{flushed_region, refused}
use Rattle.benchmarks.specs.Rows.{shape, Always, AnsweredDone, AnsweredRefused, Sets, FindsRight, last_stores}

-- Of every pool, in every domain, with every right and allowance, a change of the one region is one of the other.
abbrev pub SameChange : (start len start' len' : ℕ) → Type 0
SameChange start len start' len' = (p : List ℕ) (s : Shape) (d r n : ℕ) (a : Result Ending Refusal) (q : List ℕ)
    → Changes p s d start len r n a q ↔ Changes p s d start' len' r n a q

-- Whatever the right, up to 3, and the allowance: refused, and the pool is as it came.
abbrev pub Refuses : (M L start len k : ℕ) → Type 0
Refuses M L start len k = (r n : ℕ) → r ≤ 3
    → Always (Sets M L start len r n) (λ a q. AnsweredRefused k a × (q ≡ fresh_pool (shape M L)))

-- 1. M 1, L 1, set 0x1002 for 4 bytes to 2: done, 1,026 stores; the leaf's first entry is 0xA, and the bytes from
-- 0x1000 to 0x1007 have the right, no others.
abbrev pub FourBytes : Type 0
FourBytes = (n : ℕ) → 1026 ≤ n → Always (Sets 1 1 0x1002 4 2 n)
    (λ a q. AnsweredDone 1026 a × (words q (first_leaf (shape 1 1)) ≡ 0xA)
    × ((b : ℕ) → b < addresses
    → right_of (form_of (shape 1 1)) (words q) 0 b ≡ cond (leb 0x1000 b && ltb b 0x1008) 2 0))

-- 2. Then 0x1000 and 0x1007 give 2 and 0x1008 gives 0, 3 loads each; 0xFFF gives 0 in 2. The right 2 reaches from
-- 0x1000 to 0x1007, right 0 from there to the end of the leaf entry, and from 0 to 0xFFF.
abbrev pub LooksBeside : Type 0
LooksBeside = (n : ℕ) → 1026 ≤ n → Always (Sets 1 1 0x1002 4 2 n)
    (λ a q. FindsRight q (shape 1 1) 0x1000 2 0xA 3 0x1000 0x1007
    × FindsRight q (shape 1 1) 0x1007 2 0xA 3 0x1000 0x1007
    × FindsRight q (shape 1 1) 0x1008 0 0xA 3 0x1008 0x103F
    × FindsRight q (shape 1 1) 0xFFF 0 0x80000000 2 0 0xFFF)

-- 3. M 1, L 1, start 0xFFFFFFFE: length 2 accepted, 3 refused 5. Accepted: with an allowance that suffices done, and
-- the last word has the right; and in every pool it is what length 4 from 0xFFFFFFFC is, row 10 of the twelve.
abbrev pub LastHalf : Type 0
LastHalf = ((r n : ℕ) → r ≤ 3 → last_stores r ≤ n → Always (Sets 1 1 0xFFFFFFFE 2 r n)
    (λ a q. AnsweredDone (last_stores r) a × (right_of (form_of (shape 1 1)) (words q) 0 0xFFFFFFFC ≡ r)))
    × SameChange 0xFFFFFFFE 2 0xFFFFFFFC 4 × Refuses 1 1 0xFFFFFFFE 3 5

-- 4. The length as given counts for 4: start 0x1002, length 0 is refused 4.
abbrev pub NoLength : Type 0
NoLength = Refuses 1 1 0x1002 0 4

-- 5. Sums that do not fit 32 bits: 4,294,967,295 bytes from 1 on are all of the memory, row 9 of the twelve; from 2 on
-- they are refused 5.
abbrev pub LongSum : Type 0
LongSum = SameChange 1 4294967295 0 4294967295 × Refuses 0 0 2 4294967295 5

-- A buffer of four slots, the others empty.
abbrev pub four_slots : (one two three last : Slot) → Buffer
four_slots one two three last = record { slots = one ∷ two ∷ three ∷ last ∷ replicate 60 empty_slot; next = 4 }

-- The slot of a line, the 64 bytes at `a`, in domain 0 with the entry `w`.
abbrev pub line_at : ℕ → ℕ → Slot
line_at w a = slot_for 0 a w 3

-- A buffer that holds the lines at 0x1000, 0x1040 and 0x1080, and the last of the memory.
abbrev pub held : ℕ → Buffer
held w = four_slots (line_at w 0x1000) (line_at w 0x1040) (line_at w 0x1080) (line_at w 0xFFFFFFC0)

-- 6. A flush of 4 bytes at 0x103E empties the slots of both lines in which they lie, and no other; start 0xFFFFFFFE:
-- with length 2 it empties that of the last line, with 3 it is refused 5; start 0x1002, length 0: refused 4.
pub record FlushesFollow : Type 0 where
  pub both_lines : (w : ℕ) → flushed_region (held w) 0 0x103E 4
      ≡ record { answer = Ok tt; buffer = four_slots empty_slot empty_slot (line_at w 0x1080) (line_at w 0xFFFFFFC0) }
  pub last_line : (w : ℕ) → flushed_region (held w) 0 0xFFFFFFFE 2
      ≡ record {
        answer = Ok tt;
        buffer = four_slots (line_at w 0x1000) (line_at w 0x1040) (line_at w 0x1080) empty_slot;
      }
  pub past_the_end : (w : ℕ) → flushed_region (held w) 0 0xFFFFFFFE 3 ≡ refused PastTheEnd (held w)
  pub no_length : (w : ℕ) → flushed_region (held w) 0 0x1002 0 ≡ refused EmptyRegion (held w)

-- The six.
pub record Lengths : Type 0 where
  pub row_1 : FourBytes
  pub row_2 : LooksBeside
  pub row_3 : LastHalf
  pub row_4 : NoLength
  pub row_5 : LongSum
  pub row_6 : FlushesFollow
