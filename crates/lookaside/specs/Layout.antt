-- How a buffer lies in lent words: what words say, the words of a buffer, and what a call on words leaves. The first
-- two are inverse to each other (proofs/LayoutLaws).
use Rattle.std.specs.Prelude.{ℕ, ◌+◌, ◌*◌, ◌≡◌, List, [], ◌∷◌, ◌++◌, length, get_or, Result}
use Rattle.refusals.specs.declared.Refusal.{Refusal}
use Rattle.rows.specs.Rows.{rows_of, words_of}
use Rattle.lookaside.specs.declared.Slot.{Slot}
use Rattle.lookaside.specs.declared.Verdict.{Verdict}
use Rattle.lookaside.specs.Slots.{Buffer}
use Rattle.lookaside.specs.Check.{Checked}
use Rattle.lookaside.specs.Flushes.{Flushed}

-- The words of a buffer: 64 slots of four, then next.
abbrev pub buffer_long : ℕ
buffer_long = 257

-- As many words as a buffer has.
abbrev pub IsBuffer : List ℕ → Type 0
IsBuffer ws = length ws ≡ buffer_long

-- The slot in the words from `at` on: domain, level, block, entry.
abbrev pub slot_at : List ℕ → ℕ → Slot
slot_at ws at =
    record {
      domain = get_or ws at 0;
      level = get_or ws (at + 1) 0;
      block = record { 0 = get_or ws (at + 2) 0 };
      entry =
          get_or ws (at + 3) 0;
    }

-- The words of a slot.
abbrev pub slot_words : Slot → List ℕ
slot_words s = s.domain ∷ s.level ∷ s.block.0 ∷ s.entry ∷ []

-- The buffer that words say.
abbrev pub buffer_of : List ℕ → Buffer
buffer_of ws = record { slots = rows_of 64 (λ i. slot_at ws (4 * i)); next = get_or ws 256 0 }

-- The words of a buffer.
abbrev pub buffer_words : Buffer → List ℕ
buffer_words b = words_of slot_words b.slots ++ b.next ∷ []

-- A check that is to be `c` says `v` and leaves the words `ws`.
abbrev pub CheckedAs : Checked → Result Verdict Refusal → List ℕ → Type 0
CheckedAs c v ws = (v ≡ c.verdict) × (ws ≡ buffer_words c.buffer)

-- A flush that is to be `f` answers `r` and leaves the words `ws`.
abbrev pub FlushedAs : Flushed → Result (Unit {0}) Refusal → List ℕ → Type 0
FlushedAs f r ws = (r ≡ f.answer) × (ws ≡ buffer_words f.buffer)
