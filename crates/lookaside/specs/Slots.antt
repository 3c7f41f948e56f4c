-- The lookaside buffer: what a slot holds, when it matches, which slot answers and with which right, and what a fill
-- leaves.
use Rattle.std.specs.Prelude.{ℕ, ◌+◌, ◌-◌, ◌*◌, ◌/◌, ◌%◌, Bool, ◌&&◌, ◌||◌, List, set, replicate, eqb, leb, ltb}
use Rattle.std.specs.Prelude.{Option}
use Rattle.std.specs.List.{find}
use Rattle.words.specs.Rights.{right_at, good_rights}
use Rattle.table.specs.Map.{block, part, parts}
use Rattle.lookaside.specs.declared.Slot.{Slot}

-- What the words of a buffer say: the slots, and the one that the next fill takes.
pub record Buffer : Type 0 where
  pub slots : List Slot
  pub next : ℕ

-- The levels: 1 root, 2 middle, 3 leaf.
abbrev pub is_level : ℕ → Bool
is_level level = leb 1 level && leb level 3

-- A level's height, counted from below.
abbrev pub height_of : ℕ → ℕ
height_of level = 3 - level

-- How many bytes the block of a level has: 4 MB, 4 KB, 64.
abbrev pub block_bytes : ℕ → ℕ
block_bytes level = block (height_of level)

-- The slot is not empty: its level is one of the three and its block is aligned.
unfoldable pub holds : Slot → Bool
holds s = is_level s.level && eqb (s.block.0 % block_bytes s.level) 0

-- The slot is not empty, and its domain is `d`.
unfoldable pub holds_for : Slot → ℕ → Bool
holds_for s d = eqb s.domain d && holds s

-- The address `a` lies in the slot's block.
unfoldable pub in_block : Slot → ℕ → Bool
in_block s a = leb s.block.0 a && ltb a (s.block.0 + block_bytes s.level)

-- The entry is good rights for the level; in a leaf every value is.
abbrev pub good_entry : ℕ → ℕ → Bool
good_entry level w = eqb level 3 || good_rights w

-- The slot matches: its domain is the one asked, the address lies in its block, and its entry is good rights for its
-- level.
unfoldable pub matches : Slot → ℕ → ℕ → Bool
matches s d a = holds_for s d && in_block s a && good_entry s.level s.entry

-- The lowest slot that matches.
unfoldable pub first_match : List Slot → ℕ → ℕ → Option Slot
first_match ss d a = find (λ s. matches s d a) ss

-- The right that the slot's entry gives to the address: one of sixteen in a leaf entry, one of eight in any other.
abbrev pub slot_right : Slot → ℕ → ℕ
slot_right s a = right_at s.entry (a / part (height_of s.level) % parts (height_of s.level))

-- An emptied slot is zero in every field.
abbrev pub empty_slot : Slot
empty_slot = record { domain = 0; level = 0; block = record { 0 = 0 }; entry = 0 }

-- The buffer after a reset.
unfoldable pub empty_buffer : Buffer
empty_buffer = record { slots = replicate 64 empty_slot; next = 0 }

-- What a lookup of the address `a` for domain `d` that the entry `w` decided after `n` loads is kept as: level `n`,
-- and the address rounded down to its block.
abbrev pub slot_for : ℕ → ℕ → ℕ → ℕ → Slot
slot_for d a w n = record { domain = d; level = n; block = record { 0 = a / block_bytes n * block_bytes n }; entry = w }

-- The slot at the pointer is filled, and the pointer moves on modulo 64.
abbrev pub filled : Buffer → Slot → Buffer
filled b s = record { slots = set b.slots b.next s; next = (b.next + 1) % 64 }
