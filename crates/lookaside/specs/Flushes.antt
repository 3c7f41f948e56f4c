-- Flushes: which slots they empty, and what they answer.
use Rattle.std.specs.Prelude.{ℕ, ◌+◌, ◌*◌, Bool, true, cond, ◌&&◌, map, ltb, ◌≡◌, Result, Ok, Err}
use Rattle.refusals.specs.declared.Refusal.{Refusal}
use Rattle.refusals.specs.declared.Refusal.TheVariants.{BadState}
use Rattle.words.specs.declared.Region.{Region}
use Rattle.words.specs.Region.{region_of}
use Rattle.lookaside.specs.declared.Slot.{Slot}
use Rattle.lookaside.specs.Slots.{Buffer, block_bytes, holds_for, empty_slot}

-- What a flush empties: every slot, those of a domain, or those of a domain whose block meets a region.
pub data Flushing : Type 0 where
  Whole : Flushing
  OfDomain : (d : ℕ) → Flushing
  OfRegion : (d : ℕ) (r : Region) → Flushing

-- A flush: what it answers, and the buffer that its words then say.
pub record Flushed : Type 0 where
  pub answer : Result (Unit {0}) Refusal
  pub buffer : Buffer

-- The slot's block meets the region: each begins before the other ends, in bytes.
unfoldable pub meets : Slot → Region → Bool
meets s r = ltb s.block.0 (4 * r.hi) && ltb (4 * r.lo) (s.block.0 + block_bytes s.level)

-- The flush empties the slot: every slot; each of a domain; each of a domain whose block meets a region.
unfoldable pub flushes : Flushing → Slot → Bool
flushes Whole s = true
flushes (OfDomain d) s = holds_for s d
flushes (OfRegion d r) s = holds_for s d && meets s r

-- A test of slots says of each whether the flush empties it.
abbrev pub Tells : (Slot → Bool → Type 0) → Flushing → Type 0
Tells says f = (s : Slot) (b : Bool) → says s b → b ≡ flushes f s

-- What the flush leaves of a slot.
unfoldable pub flushed_slot : Flushing → Slot → Slot
flushed_slot f s = cond (flushes f s) empty_slot s

-- What it leaves of a buffer, whose pointer stays.
unfoldable pub flushed_buffer : Flushing → Buffer → Buffer
flushed_buffer f b = record { slots = map (flushed_slot f) b.slots; next = b.next }

-- A flush that is done.
abbrev pub done : Flushing → Buffer → Flushed
done f b = record { answer = Ok tt; buffer = flushed_buffer f b }

-- A flush that is refused gives back the buffer that came in.
abbrev pub refused : Refusal → Buffer → Flushed
refused e b = record { answer = Err e; buffer = b }

-- Every flush is first refused for a pointer above 63.
unfoldable pub pointed : Buffer → Flushed → Flushed
pointed b r = cond (ltb b.next 64) r (refused BadState b)

-- The flush of all.
abbrev pub flushed_whole : Buffer → Flushed
flushed_whole b = pointed b (done Whole b)

-- The flush of one domain, which may be any number.
abbrev pub flushed_domain : Buffer → ℕ → Flushed
flushed_domain b d = pointed b (done (OfDomain d) b)

-- The flush of a region as it was rounded, or its refusal.
abbrev pub flushed_rounded : Result Region Refusal → Buffer → ℕ → Flushed
flushed_rounded (Ok r) b d = done (OfRegion d r) b
flushed_rounded (Err e) b d = refused e b

-- The flush of a region in one domain, which may be any number; the region is rounded and refused as a change's.
abbrev pub flushed_region : Buffer → ℕ → ℕ → ℕ → Flushed
flushed_region b d start length = pointed b (flushed_rounded (region_of start length) b d)
