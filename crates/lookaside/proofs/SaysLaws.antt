-- A series of calls on the words of a buffer is a series on the buffer: the words that a call leaves say the buffer
-- that the definition leaves. Assumes nothing.
use Prim.Native.Nat.{ℕ}
use mathlib.Core.Path.{◌≡◌, refl, ◌∙◌}
use mathlib.Core.Bool.{Bool, true, false, cond}
use mathlib.Core.List.{List}
use lib.Dec.{ltb}
use lib.ListN.{length, length-set, length-map}
use Rattle.refusals.specs.declared.Refusal.{Refusal}
use Rattle.words.specs.declared.Region.{Region}
use Rattle.words.specs.Region.{region_of}
use Rattle.table.specs.declared.Shape.{Shape}
use Rattle.refusals.specs.declared.Refusal.TheVariants.{BadState}
use Rattle.std.specs.Prelude.{Option, Some, None, Result, Ok, Err}
use Rattle.table.specs.declared.Deciding.{Deciding}
use Rattle.table.specs.Lookup.{lookup_of}
use Rattle.lookaside.specs.declared.Slot.{Slot}
use Rattle.lookaside.specs.Slots.{Buffer, first_match}
use Rattle.lookaside.specs.Check.{walked, answered, check_of}
use Rattle.lookaside.specs.Flushes.{Flushing, Flushed, flushed_slot, flushed_buffer, done, refused, pointed, flushed_rounded}
use Rattle.lookaside.specs.Flushes.{flushed_whole, flushed_domain, flushed_region}
use Rattle.lookaside.specs.Layout.{buffer_of, buffer_words}
use Rattle.lookaside.proofs.CheckLaws.{check_cases}
use Rattle.lookaside.proofs.LayoutLaws.{slots_said, buffer_again}

-- A check keeps the number of slots.
check_slots : (p : List ℕ) (s : Shape) (b : Buffer) (d kind size a : ℕ)
    → length (check_of p s b d kind size a).buffer.slots ≡ length b.slots
check_slots p s b d kind size a = check_cases p s b d kind size a (λ c. length c.buffer.slots ≡ length b.slots)
    (λ _ _. refl) (λ _. answers (first_match b.slots d a))
  where
    walks : (f : Result Deciding Refusal) → length (walked f b d kind a).buffer.slots ≡ length b.slots
    walks (Ok x) = length-set b.slots b.next _
    walks (Err e) = refl

    answers : (t : Option Slot) → length (answered t p s b d kind a).buffer.slots ≡ length b.slots
    answers (Some t) = refl
    answers None = walks (lookup_of p s d a)

pub check_says : (p : List ℕ) (s : Shape) (ws : List ℕ) (d kind size a : ℕ)
    → let b = (check_of p s (buffer_of ws) d kind size a).buffer in buffer_of (buffer_words b) ≡ b
check_says p s ws d kind size a = buffer_again (check_of p s (buffer_of ws) d kind size a).buffer
    (check_slots p s (buffer_of ws) d kind size a ∙ slots_said ws)

-- A flush is refused and keeps the buffer, or empties some slots of it.
pub data Flushes (b : Buffer) : Flushed → Type 0 where
  refuses : (r : Refusal) → Flushes b (refused r b)
  empties : (f : Flushing) → Flushes b (done f b)

pointed_flushes : (b : Buffer) {r : Flushed} → Flushes b r → Flushes b (pointed b r)
unfolding pointed
pointed_flushes b {r} x = go (ltb b.next 64)
  where
    go : (t : Bool) → Flushes b (cond t r (refused BadState b))
    go true = x
    go false = refuses BadState

rounded_flushes : (b : Buffer) (d : ℕ) (r : Result Region Refusal) → Flushes b (flushed_rounded r b d)
rounded_flushes b d (Ok g) = empties _
rounded_flushes b d (Err r) = refuses r

pub all_flushes : (b : Buffer) → Flushes b (flushed_whole b)
all_flushes b = pointed_flushes b (empties _)

pub domain_flushes : (b : Buffer) (d : ℕ) → Flushes b (flushed_domain b d)
domain_flushes b d = pointed_flushes b (empties _)

pub region_flushes : (b : Buffer) (d start len : ℕ) → Flushes b (flushed_region b d start len)
region_flushes b d start len = pointed_flushes b (rounded_flushes b d (region_of start len))

flushed_slots : {b : Buffer} {r : Flushed} → Flushes b r → length r.buffer.slots ≡ length b.slots
unfolding flushed_buffer
flushed_slots (refuses n) = refl
flushed_slots {b} (empties f) = length-map b.slots (flushed_slot f)

pub flush_says : (ws : List ℕ) {r : Flushed} → Flushes (buffer_of ws) r → buffer_of (buffer_words r.buffer) ≡ r.buffer
flush_says ws {r} x = buffer_again r.buffer (flushed_slots x ∙ slots_said ws)
