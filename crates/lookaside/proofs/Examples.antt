-- Checks and flushes, computed.
use mathlib.Core.Path.{◌≡◌, refl}
use mathlib.Core.Bool.{false}
use mathlib.Core.List.{[], ◌∷◌}
use Prim.Native.Nat.{ℕ}
use lib.ListN.{get_or}
use Rattle.refusals.specs.declared.Refusal.TheVariants.{NoDomain, EmptyRegion, PastTheEnd, NoAccess, NotAligned, BadState}
use Rattle.words.specs.Region.{region_of}
use Rattle.table.specs.declared.Shape.{Shape}
use Rattle.table.specs.Access.{load, store, fetch}
use Rattle.table.specs.Fresh.{fresh_pool}
use Rattle.theory.specs.Walk.{walk}
use Rattle.lookaside.specs.declared.Slot.{Slot}
use Rattle.std.specs.Prelude.{Ok, Err}
use Rattle.lookaside.specs.declared.Verdict.TheVariants.{Pass, Deny}
use Rattle.lookaside.specs.Slots.{Buffer, holds, holds_for, in_block, matches, first_match, empty_slot, empty_buffer}
use Rattle.lookaside.specs.Flushes.{Whole, OfDomain, meets, flushes, flushed_slot, flushed_buffer, refused, pointed, flushed_region}
use Rattle.lookaside.specs.Check.{Checked, refusal_of, check_of}

one_root : Shape
one_root = record { domains = 1; middles = 0; leaves = 0 }

-- A root slot for the second 4 MB of domain 0: read on its first 512 KB, none after.
root_slot : Slot
root_slot = record { domain = 0; level = 1; block = record { 0 = 0x400000 }; entry = 0x80000001 }

-- A leaf slot for the 64 bytes from 0x1000 on: read and write throughout.
leaf_slot : Slot
leaf_slot = record { domain = 0; level = 3; block = record { 0 = 0x1000 }; entry = 0xAAAAAAAA }

-- The two, in the first slots.
two_slots : Buffer
two_slots = record { slots = root_slot ∷ leaf_slot ∷ []; next = 2 }

-- What a check of a fresh table answers.
asked : Buffer → ℕ → ℕ → ℕ → ℕ → Checked
asked b = check_of (fresh_pool one_root) one_root b

-- The first slot answers, with no load: a load passes on read, a store does not.
hit_pass : (asked two_slots 0 load 4 0x400004).verdict ≡ Ok (Pass 0)
unfolding asked one_root two_slots root_slot leaf_slot check_of refusal_of first_match matches holds_for holds in_block
hit_pass = refl

hit_deny : (asked two_slots 0 store 4 0x400004).verdict ≡ Ok (Deny 0)
unfolding asked one_root two_slots root_slot leaf_slot check_of refusal_of first_match matches holds_for holds in_block
hit_deny = refl

-- The second one answers for its 64 bytes, and no slot does after them: one load, and none is the right.
hit_second : (asked two_slots 0 store 1 0x103F).verdict ≡ Ok (Pass 0)
unfolding asked one_root two_slots root_slot leaf_slot check_of refusal_of first_match matches holds_for holds in_block
hit_second = refl

miss : (asked two_slots 0 store 1 0x1040).verdict ≡ Ok (Deny 1)
unfolding asked one_root two_slots root_slot leaf_slot check_of refusal_of first_match matches holds_for holds in_block walk
miss = refl

-- A deny fills too: slot 0 of an emptied buffer, and the pointer moves on.
fills : (get_or (asked empty_buffer 0 load 4 0x400004).buffer.slots 0 empty_slot
    ≡ record { domain = 0; level = 1; block = record { 0 = 0x400000 }; entry = 0x80000000 })
    × ((asked empty_buffer 0 load 4 0x400004).buffer.next ≡ 1)
unfolding asked one_root empty_buffer check_of refusal_of first_match matches holds_for holds in_block walk
fills = (refl, refl)

-- Refusals, and their order: no size 3, no fetch of 2 bytes, a size before an address, a pointer before a domain.
refusals : ((asked two_slots 0 load 3 0x400004).verdict ≡ Err NoAccess)
    × ((asked two_slots 0 fetch 2 0x400004).verdict ≡ Err NoAccess)
    × ((asked two_slots 0 3 4 0x400004).verdict ≡ Err NoAccess) × ((asked two_slots 0 store 2 0x400003).verdict ≡ Err NotAligned)
    × ((asked two_slots 0 load 3 0x400001).verdict ≡ Err NoAccess) × ((asked two_slots 1 load 3 0).verdict ≡ Err NoDomain)
    × ((asked (record { slots = []; next = 64 }) 1 load 4 0).verdict ≡ Err BadState)
unfolding asked one_root two_slots root_slot leaf_slot check_of refusal_of
refusals = (refl, refl, refl, refl, refl, refl, refl)

-- A region flush in the middle of 4 MB empties the root slot and no other, and leaves the pointer.
flush_middle : flushed_region two_slots 0 0x600000 4
    ≡ record { answer = Ok tt; buffer = record { slots = empty_slot ∷ leaf_slot ∷ []; next = 2 } }
unfolding two_slots root_slot leaf_slot pointed region_of flushed_buffer flushed_slot flushes meets holds_for holds
flush_middle = refl

-- In another domain it empties none.
flush_elsewhere : flushed_region two_slots 7 0x600000 4 ≡ record { answer = Ok tt; buffer = two_slots }
unfolding two_slots root_slot leaf_slot pointed region_of flushed_buffer flushed_slot flushes meets holds_for holds
flush_elsewhere = refl

-- Its refusals, in order.
flush_refusals : (flushed_region two_slots 0 0xFFFFFFFC 0 ≡ refused EmptyRegion two_slots)
    × (flushed_region two_slots 0 0xFFFFFFFC 5 ≡ refused PastTheEnd two_slots)
    × (flushed_region (record { slots = []; next = 64 }) 0 0xFFFFFFFC 0 ≡ refused BadState (record { slots = []; next = 64 }))
unfolding two_slots root_slot leaf_slot pointed region_of
flush_refusals = (refl, refl, refl)

-- A slot with an entry that is no rights answers nothing, yet a flush of its domain empties it.
pointer_slot : Slot
pointer_slot = record { domain = 0; level = 1; block = record { 0 = 0 }; entry = 1024 }

pointer_slot_idle : (matches pointer_slot 0 0 ≡ false) × (flushed_slot (OfDomain 0) pointer_slot ≡ empty_slot)
unfolding pointer_slot matches holds_for holds in_block flushed_slot flushes
pointer_slot_idle = (refl, refl)

-- A slot whose block is not aligned counts as empty: only the flush of all alters it.
crooked_slot : Slot
crooked_slot = record { domain = 0; level = 1; block = record { 0 = 64 }; entry = 0x80000000 }

crooked_slot_stays : (matches crooked_slot 0 64 ≡ false) × (flushed_slot (OfDomain 0) crooked_slot ≡ crooked_slot)
    × (flushed_slot Whole crooked_slot ≡ empty_slot)
unfolding crooked_slot matches holds_for holds in_block flushed_slot flushes
crooked_slot_stays = (refl, refl, refl)
