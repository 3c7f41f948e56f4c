-- A buffer in words: words of the right length say one buffer whose words they are, the words of a buffer say it
-- again, and a slot or the pointer stored in the words is stored in the buffer. Assumes nothing.
use Prim.Native.Nat.{ℕ, suc, ◌+◌, ◌*◌, ◌%◌, ◌≤◌, ◌<◌}
use mathlib.Core.Path.{◌≡◌, refl, sym, ap, ◌∙◌}
use mathlib.Core.Bool.{Bool, true, false, cond}
use lib.Dec.{ltb}
use mathlib.Core.List.{List, [], ◌∷◌, ◌++◌}
use native.Mathlib.Numerals.{add-one}
use native.Mathlib.Omega.{arith}
use lib.ListN.{length, get_or, take, drop, set, replicate, length-set, drop_of_length-le}
use lib.Seq.{sets, set-get_or, drop-cons, get_or_at, get_or-append_seam, get_or-append-add}
use Rattle.refusals.specs.declared.Refusal.TheVariants.{BadState}
use Rattle.rows.specs.Rows.{words_of}
use Rattle.rows.proofs.Layouts.{Layout}
use Rattle.rows.proofs.RowLaws.{add_two, add_three, length_said, length_words, row_again, words_set, words_set_after}
use Rattle.rows.proofs.RowLaws.{words_said, rows_words}
use Rattle.lookaside.specs.declared.Slot.{Slot}
use Rattle.std.specs.Prelude.{Ok}
use Rattle.lookaside.specs.Slots.{Buffer, empty_slot, empty_buffer, filled}
use Rattle.lookaside.specs.Flushes.{Flushing, Flushed, flushes, flushed_slot, flushed_buffer, done, refused, pointed}
use Rattle.lookaside.specs.Check.{demand}
use Rattle.lookaside.specs.Layout.{IsBuffer, slot_at, slot_words, buffer_of, buffer_words, FlushedAs}
use Rattle.lookaside.proofs.BufferLaws.{map_to, length_map_to, map_to_turn}

-- Words of a slot.
pub slot_words_lem : (ws : List ℕ) (j : ℕ) → j + 4 ≤ length ws → slot_words (slot_at ws j) ≡ take 4 (drop j ws)
slot_words_lem ws j h =
    rw (
      add-one j,
      add_two j,
      add_three j,
      drop-cons ws j 0 (omega arith),
      drop-cons ws (suc j) 0 (omega arith),
      drop-cons ws (suc (suc j)) 0 (omega arith),
      drop-cons ws (suc (suc (suc j))) 0 (omega arith),
    )

pub slot_again : (s : Slot) (b a : List ℕ) → slot_at (b ++ (slot_words s ++ a)) (length b) ≡ s
slot_again s b a =
    λ i. record {
      domain = get_or-append_seam b s.domain (s.level ∷ s.block.0 ∷ s.entry ∷ a) 0 i;
      level = get_or-append-add b (slot_words s ++ a) 1 0 i;
      block = record { 0 = get_or-append-add b (slot_words s ++ a) 2 0 i };
      entry = get_or-append-add b (slot_words s ++ a) 3 0 i;
    }

abbrev pub slot_layout : Layout Slot
slot_layout = record {
  width = 4;
  at = slot_at;
  row = slot_words;
  sayable = λ s. true;
  long = λ s. refl;
  read = slot_words_lem;
  again = λ s h. slot_again s;
}

pub slots_said : (ws : List ℕ) → length (buffer_of ws).slots ≡ 64
slots_said ws = length_said slot_layout 64 ws

pub buffer_words_lem : (ws : List ℕ) → IsBuffer ws → buffer_words (buffer_of ws) ≡ ws
buffer_words_lem ws h =
    ap (λ (t : List ℕ). words_of slot_words (buffer_of ws).slots ++ t)
    (sym (drop-cons ws 256 0 (omega arith)
    ∙ ap (λ (t : List ℕ). get_or ws 256 0 ∷ t) (drop_of_length-le ws {i = 257} (omega arith))))
    ∙ words_said slot_layout ws 64 (omega arith)

pub buffer_again : (b : Buffer) → length b.slots ≡ 64 → buffer_of (buffer_words b) ≡ b
buffer_again b h =
    let r = rows_words slot_layout b.slots (b.next ∷ []) empty_slot (λ i l. refl) in
    let e = rw h at r in
    let n = length_words slot_layout b.slots in
    let t = get_or_at (words_of slot_words b.slots) b.next [] 0 256 (omega arith) in
    λ i. record { slots = e i; next = t i }

-- A slot read from the words of a buffer, a slot stored, and the pointer stored.
module _ (l : List Slot) (n : ℕ) where
  abbrev of_slots : List Slot → ℕ → List ℕ
  of_slots x m = buffer_words (record { slots = x; next = m })

  pub slot_read : (i : ℕ) → i < length l → slot_at (of_slots l n) (4 * i) ≡ get_or l i empty_slot
  slot_read i h = row_again slot_layout l (n ∷ []) i empty_slot h refl

  pub slot_stored : (i : ℕ) (s : Slot) → i < length l → sets (of_slots l n) (4 * i) (slot_words s) ≡ of_slots (set l i s) n
  slot_stored i s h = words_set slot_layout l (n ∷ []) i s h

  pub pointer_stored : (m : ℕ) → length l ≡ 64 → set (of_slots l n) 256 m ≡ of_slots l m
  pointer_stored m h = words_set_after slot_layout l (n ∷ []) 256 0 m (omega arith)

-- A slot and the pointer stored are the words of the filled buffer.
pub fill_words : (ws : List ℕ) (s : Slot) → IsBuffer ws → get_or ws 256 0 < 64
    → set (sets ws (4 * get_or ws 256 0) (slot_words s)) 256 ((get_or ws 256 0 + 1) % 64)
    ≡ buffer_words (filled (buffer_of ws) s)
fill_words ws s h l =
    let i = get_or ws 256 0 in
    let xs = (buffer_of ws).slots in
    let n = slots_said ws in
    let k = length-set xs i s in
    ap (λ (r : List ℕ). set (sets r (4 * i) (slot_words s)) 256 ((i + 1) % 64)) (sym (buffer_words_lem ws h))
    ∙ ap (λ (r : List ℕ). set r 256 ((i + 1) % 64)) (slot_stored xs i i s (omega arith))
    ∙ pointer_stored (set xs i s) i ((i + 1) % 64) (omega arith)

-- The words of a buffer whose first `i` slots are flushed.
abbrev pub flushed_to : Flushing → ℕ → List Slot → ℕ → List ℕ
flushed_to f i l n = buffer_words (record { slots = map_to (flushed_slot f) i l; next = n })

-- One turn of the flush: a slot that is emptied, and one that stays.
module _ (f : Flushing) (l : List Slot) (n i : ℕ) (h : i < length l) (ws : List ℕ) (e : ws ≡ flushed_to f i l n) where
  abbrev now : List Slot
  now = map_to (flushed_slot f) i l

  slot_now : slot_at ws (4 * i) ≡ get_or now i empty_slot
  slot_now = let k = length_map_to (flushed_slot f) i l in
      ap (λ (r : List ℕ). slot_at r (4 * i)) e ∙ slot_read now n i (omega arith)

  pub flush_empties : flushes f (slot_at ws (4 * i)) ≡ true → sets ws (4 * i) (slot_words empty_slot)
      ≡ flushed_to f (i + 1) l n
  unfolding flushed_slot
  flush_empties q =
      let k = length_map_to (flushed_slot f) i l in
      let t = rw slot_now at q in
      ap (λ (r : List ℕ). sets r (4 * i) (slot_words empty_slot)) e
      ∙ slot_stored now n i empty_slot (omega arith)
      ∙ ap (λ (x : List Slot). buffer_words (record { slots = x; next = n }))
      (map_to_turn (flushed_slot f) i l now empty_slot empty_slot refl (rw t))

  pub flush_skips : flushes f (slot_at ws (4 * i)) ≡ false → ws ≡ flushed_to f (i + 1) l n
  unfolding flushed_slot
  flush_skips q =
      let t = rw slot_now at q in
      e ∙ ap (λ (x : List Slot). buffer_words (record { slots = x; next = n }))
      (sym (set-get_or now i empty_slot)
      ∙ map_to_turn (flushed_slot f) i l now empty_slot (get_or now i empty_slot) refl (rw t))

-- The words of an emptied buffer are all 0.
pub emptied_words : replicate 257 0 ≡ buffer_words empty_buffer
unfolding empty_buffer words_of
emptied_words = refl

-- What a flush that is done leaves in the words.
pub flush_done_as : (b : Buffer) (ws : List ℕ) (r : Flushed) (f : Flushing) → r ≡ pointed b (done f b)
    → demand (ltb b.next 64) BadState (Ok tt) ≡ Ok tt
    → ws ≡ buffer_words (flushed_buffer f b) → FlushedAs r (Ok tt) ws
unfolding pointed
flush_done_as b ws r f is e q = rw is (go (ltb b.next 64) e)
  where
    go : (t : Bool) → demand t BadState (Ok tt) ≡ Ok tt → FlushedAs (cond t (done f b) (refused BadState b)) (Ok tt) ws
    go true e = (refl, q)
    go false e = cc
