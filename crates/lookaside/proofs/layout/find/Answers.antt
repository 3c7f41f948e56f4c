-- `lookaside::layout::find` meets its contract. Assumes nothing.
use Prim.Native.Nat.{ℕ, ◌*◌, ◌<◌}
use mathlib.Core.Path.{◌≡◌, refl, sym, ap, ◌∙◌}
use mathlib.Core.Bool.{Bool, false, ◌&&◌, ◌||◌}
use mathlib.Core.List.{List}
use native.Mathlib.Omega.{arith}
use lib.Dec.{eqb}
use lib.ListN.{get_or}
use Rattle.std.proofs.Common.{Some}
use Rattle.rows.proofs.RowLaws.{said_at}
use Rattle.words.specs.declared.ByteAddr.{ByteAddr}
use Rattle.lookaside.specs.declared.Slot.{Slot}
use Rattle.lookaside.specs.Slots.{empty_slot, matches}
use Rattle.lookaside.specs.Layout.{slot_at, buffer_of}
use Rattle.lookaside.proofs.SlotLaws.{near_first}
use Rattle.lookaside.proofs.BufferLaws.{find_here, find_later, find_none}
use Rattle.lookaside.proofs.LayoutLaws.{slot_layout, slots_said}
use Rattle.lookaside.proofs.layout.find.Goals as goal
use Rattle.lookaside.proofs.layout.find.Goals.{then-one_of+else-matches, else-one_of}

-- The slot of that number in the words.
is_slot : (ws : List ℕ) (i : ℕ) → i < 64 → get_or (buffer_of ws).slots i empty_slot ≡ slot_at ws (4 * i)
is_slot ws i h = said_at slot_layout 64 ws i empty_slot h

-- What is asked of a slot: first whether its block is one of the three.
abbrev one : ℕ → ℕ → ℕ → Slot → Bool
one root middle leaf s = eqb root s.block.0 || eqb middle s.block.0 || eqb leaf s.block.0

abbrev asked : ℕ → ℕ → ℕ → ℕ → ℕ → Slot → Bool
asked root middle leaf d a s = one root middle leaf s && matches s d a

-- It is asked of the one word that was read.
one_word : (root middle leaf : ℕ) (s : Slot) (b : ByteAddr) → b ≡ s.block
    → one root middle leaf s ≡ (eqb root b.0 || eqb middle b.0 || eqb leaf b.0)
one_word root middle leaf s b e = rw e refl

pub loop-i-init : goal.loop-i-init
loop-i-init c = let a = c.args in
    sym (near_first (buffer_of a.ws.now).slots a.domain a.address.0 c.block_of-root.result.0 c.block_of-middle.result.0
    c.block_of-leaf.result.0 (ap (λ b. b.0) c.block_of-root.ensures) (ap (λ b. b.0) c.block_of-middle.ensures)
    (ap (λ b. b.0) c.block_of-leaf.ensures))

pub returns-then-matches : goal.returns-then-matches
returns-then-matches c = let a = c.args in
    let n = slots_said a.ws.now in
    let e = is_slot a.ws.now c.loop-i.i c.loop-i-test.true in
    let here = slot_at a.ws.now (4 * c.loop-i.i) in
    let first = one_word c.block_of-root.result.0 c.block_of-middle.result.0 c.block_of-leaf.result.0 here c.from.result
    c.from.ensures
    ∙ sym c.one_of.ensures ∙ c.if-one_of.true in
    let then_all = ap (λ x. matches x a.domain a.address.0) (sym c.slot_at-s.ensures) ∙ sym c.matches.ensures ∙ c.if-matches.true in
    ap Some c.slot_at-s.ensures
    ∙ sym (c.loop-i.invariant
    ∙ find_here (asked c.block_of-root.result.0 c.block_of-middle.result.0 c.block_of-leaf.result.0 a.domain a.address.0)
    (buffer_of a.ws.now).slots c.loop-i.i (omega arith) (rw (e, first, then_all) refl)
    ∙ ap Some e)

pub loop-i-preserved : goal.loop-i-preserved
loop-i-preserved c = let a = c.args in
    let n = slots_said a.ws.now in
    let e = is_slot a.ws.now c.loop-i.i c.loop-i-test.true in
    let here = slot_at a.ws.now (4 * c.loop-i.i) in
    let first = one_word c.block_of-root.result.0 c.block_of-middle.result.0 c.block_of-leaf.result.0 here c.from.result
    c.from.ensures
    ∙ sym c.one_of.ensures in
    let skip : asked c.block_of-root.result.0 c.block_of-middle.result.0 c.block_of-leaf.result.0 a.domain a.address.0 here ≡ false =
    elim c.if-one_of.branch [
      | then-one_of+else-matches w ↦ rw (
        first ∙ w.if-one_of.true,
        ap (λ x. matches x a.domain a.address.0) (sym w.slot_at-s.ensures)
            ∙ sym w.matches.ensures ∙ w.if-matches.false,
      ) refl
      | else-one_of w ↦ rw (first ∙ w.if-one_of.false) refl
    ] in
    c.loop-i.invariant
    ∙ find_later (asked c.block_of-root.result.0 c.block_of-middle.result.0 c.block_of-leaf.result.0 a.domain a.address.0)
    (buffer_of a.ws.now).slots c.loop-i.i (omega arith) (rw e skip)

pub returns : goal.returns
returns c = let a = c.args in
    let n = slots_said a.ws.now in
    sym (c.loop-i.invariant
    ∙ find_none (asked c.block_of-root.result.0 c.block_of-middle.result.0 c.block_of-leaf.result.0 a.domain a.address.0)
    (buffer_of a.ws.now).slots c.loop-i.i (omega arith))
