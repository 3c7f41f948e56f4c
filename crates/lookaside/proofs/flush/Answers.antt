-- `lookaside::flush` meets its contract. Assumes nothing.
use Prim.Native.Nat.{◌*◌}
use mathlib.Core.Path.{sym, ap, ◌∙◌}
use native.Mathlib.Omega.{arith}
use mathlib.Core.List.{List}
use lib.ListN.{get_or}
use lib.Seq.{sets}
use Rattle.lookaside.specs.declared.Slot.{Slot}
use Rattle.lookaside.specs.Flushes.{flushes, flushed_slot, flushed_buffer}
use Rattle.lookaside.specs.Layout.{slot_words, buffer_of, buffer_words}
use Rattle.lookaside.proofs.BufferLaws.{map_to_none, map_to_all}
use Rattle.lookaside.proofs.LayoutLaws.{slots_said, buffer_words_lem, flush_empties, flush_skips}
use Rattle.lookaside.proofs.flush.Goals as goal
use Rattle.lookaside.proofs.flush.Goals.{then-empties, else-empties}

pub loop-i-init : goal.loop-i-init
loop-i-init g c = λ f _. let ws = c.args.ws.now in
    sym (ap (λ (l : List Slot). buffer_words (record { slots = l; next = get_or ws 256 0 }))
    (map_to_none (flushed_slot f) (buffer_of ws).slots) ∙ buffer_words_lem ws c.told-ws)

pub loop-i-preserved : goal.loop-i-preserved
loop-i-preserved g c = λ f tells.
    let old = (buffer_of c.args.ws.now).slots in
    let n = get_or c.args.ws.now 256 0 in
    let long = slots_said c.args.ws.now in
    let now = c.loop-i.invariant f tells in
    let is = ap (flushes f) (sym c.slot_at-s.ensures) ∙ sym (tells _ _ c.empties.ensures) in
    elim c.if-empties.branch [
      | then-empties w ↦ w.ws-is ∙ w.put_slot.ensures
          ∙ ap (λ (s : Slot). sets c.loop-i.ws (4 * c.loop-i.i) (slot_words s)) w.empty.ensures
          ∙ flush_empties f old n c.loop-i.i (omega arith) c.loop-i.ws now (is ∙ w.if-empties.true)
      | else-empties w ↦ w.ws-is ∙ flush_skips f old n c.loop-i.i (omega arith) c.loop-i.ws now (is ∙ w.if-empties.false)
    ]

pub returns : goal.returns
unfolding flushed_buffer
returns g c = λ f tells.
    let ws = c.args.ws.now in
    let long = slots_said ws in
    c.loop-i.invariant f tells ∙ ap (λ (x : List Slot). buffer_words (record { slots = x; next = get_or ws 256 0 }))
    (map_to_all (flushed_slot f) c.loop-i.i (buffer_of ws).slots (omega arith))
