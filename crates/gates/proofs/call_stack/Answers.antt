-- `gates::call_stack` meets its contract.
use Prim.Native.Nat.{ℕ, ◌*◌}
use mathlib.Core.Path.{sym, ap, ◌∙◌}
use mathlib.Core.List.{List}
use native.Mathlib.Omega.{arith}
use lib.ListN.{set, length-set}
use lib.Seq.{sets}
use Rattle.words.specs.declared.ByteAddr.{ByteAddr}
use Rattle.rows.proofs.RowLaws.{filling_none, filling_turn, filling_all}
use Rattle.gates.specs.declared.Frame.{Frame}
use Rattle.gates.specs.Steps.{no_frame}
use Rattle.gates.specs.Layout.{frame_words, stack_of, stack_words}
use Rattle.gates.proofs.LayoutLaws.{frames_said, stack_words_lem, frame_stored, ends_stored}
use Rattle.gates.proofs.call_stack.Invariants.{with_frames}
use Rattle.gates.proofs.call_stack.Goals as goal

pub loop-i-init : goal.loop-i-init
loop-i-init c = let ws = c.args.stack.now in
    ((stack_of ws).frames, frames_said ws, sym (stack_words_lem ws c.told-stack), filling_none no_frame 16 (stack_of ws).frames)

pub loop-i-preserved : goal.loop-i-preserved
loop-i-preserved c = let old = c.args.stack.now in
    let i = c.loop-i.i in
    let (x, long, e, left) = c.loop-i.invariant in
    let k = length-set x i no_frame ∙ long in
    let q = c.put_frame.ensures
    ∙ ap (λ (a : ByteAddr). sets c.loop-i.stack (2 * i) (frame_words (record { domain = 0; back = a }))) c.from.ensures
    ∙ ap (λ (w : List ℕ). sets w (2 * i) (frame_words no_frame)) e
    ∙ frame_stored (with_frames x old) i no_frame (omega arith) in
    (set x i no_frame, k, q, filling_turn no_frame 16 x i long (omega arith) left)

pub returns : goal.returns
returns c = let a = c.args in
    let (x, long, e, left) = c.loop-i.invariant in
    ap (λ (w : List ℕ). set (set w 32 0) 33 a.domain) e ∙ ends_stored (with_frames x a.stack.now) 0 a.domain
    long
    ∙ ap (λ (y : List Frame). stack_words (record { frames = y; depth = 0; current = a.domain }))
    (filling_all no_frame 16 x c.loop-i.i long (omega arith) left)
