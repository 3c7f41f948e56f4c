-- The words are those of a list of frames, of which the first `i` are zero.
use Prim.Native.Nat.{ℕ}
use mathlib.Core.Path.{◌≡◌}
use mathlib.Core.List.{List}
use lib.ListN.{length, get_or}
use Rattle.rows.proofs.RowLaws.{Filling}
use Rattle.gates.specs.declared.Frame.{Frame}
use Rattle.gates.specs.States.{CallStack}
use Rattle.gates.specs.Steps.{no_frame}
use Rattle.gates.specs.Layout.{stack_words}
use Rattle.gates.proofs.call_stack.Given as goal

-- A stack of these frames, with the depth and the current domain that the words `ws` say.
abbrev pub with_frames : List Frame → List ℕ → CallStack
with_frames l ws = record { frames = l; depth = get_or ws 32 0; current = get_or ws 33 0 }

abbrev pub invariant-loop-i : goal.invariant-loop-i
invariant-loop-i l = (x : List Frame) × (length x ≡ 16)
    × (l.stack ≡ stack_words (with_frames x l.initial.stack)) × Filling no_frame 16 x l.i
