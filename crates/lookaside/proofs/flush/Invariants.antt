-- `lookaside::flush` meets its contract. The invariant: the words are those of the buffer whose first `i` slots are
-- flushed. Assumes nothing.
use mathlib.Core.Path.{◌≡◌}
use lib.ListN.{get_or}
use Rattle.lookaside.specs.Flushes.{Flushing, Tells}
use Rattle.lookaside.specs.Layout.{buffer_of}
use Rattle.lookaside.proofs.LayoutLaws.{flushed_to}
use Rattle.lookaside.proofs.flush.Given as goal

abbrev pub invariant-loop-i : goal.invariant-loop-i
invariant-loop-i g l = (f : Flushing) → Tells (goal.F-post g l.empties) f
    → l.ws ≡ flushed_to f l.i (buffer_of l.initial.ws).slots (get_or l.initial.ws 256 0)
