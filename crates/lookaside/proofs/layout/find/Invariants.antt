-- `lookaside::layout::find` meets its contract: it asks of a slot's block first. The invariant: the answer is that of the
-- search in the slots that are left. Assumes nothing.
use mathlib.Core.Path.{◌≡◌}
use mathlib.Core.Bool.{◌&&◌, ◌||◌}
use lib.Dec.{eqb}
use lib.ListN.{drop}
use Rattle.std.specs.List.{find}
use Rattle.lookaside.specs.Slots.{matches, first_match}
use Rattle.lookaside.specs.Layout.{buffer_of}
use Rattle.lookaside.proofs.layout.find.Given as goal

abbrev pub invariant-loop-i : goal.invariant-loop-i
invariant-loop-i l =
    first_match (buffer_of l.ws).slots l.domain l.address.0
    ≡ find (λ s. (eqb l.root.0 s.block.0 || eqb l.middle.0 s.block.0 || eqb l.leaf.0 s.block.0) && matches s l.domain l.address.0)
    (drop l.i (buffer_of l.ws).slots)
