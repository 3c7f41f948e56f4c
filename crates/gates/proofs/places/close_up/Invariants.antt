-- The words are those of a list of gates, of which what is left to move gives the same list.
use mathlib.Core.Path.{◌≡◌}
use mathlib.Core.List.{List}
use lib.ListN.{length, get_or}
use Rattle.gates.specs.declared.GateAt.{GateAt}
use Rattle.gates.specs.Layout.{gates_of}
use Rattle.gates.proofs.ListLaws.{closed}
use Rattle.gates.proofs.LayoutLaws.{of_places}
use Rattle.gates.proofs.places.close_up.Given as goal

abbrev pub invariant-loop-i : goal.invariant-loop-i
invariant-loop-i l = (x : List GateAt) × (length x ≡ 64)
    × (l.gates ≡ of_places x (get_or l.initial.gates 192 0))
    × (closed (get_or l.initial.gates 192 0) l.i x
    ≡ closed (get_or l.initial.gates 192 0) l.place (gates_of l.initial.gates).places)
