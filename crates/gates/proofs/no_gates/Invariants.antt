-- The words are those of a list of gates, of which the first `i` are none.
use mathlib.Core.Path.{◌≡◌}
use mathlib.Core.List.{List}
use lib.ListN.{length, get_or}
use Rattle.rows.proofs.RowLaws.{Filling}
use Rattle.gates.specs.declared.GateAt.{GateAt}
use Rattle.gates.specs.Gates.{no_gate}
use Rattle.gates.proofs.LayoutLaws.{of_places}
use Rattle.gates.proofs.no_gates.Given as goal

abbrev pub invariant-loop-i : goal.invariant-loop-i
invariant-loop-i l = (x : List GateAt) × (length x ≡ 64)
    × (l.gates ≡ of_places x (get_or l.initial.gates 192 0)) × Filling no_gate 64 x l.i
