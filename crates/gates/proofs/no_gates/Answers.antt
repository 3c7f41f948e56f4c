-- `gates::no_gates` meets its contract.
use Prim.Native.Nat.{ℕ, ◌*◌}
use mathlib.Core.Path.{sym, ap, ◌∙◌}
use mathlib.Core.List.{List}
use native.Mathlib.Omega.{arith}
use lib.ListN.{get_or, set, length-set}
use lib.Seq.{sets}
use Rattle.words.specs.declared.ByteAddr.{ByteAddr}
use Rattle.rows.proofs.RowLaws.{filling_none, filling_turn, filling_all}
use Rattle.gates.specs.declared.Gate.TheVariants.{Return}
use Rattle.gates.specs.declared.GateAt.{GateAt}
use Rattle.gates.specs.Gates.{no_gate}
use Rattle.gates.specs.Layout.{gate_words, gates_of}
use Rattle.gates.proofs.LayoutLaws.{of_places, gates_said, gates_words_lem, gate_stored, count_stored}
use Rattle.gates.proofs.no_gates.Goals as goal

pub loop-i-init : goal.loop-i-init
loop-i-init c = let ws = c.args.gates.now in
    ((gates_of ws).places, gates_said ws, sym (gates_words_lem ws c.told-gates), filling_none no_gate 64 (gates_of ws).places)

pub loop-i-preserved : goal.loop-i-preserved
loop-i-preserved c = let n = get_or c.args.gates.now 192 0 in
    let i = c.loop-i.i in
    let (x, long, e, left) = c.loop-i.invariant in
    let k = length-set x i no_gate ∙ long in
    let q = c.put_gate.ensures
    ∙ ap (λ (a : ByteAddr). sets c.loop-i.gates (3 * i) (gate_words
    (record { domain = 0; address = a; gate = Return }))) c.from.ensures
    ∙ ap (λ (w : List ℕ). sets w (3 * i) (gate_words no_gate)) e ∙ gate_stored x n i no_gate (omega arith) in
    (set x i no_gate, k, q, filling_turn no_gate 64 x i long (omega arith) left)

pub returns : goal.returns
returns c = let n = get_or c.args.gates.now 192 0 in
    let (x, long, e, left) = c.loop-i.invariant in
    ap (λ (w : List ℕ). set w 192 0) e ∙ count_stored x n 0 long
    ∙ ap (λ (y : List GateAt). of_places y 0) (filling_all no_gate 64 x c.loop-i.i long (omega arith) left)
