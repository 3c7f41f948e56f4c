-- `gates::places::close_up` meets its contract.
use Prim.Native.Nat.{ℕ, ◌+◌, ◌*◌, ◌-◌}
use mathlib.Core.Path.{◌≡◌, refl, sym, ap, ◌∙◌}
use mathlib.Core.List.{List}
use native.Mathlib.Omega.{arith}
use lib.ListN.{get_or, set, length-set}
use lib.Seq.{sets}
use Rattle.gates.specs.declared.GateAt.{GateAt}
use Rattle.gates.specs.Gates.{no_gate}
use Rattle.gates.specs.Layout.{gate_at, gate_words, gates_of}
use Rattle.gates.proofs.ListLaws.{closed, closed_moved, closed_last}
use Rattle.gates.proofs.LayoutLaws.{of_places, gates_said, gates_words_lem, gate_moved, count_stored}
use Rattle.gates.proofs.places.close_up.Goals as goal

pub loop-i-init : goal.loop-i-init
loop-i-init c = let ws = c.args.gates.now in
    ((gates_of ws).places, gates_said ws, sym (gates_words_lem ws c.told-gates), refl)

pub loop-i-preserved : goal.loop-i-preserved
loop-i-preserved c = let n = get_or c.args.gates.now 192 0 in
    let i = c.loop-i.i in
    let (x, long, e, left) = c.loop-i.invariant in
    let y = set x i (get_or x (i + 1) no_gate) in
    let k = length-set x i (get_or x (i + 1) no_gate) ∙ long in
    let q = c.put_gate.ensures ∙ ap (λ (g : GateAt). sets c.loop-i.gates (3 * i) (gate_words g)) c.gate_at-next.ensures
    ∙ ap (λ (w : List ℕ). sets w (3 * i) (gate_words (gate_at w (3 * (i + 1))))) e
    ∙ gate_moved x n i (i + 1) (omega arith) (omega arith) in
    (y, k, q, closed_moved no_gate n i x (omega arith) (omega arith) ∙ left)

pub returns : goal.returns
returns c = let n = get_or c.args.gates.now 192 0 in
    let (x, long, e, left) = c.loop-i.invariant in
    let last : n - 1 ≡ c.loop-i.i = omega arith in
    ap (λ (w : List ℕ). set w 192 (n - 1)) e ∙ count_stored x n (n - 1) long
    ∙ ap (λ (y : List GateAt). of_places y (n - 1))
    (sym (closed_last n x (omega arith) (omega arith)) ∙ ap (λ (j : ℕ). closed n j x) last ∙ left)
