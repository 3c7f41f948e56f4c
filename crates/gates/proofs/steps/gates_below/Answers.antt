-- `gates::steps::gates_below` meets its contract.
use Prim.Native.Nat.{◌*◌}
use mathlib.Core.Path.{◌∙◌}
use native.Mathlib.Omega.{arith}
use borrow.Author.Tests.{tests}
use lib.ListN.{get_or}
use Rattle.std.proofs.Common.{rules}
use Rattle.std.proofs.lemmas.Iterator.{YieldsList-from_range}
use Rattle.std.proofs.lemmas.Iterator.Search.{all_from_yields_List}
use Rattle.gates.specs.Gates.{no_gate, held}
use Rattle.gates.specs.Steps.{gate_below}
use Rattle.gates.specs.Layout.{gate_at, gates_of}
use Rattle.gates.proofs.ListLaws.{all_numbered}
use Rattle.gates.proofs.LayoutLaws.{held_said, held_at}
use Rattle.gates.proofs.steps.gates_below.Goals as goal

pub returns : goal.returns
returns c =
    let ws = c.args.gates.now in
    let n = get_or ws 192 0 in
    all_from_yields_List (λ i. gate_below c.args.domains (gate_at ws (3 * i))) _ _ c.all.result c.all.ensures.ran
    (YieldsList-from_range 0 n n (cc) (omega arith)) (λ x b q k. search (rules, tests))
    ∙ all_numbered (gate_below c.args.domains) (held (gates_of ws)) (λ i. gate_at ws (3 * i)) n no_gate (held_said ws c.requires)
    (held_at ws c.requires)
