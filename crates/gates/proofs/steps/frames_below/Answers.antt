-- `gates::steps::frames_below` meets its contract.
use Prim.Native.Nat.{◌*◌}
use mathlib.Core.Path.{◌∙◌}
use native.Mathlib.Omega.{arith}
use borrow.Author.Tests.{tests}
use lib.ListN.{get_or}
use Rattle.std.proofs.Common.{rules}
use Rattle.std.proofs.lemmas.Iterator.{YieldsList-from_range}
use Rattle.std.proofs.lemmas.Iterator.Search.{all_from_yields_List}
use Rattle.gates.specs.Steps.{no_frame, in_use, frame_below}
use Rattle.gates.specs.Layout.{frame_at, stack_of}
use Rattle.gates.proofs.ListLaws.{all_numbered}
use Rattle.gates.proofs.LayoutLaws.{in_use_said, in_use_at}
use Rattle.gates.proofs.steps.frames_below.Goals as goal

pub returns : goal.returns
returns c =
    let ws = c.args.stack.now in
    let n = get_or ws 32 0 in
    all_from_yields_List (λ i. frame_below c.args.domains (frame_at ws (2 * i))) _ _ c.all.result c.all.ensures.ran
    (YieldsList-from_range 0 n n (cc) (omega arith)) (λ x b q k. search (rules, tests))
    ∙ all_numbered (frame_below c.args.domains) (in_use (stack_of ws)) (λ i. frame_at ws (2 * i)) n no_frame (in_use_said ws c.requires)
    (in_use_at ws c.requires)
