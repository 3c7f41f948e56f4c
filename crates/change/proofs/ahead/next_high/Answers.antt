-- `ahead::next_high` meets its contract.
use mathlib.Core.Path.{ap}
use Rattle.plan.specs.Plan.{edge_of, plan_in}
use Rattle.plan.proofs.AfterLaws.{each_end}
use Rattle.change.specs.Ahead.{TableIdle}
use Rattle.change.proofs.AheadLaws.{ahead_as, ahead_both}
use Rattle.change.proofs.ahead.next_high.Goals as goal

pub returns : goal.returns
returns c = let q = plan_in c.args.plan.now in
    let root = ap (λ w. w.0) c.from-root.ensures in
    let w = c.ends_in-blocks.ensures in
    ahead_as (ahead_both (ahead_both (rw (root, c.domain_in.ensures) at c.near_entries-one.ensures)
    (rw w at c.near_table-two.ensures)) (rw w at c.near_table.ensures))
    (λ j z. (z.0.0, each_end (λ b. TableIdle q 1 (edge_of q 1 b) j) z.0.1 z.1))
