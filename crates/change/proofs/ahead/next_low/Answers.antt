-- `ahead::next_low` meets its contract.
use Rattle.plan.specs.Plan.{edge_of, plan_in}
use Rattle.plan.proofs.AfterLaws.{each_end}
use Rattle.change.specs.Ahead.{TableIdle}
use Rattle.change.proofs.AheadLaws.{ahead_as, ahead_both}
use Rattle.change.proofs.ahead.next_low.Goals as goal

pub returns : goal.returns
returns c = let q = plan_in c.args.plan.now in
    let w = c.ends_in-pages.ensures in
    ahead_as (ahead_both (rw w at c.near_table-one.ensures) (rw w at c.near_table.ensures))
    (λ j z. each_end (λ b. TableIdle q 0 (edge_of q 0 b) j) z.0 z.1)
