-- `ahead::next_new` meets its contract.
use mathlib.Core.Bool.{Bool}
use Rattle.places.proofs.HeightLaws.{each_height}
use Rattle.plan.specs.Plan.{edge_of, plan_in}
use Rattle.plan.proofs.AfterLaws.{each_end}
use Rattle.change.specs.Ahead.{NotNew}
use Rattle.change.proofs.AheadLaws.{ahead_as, ahead_both, new_idle}
use Rattle.change.proofs.ahead.next_new.Goals as goal

pub returns : goal.returns
returns c = let q = plan_in c.args.plan.now in
    let u = c.ends_in-blocks.ensures in
    let w = c.ends_in-pages.ensures in
    ahead_as (ahead_both (ahead_both (ahead_both (rw u at c.near_new-one.ensures)
    (rw u at c.near_new-two.ensures)) (rw w at c.near_new-three.ensures))
    (rw w at c.near_new.ensures))
    (λ j z. new_idle q j (each_height (λ h. (b : Bool) → NotNew h (edge_of q h b) j)
    (each_end (λ b. NotNew 0 (edge_of q 0 b) j) z.0.1 z.1)
    (each_end (λ b. NotNew 1 (edge_of q 1 b) j) z.0.0.0 z.0.0.1)))
