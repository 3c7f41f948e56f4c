-- `ahead::near_entries` meets its contract.
use mathlib.Core.Path.{ap}
use Rattle.plan.specs.Plan.{plan_in}
use Rattle.change.proofs.AheadLaws.{ahead_as, entries_outside}
use Rattle.change.proofs.ahead.near_entries.Goals as goal

pub returns : goal.returns
returns c = let a = c.args in
    let start = ap (λ c. c.0) c.after.ensures in
    let past = ap (λ c. c.0) c.after-2.ensures in
    let paint = c.paint_in-paint.ensures in
    ahead_as (rw (past, start) at c.nearer.ensures)
    (λ j. entries_outside (plan_in a.plan.now) c.requires.plan_fits.0 a.height a.begin a.table.0 _ _ j
    c.requires.height_bound.0
    (rw (c.size_of-size.ensures, c.block_words-long.ensures, paint) at c.entries_before-first.ensures)
    (rw (c.size_of-size.ensures, c.block_words-long.ensures, paint) at c.entries_before-past.ensures))
