-- `hear_all` meets its contract: a chunk more in each turn.
use Rattle.std.proofs.Common.{arith}
use Rattle.std.proofs.lemmas.Result.{err_from_is_err_and}
use Rattle.rights_listing.proofs.HearsLaws.{hearing_begins, hearing_on, hearing_out, hearing_stops, hearing_ends}
use Rattle.rights_listing.proofs.hear_all.Goals as goal

pub loop-init : goal.loop-init
loop-init c = hearing_begins c.blank_line-line.ensures

pub loop-preserved : goal.loop-preserved
loop-preserved c = hearing_on c.loop.invariant (rw c.if-not-came.false at c.in_ok-came.ensures) c.hear.auto.pool

pub returns-in_err-came : goal.returns-in_err-came
returns-in_err-came c = let p = err_from_is_err_and c.from_residual.result c.from_residual.ensures.1 in
    rw (p.1, p.2) (hearing_stops c.loop.invariant c.in_err-came.ensures)

pub returns-then-not-came : goal.returns-then-not-came
returns-then-not-came c =
    hearing_ends c.loop.invariant (rw c.if-not-came.true at c.in_ok-came.ensures) c.hear_last.ensures

pub returns : goal.returns
returns c = hearing_out c.loop.invariant (omega arith)
