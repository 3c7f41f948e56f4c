-- `show_all` meets its contract: what is left of the listing falls, page by page.
use Rattle.std.proofs.Common.{arith}
use Rattle.std.proofs.lemmas.Result.{err_from_is_err_and}
use Rattle.rights_listing.proofs.ShowLaws.{showing_begins, showing_stops, showing_ends, showing_less, showing_on}
use Rattle.rights_listing.proofs.show_all.Goals as goal

pub loop-left-init : goal.loop-left-init
loop-left-init c = showing_begins _

pub returns-in_err-left : goal.returns-in_err-left
returns-in_err-left c = let p = err_from_is_err_and c.from_residual.result c.from_residual.ensures.1 in
    rw (p.1, p.2) (showing_stops c.in_err-left.ensures)

pub returns-then-left-eq0 : goal.returns-then-left-eq0
returns-then-left-eq0 c = showing_ends c.loop-left.invariant c.in_ok-left.ensures c.if-left-eq0.true

pub loop-left-smaller : goal.loop-left-smaller
loop-left-smaller c = let l = showing_less c.loop-left.invariant c.in_ok-left.ensures c.if-left-eq0.false in
    omega arith

pub loop-left-preserved : goal.loop-left-preserved
loop-left-preserved c = showing_on c.loop-left.invariant c.in_ok-left.ensures c.if-left-eq0.false
