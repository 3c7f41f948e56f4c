-- `listing::close` meets its contract.
use borrow.Author.Tests.{eq-eqb, ne_eqb}
use Rattle.listing.specs.Sheets.{closed}
use Rattle.listing.proofs.close.Goals as goal

pub returns-then-run-eq0 : goal.returns-then-run-eq0
unfolding closed
returns-then-run-eq0 c = simp (eq-eqb _ _ c.if-run-eq0.true)

pub returns : goal.returns
unfolding closed
returns c = simp (ne_eqb _ _ c.if-run-eq0.false, c.put_run.ensures)
