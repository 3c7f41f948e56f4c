-- `listing::feed_right` meets its contract.
use borrow.Author.Tests.{eq-eqb, ne_eqb}
use Rattle.listing.specs.Sheets.{feed}
use Rattle.listing.proofs.feed_right.Goals as goal

pub returns-then-right-run : goal.returns-then-right-run
unfolding feed
returns-then-right-run c = simp (eq-eqb _ _ c.if-right-run.true)

pub returns-else-right-run : goal.returns-else-right-run
unfolding feed
returns-else-right-run c = simp (ne_eqb _ _ c.if-right-run.false) c.turn_to.ensures
