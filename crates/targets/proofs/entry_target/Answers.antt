-- `targets::entry_target` meets its contract.
use mathlib.Core.Path.{sym}
use Rattle.targets.proofs.HeightLaws.{above_below}
use Rattle.targets.proofs.EntryLaws.{found_entry}
use Rattle.targets.proofs.LeafLaws.{seen_target}
use Rattle.targets.proofs.entry_target.Goals as goal

pub returns-in-Some : goal.returns-in-Some
returns-in-Some c = λ R g. sym ((rw c.in-Some.is at c.at_once.ensures) _ R g)

pub returns-then-seen_mixed : goal.returns-then-seen_mixed
returns-then-seen_mixed c = λ R g. seen_target _ R _ _ _ _ (c.seen_mixed.ensures c.if-seen_mixed.true) g

pub returns : goal.returns
returns c = λ R g. found_entry _ _ R _ _ _ _ _ (above_below _ (rw c.in_default.is at c.at_once.ensures)) g c.search.ensures
