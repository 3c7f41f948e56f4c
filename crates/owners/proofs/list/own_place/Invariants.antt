-- `owners::list::own_place` meets its contract. The search is for a region of the same words.
use Rattle.owners.specs.Calls.{same_words}
use Rattle.owners.proofs.list.own_place.Given as goal

abbrev pub ghost-place_of : goal.ghost-place_of
ghost-place_of a = same_words (record { lo = a.passes.0.now; hi = a.passes.1.now })
