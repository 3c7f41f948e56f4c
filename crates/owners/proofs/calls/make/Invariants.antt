-- `owners::calls::make` meets its contract. The search is for a region that shares a word with the one asked for.
use Rattle.owners.specs.Calls.{meets}
use Rattle.owners.proofs.calls.make.Given as goal

abbrev pub ghost-place_of : goal.ghost-place_of
ghost-place_of a = meets (record { lo = a.passes.0.now; hi = a.passes.1.now })
