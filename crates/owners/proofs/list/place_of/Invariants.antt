-- `owners::list::place_of` meets its contract. The invariant: none of the regions below `i` passes.
use Rattle.std.proofs.Common.{ℕ, ◌<◌, ◌≡◌, false}
use Rattle.owners.specs.Regions.{region_at}
use Rattle.owners.proofs.list.place_of.Given as goal

abbrev pub invariant-loop-i : goal.invariant-loop-i
invariant-loop-i g l = (j : ℕ) → j < l.i → g.test (region_at l.ws j) ≡ false
