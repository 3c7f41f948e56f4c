-- `serving::serve` meets its contract.
use Prim.Native.Nat.{◌-◌}
use lib.ListN.{length}
use Rattle.rights_listing.proofs.ChunkLaws.{Going}
use Rattle.rights_listing.proofs.serving.serve.Given as goal

abbrev pub invariant-loop-said : goal.invariant-loop-said
invariant-loop-said l = Going l.chunk l.initial.begun l.initial.pool l.initial.out l.pool l.out l.begun l.at l.len

abbrev pub decreases-loop-said : goal.decreases-loop-said
decreases-loop-said l = length l.chunk - l.at
