-- `serving::serve` meets its contract.
use native.Mathlib.Omega.{arith}
use Rattle.rights_listing.proofs.ChunkLaws.{going_begins, going_ends, going_moves, going_on}
use Rattle.rights_listing.proofs.serving.serve.Goals as goal

pub loop-said-init : goal.loop-said-init
loop-said-init c = going_begins _ _ _ _

pub shape_of-pool-in_default : goal.shape_of-pool-in_default
shape_of-pool-in_default c = c.loop-said.invariant.pool_long

pub shape_of-out-in_default : goal.shape_of-out-in_default
shape_of-out-in_default c = c.loop-said.invariant.out_long

pub returns-in_default : goal.returns-in_default
returns-in_default c = going_ends c.loop-said.invariant c.feed-fed.ensures c.requires c.in_default.is

pub write_number-len-requires : goal.write_number-len-requires
write_number-len-requires c = let g = c.loop-said.invariant in
    let m = going_moves g c.feed-fed.ensures c.in-Some.is in
    omega (arith, g.inside, g.out_long)

pub loop-said-smaller : goal.loop-said-smaller
loop-said-smaller c = let m = going_moves c.loop-said.invariant c.feed-fed.ensures c.in-Some.is in
    omega arith

pub loop-said-preserved : goal.loop-said-preserved
loop-said-preserved c = let r = c.reply in
    let w = c.write_number-len in
    going_on c.loop-said.invariant c.feed-fed.ensures c.in-Some.is r.ensures r.auto.pool w.auto.out
    w.ensures.0 w.ensures.1
