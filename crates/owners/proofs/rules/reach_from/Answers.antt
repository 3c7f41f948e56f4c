-- `owners::rules::reach_from` meets its contract. The invariant: none of the regions below `i` holds a word of the
-- stretch so far.
use Rattle.std.proofs.Common.{ap, arith}
use Rattle.owners.proofs.ReachLaws.{reach_hit, reach_none}
use Rattle.owners.proofs.rules.reach_from.Goals as goal

pub returns-then-w-r-2 : goal.returns-then-w-r-2
returns-then-w-r-2 c = let a = c.args in
    let lo = ap (λ r. r.lo) c.bounds_at-r.ensures in
    let hi = ap (λ r. r.hi) c.bounds_at-r.ensures in
    rw (c.min.ensures, hi) (reach_hit a.ws.now a.w c.loop-i.until c.loop-i.i (omega arith) (omega arith)
    (omega (arith, lo)) (omega (arith, hi)) c.loop-i.invariant.1)

pub returns : goal.returns
returns c = reach_none _ c.args.w c.loop-i.until c.loop-i.invariant.0
    (λ j v h. c.loop-i.invariant.1 j v (omega arith))
