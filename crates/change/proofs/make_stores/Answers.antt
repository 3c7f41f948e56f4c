-- `change::make_stores` meets its contract: each turn of the loop starts between two stores of the work.
use Rattle.change.proofs.RunLaws.{midst_begin, midst_told, midst_on, ends_done, ends_cut, next_due}
use Rattle.change.proofs.make_stores.Goals as goal

pub loop-at-init : goal.loop-at-init
loop-at-init g c = midst_begin _ c.requires.ready c.requires.told

pub next_store-requires-clause-told : goal.next_store-requires-clause-told
next_store-requires-clause-told g c = midst_told c.loop-at.invariant

pub returns-then-left-eq0 : goal.returns-then-left-eq0
returns-then-left-eq0 g c = ends_cut c.loop-at.invariant c.in-Some.ensures c.if-left-eq0.true

pub put-requires : goal.put-requires
put-requires g c = next_due c.loop-at.invariant c.in-Some.ensures

pub loop-at-preserved : goal.loop-at-preserved
loop-at-preserved g c = rw c.put.ensures.stored (midst_on c.loop-at.invariant c.in-Some.ensures c.if-left-eq0.false)

pub returns : goal.returns
returns g c = ends_done c.loop-at.invariant c.in_default.ensures
