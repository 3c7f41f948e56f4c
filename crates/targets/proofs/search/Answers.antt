-- `targets::search` meets its contract. The loop's invariant: what it has said are the rights of the sub-blocks passed.
use Prim.Native.Nat.{suc}
use mathlib.Core.Path.{◌∙◌}
use native.Mathlib.Omega.{arith}
use Rattle.theory.specs.Pool.{words}
use Rattle.targets.specs.Targets.{painted, given}
use Rattle.targets.proofs.GivenLaws.{painted_given_small}
use Rattle.targets.proofs.SearchLaws.{gathers_none, gathers_room, gathers_more, gathers_two, gathers_all}
use Rattle.targets.proofs.search.Goals as goal

pub loop-i-init : goal.loop-i-init
loop-i-init c = gathers_none _ _ _

pub returns-in_err-said : goal.returns-in_err-said
returns-in_err-said c = let a = c.args in
    c.from_residual.ensures ∙ gathers_two (painted a.paint (given (words a.pool.now) (suc a.below) a.e)) (suc a.below) a.n
    c.loop-i.said c.loop-i.i c.part.result (omega arith) c.part.ensures (omega arith) c.in_err-said.was

pub overflow_add-said : goal.overflow_add-said
overflow_add-said c = let a = c.args in
    let room = gathers_room (painted a.paint (given (words a.pool.now) (suc a.below) a.e)) (suc a.below) a.n
    c.loop-i.said c.loop-i.i c.part.result (omega arith) c.part.ensures _
    (painted_given_small _ a.paint _ a.e c.requires.below_bound.2) c.in_ok-said.was c.loop-i.invariant in
    omega (arith, room)

pub loop-i-preserved : goal.loop-i-preserved
loop-i-preserved c = let a = c.args in
    gathers_more (painted a.paint (given (words a.pool.now) (suc a.below) a.e)) (suc a.below) a.n
    c.loop-i.said c.loop-i.i c.part.result (omega arith) c.part.ensures _
    (painted_given_small _ a.paint _ a.e c.requires.below_bound.2) c.in_ok-said.was c.loop-i.invariant

pub returns : goal.returns
returns c = let a = c.args in
    gathers_all (painted a.paint (given (words a.pool.now) (suc a.below) a.e)) a.below a.n
    c.loop-i.said c.loop-i.i (omega arith) c.loop-i.invariant
