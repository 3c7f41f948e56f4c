-- `ahead::next_in_row` meets its contract. The loop takes every run that stands at the cursor to word `i` of its row.
use Prim.Native.Nat.{◌+◌}
use mathlib.Core.Path.{◌≡◌, ap}
use native.Mathlib.Omega.{arith}
use Rattle.change.proofs.AheadLaws.{at_plain}
use Rattle.change.proofs.RunLaws.{found_in, passes_on}
use Rattle.change.proofs.ahead.next_in_row.Goals as goal

pub loop-i-init : goal.loop-i-init
loop-i-init c = λ u y. at_plain c.plain_words-i.ensures y

pub returns-then-is_some : goal.returns-then-is_some
returns-then-is_some c = let e = ap (λ w. w.0) c.after-word.ensures in
    found_in c.loop-i.invariant (c.args.at.word.0 + c.loop-i.i + 1) c.args.at.past.0 _ c.if-is_some.ensures
    (rw e at c.next_here-next.ensures)

pub loop-i-preserved : goal.loop-i-preserved
loop-i-preserved c = let e = ap (λ w. w.0) c.after-word.ensures in
    let a = c.args.at.word.0 in
    let z : a + c.loop-i.i + 1 ≡ a + (c.loop-i.i + 1) = omega arith in
    rw (← z) (passes_on c.loop-i.invariant _ _ c.if-is_some.ensures (rw e at c.next_here-next.ensures))

pub returns : goal.returns
returns c = let i = c.loop-i.i in
    let z : c.args.at.word.0 + i ≡ c.args.at.past.0 = omega (arith, c.requires.follows.1, c.plain_words-i.ensures.most) in
    rw z at c.loop-i.invariant
