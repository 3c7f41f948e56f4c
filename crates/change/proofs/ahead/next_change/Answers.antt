-- `ahead::next_change` meets its contract. The loop takes every run that stands at the first cursor to the cursor `at`.
use mathlib.Core.Path.{sym, ap}
use native.Mathlib.Omega.{arith}
use Rattle.change.proofs.StateLaws.{at_end}
use Rattle.change.proofs.RunLaws.{found_next, passes_on}
use Rattle.change.proofs.ahead.next_change.Goals as goal

pub returns-then-is_some : goal.returns-then-is_some
returns-then-is_some c = found_next c.loop-at.invariant.2 _ _ c.if-is_some.ensures c.next_in_row-next.ensures

pub loop-at-preserved : goal.loop-at-preserved
loop-at-preserved c = let a = c.args in
    let end = ap (λ w. w.0) c.from-end.ensures in
    let r = c.next_row-at.ensures in (
      r.row.0,
      omega (arith, r.row.1),
      λ u y. r.comes a.shape u a.pool.now (sym end)
          (passes_on c.loop-at.invariant.2 _ _ c.if-is_some.ensures c.next_in_row-next.ensures u y),
    )

pub returns : goal.returns
returns c = λ u y. at_end (omega (arith, c.loop-at-test.false)) (c.loop-at.invariant.2 u y)
