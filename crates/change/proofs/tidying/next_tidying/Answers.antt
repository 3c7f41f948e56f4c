-- `tidying::next_tidying` meets its contract. The loop takes every tidying that stands at the cursor to word `k`, which
-- is of the place that comes next.
use Prim.Native.Nat.{◌+◌, ◌*◌, ◌-◌, ◌%◌}
use mathlib.Core.Path.{◌≡◌, ap}
use native.Mathlib.Omega.{arith}
use Rattle.change.proofs.RunLaws.{found_next, passes_on}
use Rattle.change.proofs.TidyAimLaws.{place_at, tidy_end}
use Rattle.change.proofs.tidying.next_tidying.Goals as goal
use Rattle.change.proofs.tidying.next_tidying.Goals.{After-from}

-- Where the place begins, and how far on word `k` is.
begins : (c : After-from) → let l = c.loop-place in
    (c.from.result.0 ≡ 1024 * l.place) × (c.from.result.0 + (l.k - 1024 * l.place) ≡ l.k)
begins c = let e = ap (λ w. w.0) c.from.ensures in (e, omega (arith, c.loop-place.invariant.0))

pub next_in_place-next-requires-clause-place : goal.next_in_place-next-requires-clause-place
next_in_place-next-requires-clause-place c =
    let base = 1024 * c.loop-place.place in
    let e : base - base % 1024 ≡ base = omega arith in
    let b = begins (goal.at.next_in_place-next-requires-clause-place c).After-from in
    (rw (b.0, ← e) (place_at c.args.shape base (omega (arith, c.loop-place-test.true))), omega (arith, c.loop-place.invariant.1))

pub returns-then-is_some : goal.returns-then-is_some
returns-then-is_some c =
    let b = begins (goal.at.returns-then-is_some c).After-from in
    found_next c.loop-place.invariant.2 _ _ c.if-is_some.ensures (rw b.1 at c.next_in_place-next.ensures)

pub loop-place-preserved : goal.loop-place-preserved
loop-place-preserved c =
    let b = begins (goal.at.loop-place-preserved c).After-from in (
      omega arith,
      omega arith,
      rw (← b.0) (passes_on c.loop-place.invariant.2 _ _ c.if-is_some.ensures (rw b.1 at c.next_in_place-next.ensures)),
    )

pub returns : goal.returns
returns c = λ u y. tidy_end c.args.shape c.args.pool.now c.loop-place.k
    (omega (arith, c.loop-place-test.false, c.loop-place.invariant.0)) u (c.loop-place.invariant.2 u y)
