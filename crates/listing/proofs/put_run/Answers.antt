-- `listing::put_run` meets its contract.
use Prim.Native.Nat.{◌+◌, ◌*◌, ◌-◌}
use mathlib.Core.Path.{◌≡◌}
use native.Mathlib.Numerals.{add-one, add-two, add-three}
use native.Mathlib.Omega.{arith}
use borrow.Author.Tests.{lt-ltb, le-ltb}
use Rattle.listing.specs.Sheets.{put_run}
use Rattle.listing.proofs.put_run.Goals as goal
use Rattle.listing.proofs.put_run.Goals.{else-start-n-via-then-start-n+else-n-start, else-start-n-via-else-start-n}

pub returns-then-n-start : goal.returns-then-n-start
unfolding put_run
returns-then-n-start c = let n : 4 * (c.args.run.past - 1) + 3
    ≡ 4 * c.args.run.past - 1 =
    omega (arith, c.requires.0) in
    simp (le-ltb _ _ c.if-start-n.true, lt-ltb _ _ c.if-n-start.true)
    (rw (n, add-one, add-two, add-three))

pub returns-else-start-n : goal.returns-else-start-n
unfolding put_run
returns-else-start-n c = elim c.else-start-n.branch [
  | else-start-n-via-then-start-n+else-n-start w ↦ simp (le-ltb _ _ w.if-start-n.true, le-ltb _ _ w.if-n-start.false)
  | else-start-n-via-else-start-n w ↦ simp (lt-ltb _ _ w.if-start-n.false)
]
