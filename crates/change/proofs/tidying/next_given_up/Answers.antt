-- `tidying::next_given_up` meets its contract. The loop takes every tidying that stands at word `from` of the table
-- to its word `i`.
use Prim.Native.Nat.{◌+◌, ◌<◌}
use mathlib.Core.Path.{◌≡◌, refl, ap, ◌∙◌}
use native.Mathlib.Omega.{arith}
use Rattle.table.specs.Shape.{first_leaf}
use Rattle.change.proofs.TidyingLaws.{aim_passes, aim_stores}
use Rattle.change.proofs.TidyAimLaws.{table_inside, plain_passed}
use Rattle.change.proofs.tidying.next_given_up.Goals as goal
use Rattle.change.proofs.tidying.next_given_up.Goals.{then-n-eq0+in_default, else-n-eq0}

pub returns-in-Some : goal.returns-in-Some
returns-in-Some c = let l = c.loop-i in
    let a = c.args in
    let e = ap (λ w. w.0) c.after-k.ensures in
    let b : a.base.0 + l.i < first_leaf a.shape = table_inside _ _ _ _ _ c.requires.table.0 c.loop-i-test.true in
    rw e (record {
      inside = omega (arith, c.requires.fits.0.long);
      word = ap (λ c. c.0) c.after-next.ensures ∙ rw e;
      follows = refl;
      stores = λ u y. aim_stores a.shape u (a.base.0 + l.i) _ _ c.in-Some.is
          c.target_at.ensures (l.invariant.1 u y);
    })

pub loop-i-preserved : goal.loop-i-preserved
loop-i-preserved c = let l = c.loop-i in
    let a = c.args in
    let n = c.plain_ahead-n in
    let e = ap (λ w. w.0) c.after-k.ensures in
    elim c.if-n-eq0.branch [
      | then-n-eq0+in_default w ↦
          let m : c.max-i.result ≡ 1 = omega arith in
          let z : a.base.0 + l.i + 1 ≡ a.base.0 + (l.i + 1) = omega arith in
          rw m (
            omega (arith, c.loop-i-test.true),
            λ u y. rw z at (aim_passes a.shape u (a.base.0 + l.i) _ w.in_default.is w.target_at.ensures (l.invariant.1 u y)),
          )
      | else-n-eq0 w ↦
          let m : c.max-i.result ≡ n.result = omega arith in
          rw m (
            n.ensures.0,
            λ u y. plain_passed a.shape a.pool.now a.owner a.base.0 l.i n.result c.requires.table.0
                n.ensures.0
                (rw e at n.ensures.1) u (l.invariant.1 u y),
          )
    ]

pub returns : goal.returns
returns c = let l = c.loop-i in
    let e : l.i ≡ 1024 = omega (arith, l.invariant.0, c.loop-i-test.false) in
    λ u y. rw e at (l.invariant.1 u y)
