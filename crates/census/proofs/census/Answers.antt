-- `census::census` meets its contract. The loop's invariant: the roots passed are fine, and have left the owners so
-- far.
use Prim.Native.Nat.{◌+◌, ◌-◌}
use mathlib.Core.Path.{◌≡◌, sym, ap, ◌∙◌}
use native.Mathlib.Omega.{arith}
use Rattle.std.proofs.Common.{rules}
use lib.ListN.{replicate}
use Rattle.census.specs.Tally.{none, owned, table_tally, roots_tally}
use Rattle.census.proofs.TallyLaws.{answers_owned, answers_refused, roots_next, roots_refused}
use Rattle.census.proofs.CensusLaws.{fine_census, failed_census}
use Rattle.census.proofs.census.Goals as goal
use Rattle.census.proofs.census.Goals.{After-table_check}

-- What the roots tell, with the one at which the loop stands.
next : (c : After-table_check) → let a = c.args in
    roots_tally a.shape a.pool.now (c.loop-d.d + 1)
    ≡ table_tally a.shape a.pool.now 2 c.from-root.result.0 c.loop-d.d c.loop-d.owners
next c =
    let a = c.args in
    roots_next a.shape a.pool.now c.loop-d.d c.loop-d.owners c.loop-d.invariant
    ∙ ap (λ w. table_tally a.shape a.pool.now 2 w.0 c.loop-d.d c.loop-d.owners)
    (sym c.from-root.ensures)

pub loop-d-init : goal.loop-d-init
unfolding roots_tally
loop-d-init c = ap owned (sym (c.fill.ensures.after (λ y k. search rules) ∙ ap (λ n. replicate n none) c.told-owners))

pub returns-then-not-table_check : goal.returns-then-not-table_check
returns-then-not-table_check c = let D = c.args.shape.domains in
    let z : c.loop-d.d + 1 + (D - (c.loop-d.d + 1)) ≡ D = omega arith in
    failed_census _ _ c.requires.fits (λ k. omega (arith, c.type_inv.pool k)) _
    (rw z at (roots_refused c.args.shape c.args.pool.now (c.loop-d.d + 1) (D - (c.loop-d.d + 1))
    (next (goal.at.returns-then-not-table_check c).After-table_check ∙ answers_refused _ _ _ c.table_check.ensures (c.if-not-table_check.true))))

pub loop-d-preserved : goal.loop-d-preserved
loop-d-preserved c =
    next (goal.at.loop-d-preserved c).After-table_check
    ∙ answers_owned _ _ _ c.table_check.ensures c.if-not-table_check.false

pub returns : goal.returns
returns c = let z : c.loop-d.d ≡ c.args.shape.domains = omega arith in
    fine_census _ _ c.requires.fits (λ k. omega (arith, c.type_inv.pool k)) _ (rw z at c.loop-d.invariant)
