-- `targets::wanted::settled` meets its contract. The loop's invariant: the tables at the places from `n` on are wanted.
use Prim.Native.Nat.{◌-◌}
use mathlib.Core.Path.{◌≡◌, sym, ap, ◌∙◌}
use mathlib.Core.Bool.{not, true≢false}
use native.Mathlib.Omega.{arith}
use borrow.Author.Tests.{eq-eqb, ne_eqb}
use Rattle.census.specs.Tally.{none}
use Rattle.targets.proofs.HaveLaws.{decides_yes, decides_no}
use Rattle.targets.proofs.WantedLaws.{wanted_more, leaf_wanted, wanted_settled, settled_wanted}
use Rattle.targets.proofs.wanted.settled.Goals as goal
use Rattle.targets.proofs.wanted.settled.Goals.{else-owner-via-then-owner+then-not-has_leaf+else-not-table_wanted, else-owner-via-then-owner+else-not-has_leaf, else-owner-via-else-owner}

pub returns-then-not-table_wanted : goal.returns-then-not-table_wanted
returns-then-not-table_wanted c = decides_no (λ z. true≢false
    (sym (c.table_wanted.ensures
    ∙ settled_wanted _ _ c.requires.fits c.requires.sound_pool _ c.requires.owners z (c.loop-n.n - 1) (omega arith)
    (omega arith) (ap not (ne_eqb _ none c.if-owner.true)))
    ∙ c.if-not-table_wanted.true))

pub loop-n-preserved : goal.loop-n-preserved
loop-n-preserved c =
    let a = c.args in
    wanted_more a.pool.now a.shape a.owners.now c.loop-n.n c.loop-n.invariant (elim c.else-owner.branch [
      | else-owner-via-then-owner+then-not-has_leaf+else-not-table_wanted w ↦ (λ x. sym w.table_wanted.ensures ∙ w.if-not-table_wanted.false)
      | else-owner-via-then-owner+else-not-has_leaf w ↦ (λ x.
          leaf_wanted _ _ c.requires.fits c.requires.sound_pool _ c.requires.owners (c.loop-n.n - 1) c.loop-n.n (omega arith)
          (omega arith) x (w.has_leaf.ensures (w.if-not-has_leaf.false)) c.loop-n.invariant)
      | else-owner-via-else-owner w ↦ (λ x. absurd (true≢false (sym x ∙ ap not (eq-eqb _ none w.if-owner.false))))
    ])

pub returns : goal.returns
returns c =
    let all : c.loop-n.n ≡ 0 = omega arith in
    decides_yes (wanted_settled _ _ c.requires.fits c.requires.sound_pool _ c.requires.owners
    (rw all at c.loop-n.invariant))
