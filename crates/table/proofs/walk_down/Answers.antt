-- `table::walk_down` meets its contract. The loop's invariant: what is left of the walk ends as the whole does, the
-- word that it stands at lies in the pool, and the loads made are the levels passed.
use Prim.Native.Nat.{◌+◌, ◌-◌}
use mathlib.Core.Path.{◌≡◌, sym, ap, ◌∙◌}
use native.Mathlib.Omega.{arith}
use Rattle.theory.specs.Pool.{words}
use Rattle.theory.proofs.WalkLaws.{walk_refused, walk_stops}
use Rattle.table.specs.Map.{index, form_of}
use Rattle.table.specs.Entries.{decode_of}
use Rattle.table.specs.Lookup.{found_at, without_reach}
use Rattle.table.proofs.EntryLaws.{bad_above, decoded_bad, decoded_any_rights}
use Rattle.table.proofs.LookupLaws.{GoesOn, goes_on}
use Rattle.table.proofs.walk_down.Goals as goal
use Rattle.table.proofs.walk_down.Goals.{In-Leads}

-- The entry that was read leads, and the walk goes on in the table below.
on : (c : In-Leads)
    → GoesOn c.args.shape c.args.pool.now c.args.address.0 c.loop-entry.height c.loop-entry.at.0
    c.in-Leads.table.0
on c =
    goes_on c.args.shape c.args.pool.now c.args.address.0 c.loop-entry.height c.loop-entry.at.0 _ _
    c.requires.fits c.loop-entry.invariant.0
    (ap (decode_of c.args.shape c.loop-entry.height) (sym c.load-got.ensures.0) ∙ sym c.decode.ensures
    ∙ c.in-Leads.is)

pub returns-in-Bad : goal.returns-in-Bad
returns-in-Bad c = let F = form_of c.args.shape in
    let P = words c.args.pool.now in
    let e = ap (decode_of c.args.shape c.loop-entry.height) (sym c.load-got.ensures.0)
    ∙ sym c.decode.ensures ∙ c.in-Bad.is in
    ap (λ e. without_reach (found_at F P c.args.address.0 e))
    (sym (walk_refused F P c.args.address.0 c.loop-entry.height c.loop-entry.at.0
    (decoded_bad c.args.shape c.loop-entry.height _ (bad_above c.args.shape c.loop-entry.height _ e)
    c.loop-entry.invariant.0 e))
    ∙ c.loop-entry.invariant.3)

pub returns-in-Rights : goal.returns-in-Rights
returns-in-Rights c = let F = form_of c.args.shape in
    let P = words c.args.pool.now in
    let (word, fits, made) = c.load-got.ensures in
    let (e, g, n) = decoded_any_rights c.args.shape c.loop-entry.height _ _ fits c.loop-entry.invariant.0
    (sym c.decode.ensures ∙ c.in-Rights.is) in
    let loads : c.load-got.result.loads ≡ 3 - c.loop-entry.height = omega (arith, c.loop-entry.invariant.1, c.loop-entry.invariant.0)
    in
    rw (c.right_at-right.ensures, c.part_in.ensures, e, word, loads)
    (ap (λ e. without_reach (found_at F P c.args.address.0 e))
    (sym (walk_stops F P c.args.address.0 c.loop-entry.height c.loop-entry.at.0 (rw word at g) (rw word at n))
    ∙ c.loop-entry.invariant.3))

pub loop-entry-preserved : goal.loop-entry-preserved
loop-entry-preserved c = let g = on (goal.at.loop-entry-preserved c).In-Leads in
    let e : c.after-at-in-Leads.result.0 ≡ c.in-Leads.table.0 + index (c.loop-entry.height - 1)
    c.args.address.0 =
    ap (λ w. w.0) c.after-at-in-Leads.ensures ∙ rw c.index_in-in-Leads.ensures in (
      omega arith,
      omega (arith, c.load-got.ensures.2, g.above),
      rw e g.inside,
      rw e (g.rest ∙ c.loop-entry.invariant.3),
    )
