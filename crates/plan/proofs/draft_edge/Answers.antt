-- `plan::draft_edge` meets its contract.
use Prim.Native.Nat.{suc, ◌*◌}
use mathlib.Core.Path.{sym, subst, ap, ◌∙◌}
use native.Mathlib.Numerals.{add-one}
use Rattle.theory.specs.Pool.{words}
use Rattle.table.specs.Map.{block}
use Rattle.targets.specs.Targets.{painted, target_of, Gives}
use Rattle.plan.specs.Edges.{edge_for}
use Rattle.plan.proofs.DraftLaws.{old_gives}
use Rattle.plan.proofs.draft_edge.Goals as goal

pub returns : goal.returns
returns c = λ R g.
    let a = c.args in
    let P = words a.pool.now in
    let z = add-one a.height in
    let e = c.old_entry-old.ensures in
    c.edge_of.ensures
    ∙ ap (edge_for a.n c.old_entry-old.result) (c.entry_target-target.ensures R
    (subst (λ h. Gives P h c.old_entry-old.result a.n R) (sym z)
    (subst (λ x. Gives P (suc a.height) x a.n R) (sym e)
    (old_gives a.pool.now a.height a.domain a.n c.requires.height_lt_heights.0 c.requires.height_lt_heights.2 R g))))
    ∙ ap (λ h. edge_for a.n c.old_entry-old.result (target_of (painted a.paint R) h (a.n * block h))) z
    ∙ ap (λ x. edge_for a.n x (target_of (painted a.paint R) (suc a.height) (a.n * block (suc a.height))))
    e
