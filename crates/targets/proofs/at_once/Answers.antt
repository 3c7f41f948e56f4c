-- `targets::at_once` meets its contract.
use Rattle.std.proofs.Common.{Some}
use mathlib.Core.Path.{sym, ap, ◌∙◌}
use mathlib.Core.Logic.{⊎_elim}
use native.Mathlib.Omega.{arith}
use Rattle.table.proofs.WantLaws.{same_pack}
use Rattle.targets.proofs.EntryLaws.{leaf_entry, whole_entry, apart_entry, leads_leaf, leads_high}
use Rattle.targets.proofs.at_once.Goals as goal

pub returns-in-Whole : goal.returns-in-Whole
returns-in-Whole c = λ P R g.
    let a = c.args in
    whole_entry a.paint R a.height a.n c.block_words-long.result c.block_words-long.ensures
    (rw c.in-Whole.is at c.meeting.ensures)
    ∙ ap Some (same_pack a.height a.paint.right ∙ sym c.same_entry.ensures)

pub returns-in-Apart : goal.returns-in-Apart
returns-in-Apart c = λ P R g.
    let a = c.args in
    apart_entry a.paint R a.height a.n c.block_words-long.result c.block_words-long.ensures P a.e (omega arith)
    c.requires.good_rights g
    (⊎_elim (leads_leaf a.height a.e) (λ (_, l). leads_high a.height a.e l) c.if-e-ge-BIT_31.either)
    (rw c.in-Apart.is at c.meeting.ensures)

pub returns-in_default : goal.returns-in_default
returns-in_default c = λ P R g. leaf_entry _ P R _ _ _ _ c.if-height-eq0-2.true g c.paint_word.ensures
