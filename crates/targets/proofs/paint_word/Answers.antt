-- `targets::paint_word` meets its contract.
use Prim.Native.Nat.{◌*◌}
use mathlib.Core.Path.{sym, ◌∙◌}
use native.Mathlib.Omega.{arith}
use Rattle.targets.proofs.PaintLaws.{half_some, said_after, after_apart, after_whole}
use Rattle.targets.proofs.paint_word.Goals as goal

pub repack-requires-clause-lo_le_hi : goal.repack-requires-clause-lo_le_hi
repack-requires-clause-lo_le_hi c = half_some c.args.paint _ 16 (rw c.in-Partly.is at c.meeting.ensures)

pub returns-in-Apart : goal.returns-in-Apart
returns-in-Apart c = λ R g.
    let a = c.args in
    after_apart a.paint a.w (a.chunk * 16) (omega arith)
    (rw c.in-Apart.is at c.meeting.ensures)
    ∙ sym (said_after a.paint a.w a.chunk R g)

pub returns-in-Whole : goal.returns-in-Whole
returns-in-Whole c = λ R g.
    let a = c.args in
    c.sixteen_of.ensures
    ∙ after_whole a.paint a.w (a.chunk * 16)
    (rw c.in-Whole.is at c.meeting.ensures)
    ∙ sym (said_after a.paint a.w a.chunk R g)

pub returns-in-Partly : goal.returns-in-Partly
returns-in-Partly c = λ R g.
    let a = c.args in
    c.repack.ensures ∙ sym (said_after a.paint a.w a.chunk R g)
