-- `targets::even_part` meets its contract.
use Rattle.targets.proofs.PaintLaws.{whole_plain, apart_plain, same_plain, half_two}
use Rattle.targets.proofs.even_part.Goals as goal

pub returns-in-Apart : goal.returns-in-Apart
returns-in-Apart c = λ R f. apart_plain _ _ _ _ _ f (rw c.in-Apart.is at c.meeting.ensures)

pub returns-in-Whole : goal.returns-in-Whole
returns-in-Whole c = λ R f. whole_plain _ _ _ _ (rw c.in-Whole.is at c.meeting.ensures)

pub returns-in-Partly : goal.returns-in-Partly
returns-in-Partly c = λ R f. same_plain _ _ _ _ _ f c.if-o-paint.true

pub returns-in-Partly-2 : goal.returns-in-Partly-2
returns-in-Partly-2 c = λ R f. half_two _ _ _ _ _ f c.if-o-paint.false (rw c.in-Partly.is at c.meeting.ensures)
