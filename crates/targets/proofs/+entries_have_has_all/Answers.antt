-- `targets::entries_have` and `targets::has_all` meet their contracts.
use Rattle.std.proofs.Common.{◌≡◌, ◌+◌, ◌-◌, ◌*◌, ◌<◌, ◌≤◌, ℕ, refl, sym, ap, subst, ◌∙◌, arith, Some}
use borrow.Author.Tests.{lt-ltb}
use Rattle.theory.specs.Pool.{words}
use Rattle.table.specs.Shape.{size}
use Rattle.targets.specs.Targets.{entry_blocks, painted, given, Decides}
use Rattle.targets.specs.Steps.{BlockHas}
use Rattle.targets.proofs.PaintLaws.{whole_plain}
use Rattle.targets.proofs.HeightLaws.{above_below, some_word, table_room}
use Rattle.targets.proofs.GivenLaws.{painted_given_small}
use Rattle.targets.proofs.HaveLaws.{decides_yes, plain_decides, said_plain, said_decides, table_decides}
use Rattle.targets.proofs.EntryLaws.{leaf_entry}
use Rattle.targets.proofs.+entries_have_has_all.Goals as goal

-- The blocks of the entries of the table below lie in the memory.
below : (h n : ℕ) → h ≤ 2 → (h ≡ 0 → ⊥) → n < entry_blocks h → size (h - 1) * n + size (h - 1) ≤ entry_blocks (h - 1)
below h n hi up b =
    table_room (h - 1) n (omega arith) (subst (λ x. n < entry_blocks x) (above_below h (omega arith)) b)

pub has_all-returns-then-stands : goal.has_all-returns-then-stands
has_all-returns-then-stands t c =
    let a = c.args in
    let h = c.requires.height_bound in
    let P = words a.pool.now in
    decides_yes (said_plain (painted a.paint (given P a.height a.e)) a.height a.n a.right
    (painted_given_small P a.paint a.height a.e h.2) h.3
    (c.stands.ensures c.if-stands.true P (given P a.height a.e) (λ x q. refl) ∙ ap Some c.same_entry-same.ensures))

pub has_all-returns-then-height-eq0 : goal.has_all-returns-then-height-eq0
has_all-returns-then-height-eq0 t c =
    let a = c.args in
    let h = c.requires.height_bound in
    let P = words a.pool.now in
    let R = given P a.height a.e in
    said_decides (painted a.paint R) a.height a.n a.right c.paint_word.result c.same_entry-same.result
    (painted_given_small P a.paint a.height a.e h.2) h.3 c.same_entry-same.ensures
    (leaf_entry a.paint P R a.height a.e a.n _ c.if-height-eq0.true (λ x q. refl) c.paint_word.ensures)

pub has_all-returns-in-Whole : goal.has_all-returns-in-Whole
has_all-returns-in-Whole t c =
    let a = c.args in
    let R = given (words a.pool.now) a.height a.e in
    plain_decides (painted a.paint R) _ _ a.paint.right a.right (some_word a.height)
    (whole_plain a.paint R _ _ (rw c.block_words-long.ensures at (rw c.in-Whole.is at c.meeting.ensures)))

pub has_all-returns-then-e-ge-BIT_31 : goal.has_all-returns-then-e-ge-BIT_31
has_all-returns-then-e-ge-BIT_31 t c =
    let a = c.args in
    let P = words a.pool.now in
    let up = above_below a.height (omega arith) in
    subst (λ x. Decides c.rights_have.result (BlockHas P a.paint x a.e a.n a.right)) (sym up) (c.rights_have.ensures P)

pub has_all-returns : goal.has_all-returns
has_all-returns t c =
    let a = c.args in
    let P = words a.pool.now in
    let up = above_below a.height (omega arith) in
    subst (λ x. Decides c.entries_have.result (BlockHas P a.paint x a.e a.n a.right)) (sym up)
    (table_decides a.paint P (a.height - 1) a.e a.n a.right (omega (arith, c.requires.height_bound.0))
    (lt-ltb a.e 2147483648 c.if-e-ge-BIT_31.false) c.entries_have.result
    (rw (c.from-table.ensures, c.size_of-size.ensures) at c.entries_have.ensures))
