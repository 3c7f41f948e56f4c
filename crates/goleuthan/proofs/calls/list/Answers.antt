-- `goleuthan::calls::list` meets its contract. Assumes nothing.
use mathlib.Core.Path.{◌∙◌}
use Rattle.std.proofs.lemmas.Result.{err_from_is_err_and}
use Rattle.goleuthan.specs.Calls.{length_wrong, shaped}
use Rattle.goleuthan.proofs.OutLaws.{one_word}
use Rattle.goleuthan.proofs.calls.list.Goals as goal

pub returns-in_err-read_shape : goal.returns-in_err-read_shape
returns-in_err-read_shape c =
    let p = err_from_is_err_and c.from_residual.result c.from_residual.ensures.1 in
    let (wrong, e) = c.in_err-read_shape.ensures in
    rw (p.1, p.2, e) (λ out. length_wrong wrong)

pub returns-in_err-count : goal.returns-in_err-count
returns-in_err-count c =
    let p = err_from_is_err_and c.from_residual-in_err-count.result c.from_residual-in_err-count.ensures.1 in
    let (long, e) = c.in_ok-read_shape.ensures in
    rw (p.1, p.2) (λ out. shaped long _ _ (rw e at c.in_err-count.ensures))

pub returns : goal.returns
returns c =
    let (long, e) = c.in_ok-read_shape.ensures in
    rw (c.unwrap_or.ensures ∙ one_word c.in_ok-count.count c.try_from.result c.try_from.ensures)
    (λ out. shaped long _ _ (rw e at c.in_ok-count.ensures))
