-- `goleuthan::calls::change` meets its contract. Assumes nothing.
use Rattle.std.proofs.lemmas.Result.{err_from_is_err_and}
use Rattle.goleuthan.specs.Calls.{length_wrong, shaped}
use Rattle.goleuthan.proofs.calls.change.Goals as goal

pub returns-in_err-shape : goal.returns-in_err-shape
returns-in_err-shape c =
    let p = err_from_is_err_and c.from_residual.result c.from_residual.ensures.1 in
    let (wrong, e) = c.in_err-shape.ensures in
    rw (p.1, p.2, e) (λ out. length_wrong wrong)

pub returns : goal.returns
returns c =
    let (long, e) = c.in_ok-shape.ensures in
    λ out. shaped long _ _ (rw e at c.change.ensures)
