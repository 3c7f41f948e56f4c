-- `goleuthan::calls::look_up` meets its contract. Assumes nothing.
use Rattle.std.proofs.lemmas.Result.{err_from_is_err_and}
use Rattle.goleuthan.specs.Calls.{length_wrong, shaped}
use Rattle.goleuthan.proofs.calls.look_up.Goals as goal

pub returns-in_err-read_shape : goal.returns-in_err-read_shape
returns-in_err-read_shape c =
    let p = err_from_is_err_and c.from_residual.result c.from_residual.ensures.1 in
    let (wrong, e) = c.in_err-read_shape.ensures in
    rw (p.1, p.2, e) (λ out. length_wrong wrong)

pub returns-in_err-by : goal.returns-in_err-by
returns-in_err-by c =
    let p = err_from_is_err_and c.from_residual-in_err-by.result c.from_residual-in_err-by.ensures.1 in
    let (long, e) = c.in_ok-read_shape.ensures in
    rw (p.1, p.2) (λ out. shaped long _ (rw e at c.in_err-by.ensures))

pub returns : goal.returns
returns c =
    let (long, e) = c.in_ok-read_shape.ensures in
    rw (c.from.ensures, c.from-2.ensures) (λ out. shaped long _ (rw e at c.in_ok-by.ensures))
