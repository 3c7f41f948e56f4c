-- `hear` meets its contract.
use Rattle.std.proofs.lemmas.Result.{err_from_is_err_and}
use Rattle.rights_listing.specs.Serves.{nothing, not_read}
use Rattle.rights_listing.proofs.HearsLaws.{hears_chunk, hears_unwritten}
use Rattle.rights_listing.proofs.hear.Goals as goal

pub returns-in_default : goal.returns-in_default
returns-in_default c = not_read

pub returns-then-n-eq0 : goal.returns-then-n-eq0
returns-then-n-eq0 c = nothing

pub returns-in_err-write : goal.returns-in_err-write
returns-in_err-write c = let p = err_from_is_err_and c.from_residual.result c.from_residual.ensures.1 in
    rw (p.1, p.2, c.in_err-write.ensures)
    (hears_unwritten c.serve-served.ensures c.in-Ok.ensures.bound.1 c.if-n-eq0.false)

pub returns : goal.returns
returns c = hears_chunk c.serve-served.ensures c.in-Ok.ensures.bound.1 c.if-n-eq0.false
