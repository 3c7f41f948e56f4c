-- `show` meets its contract.
use Rattle.std.proofs.lemmas.Result.{err_from_is_err_and}
use Rattle.rights_listing.specs.Pages.{written, not_written}
use Rattle.rights_listing.proofs.show.Goals as goal

pub returns-in_err-write : goal.returns-in_err-write
returns-in_err-write c = let p = err_from_is_err_and c.from_residual.result c.from_residual.ensures.1 in
    rw (p.1, p.2, c.in_err-write.ensures) (not_written c.write_page-page.ensures)

pub returns : goal.returns
returns c = written c.write_page-page.ensures
