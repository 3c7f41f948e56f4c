-- `hear_last` meets its contract.
use Rattle.rights_listing.proofs.HearsLaws.{hears_last}
use Rattle.rights_listing.proofs.hear_last.Goals as goal

pub returns : goal.returns
returns c = hears_last c.serve_last-len.ensures c.write.result c.write.ensures
