-- `serving::reply` meets its contract.
use Rattle.std.proofs.Common.{sym}
use Rattle.rights_listing.proofs.ServesLaws.{serves_none, serves_request, ended_zero}
use Rattle.rights_listing.proofs.serving.reply.Goals as goal

pub returns-in_default : goal.returns-in_default
returns-in_default c = serves_none c.in_default.is

pub returns-in-Ok-change : goal.returns-in-Ok-change
returns-in-Ok-change c = let h = rw (c.shape.ensures, c.from-start.ensures) at c.in-Ok-change.ensures in
    serves_request c.in-Ok.is (ended_zero _) h

pub returns-in-Err : goal.returns-in-Err
returns-in-Err c = let h = rw (c.shape.ensures, c.from-start.ensures) at c.in-Err.ensures in
    serves_request c.in-Ok.is (sym c.from.ensures) h
