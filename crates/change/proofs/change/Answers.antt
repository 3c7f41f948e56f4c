-- `change::change` meets its contract.
use Rattle.change.proofs.RegionLaws.{request_answers}
use Rattle.change.proofs.change.Goals as goal

pub returns : goal.returns
returns c = request_answers c.in_ok-plan_request.ensures
    (rw (c.domain_in-domain.ensures, c.paint_in-paint.ensures) at c.make_stores.ensures)
