-- `table::lookup` meets its contract. Assumes nothing.
use mathlib.Core.Path.{sym, ◌∙◌}
use Rattle.table.proofs.LookupLaws.{walked_loads, walked_by}
use Rattle.table.proofs.lookup.Goals as goal

pub reached-requires : goal.reached-requires
reached-requires c = let a = c.args in
    walked_loads a.pool.now a.shape a.domain a.address.0 _
    (sym c.in_ok-by.was ∙ c.decide.ensures)

pub returns : goal.returns
returns c = let a = c.args in
    walked_by a.pool.now a.shape a.domain a.address.0 _
    (sym c.in_ok-by.was ∙ c.decide.ensures) c.reached.result c.reached.ensures
