-- `gates::places::store_gate` meets its contract.
use Rattle.gates.proofs.LayoutLaws.{stored_words}
use Rattle.gates.proofs.places.store_gate.Goals as goal

pub returns : goal.returns
returns c = rw c.put_gate.ensures (stored_words c.args.gates.now c.args.place c.args.g
    c.args.count c.told-gates c.requires)
