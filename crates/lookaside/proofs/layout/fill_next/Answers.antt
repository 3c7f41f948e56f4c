-- `lookaside::layout::fill_next` meets its contract. Assumes nothing.
use Rattle.lookaside.proofs.LayoutLaws.{fill_words}
use Rattle.lookaside.proofs.layout.fill_next.Goals as goal

pub returns : goal.returns
returns c = rw c.put_slot.ensures (fill_words c.args.ws.now c.args.s c.told-ws c.requires)
