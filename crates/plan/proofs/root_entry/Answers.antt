-- `plan::root_entry` meets its contract.
use mathlib.Core.Path.{ap, ◌∙◌}
use Rattle.plan.proofs.root_entry.Goals as goal

pub bounds-pool-index : goal.bounds-pool-index
bounds-pool-index c = rw (c.index.ensures ∙ ap (λ w. w.0) c.root_word-word.ensures)
    (c.requires.readable_root c.args.block c.requires.domain_bound.1).0
