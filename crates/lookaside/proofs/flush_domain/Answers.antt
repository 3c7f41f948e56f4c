-- `lookaside::flush_domain` meets its contract. Assumes nothing.
use mathlib.Core.Path.{refl, sym, ◌∙◌}
use Rattle.std.proofs.Common.{rules}
use Rattle.lookaside.specs.Flushes.{flushes}
use Rattle.lookaside.proofs.LayoutLaws.{flush_done_as}
use Rattle.lookaside.proofs.flush_domain.Goals as goal

pub returns : goal.returns
unfolding flushes
returns c = flush_done_as _ _ _ _ refl (sym c.pointer_refusal.ensures ∙ c.in_ok-pointer_refusal.was)
    (c.flush.ensures _ (λ s b p. search rules))
