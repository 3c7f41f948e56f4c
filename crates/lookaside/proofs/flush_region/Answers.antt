-- `lookaside::flush_region` meets its contract. Assumes nothing.
use mathlib.Core.Path.{sym, ap, ◌∙◌}
use Rattle.std.proofs.Common.{rules}
use Rattle.lookaside.specs.Flushes.{flushes, pointed, flushed_rounded}
use Rattle.lookaside.specs.Layout.{buffer_of}
use Rattle.lookaside.proofs.LayoutLaws.{flush_done_as}
use Rattle.lookaside.proofs.flush_region.Goals as goal

pub returns : goal.returns
unfolding flushes
returns c = let b = buffer_of c.args.buffer.now in
    flush_done_as b _ _ _
    (ap (λ r. pointed b (flushed_rounded r b c.args.domain)) (sym c.round_region.ensures ∙ c.in_ok-region.was))
    (sym c.pointer_refusal.ensures ∙ c.in_ok-pointer_refusal.was) (c.flush.ensures _ (λ s b p. search rules))
