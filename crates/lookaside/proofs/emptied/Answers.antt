-- `lookaside::emptied` meets its contract. Assumes nothing.
use Prim.Native.Nat.{ℕ}
use mathlib.Core.Path.{ap, ◌∙◌}
use lib.ListN.{replicate}
use Rattle.std.proofs.Common.{rules}
use Rattle.lookaside.proofs.LayoutLaws.{emptied_words}
use Rattle.lookaside.proofs.emptied.Goals as goal

pub returns : goal.returns
returns c = c.fill.ensures.after (λ y h. search rules) ∙ ap (λ (n : ℕ). replicate n 0) c.told-buffer ∙ emptied_words
