-- `lookaside::check` meets its contract. Assumes nothing.
use mathlib.Core.Path.{sym, ◌∙◌}
use Rattle.std.proofs.Common.{rules}
use Rattle.table.specs.Lookup.{lookup_of}
use Rattle.table.proofs.LookupLaws.{walks_refused}
use Rattle.lookaside.specs.Check.{check_of}
use Rattle.lookaside.specs.Layout.{buffer_of}
use Rattle.lookaside.proofs.SlotLaws.{match_is}
use Rattle.lookaside.proofs.BufferLaws.{first_matches}
use Rattle.lookaside.proofs.LayoutLaws.{buffer_words_lem}
use Rattle.lookaside.proofs.CheckLaws.{allowed}
use Rattle.lookaside.proofs.check.Goals as goal

pub right_at-requires : goal.right_at-requires
right_at-requires c = let a = c.args in
    (match_is _ a.domain a.address.0
    (first_matches (buffer_of a.buffer.now).slots a.domain a.address.0 _ (sym c.find.ensures ∙ c.in-Some.is))).level

pub returns-in_err-by : goal.returns-in_err-by
unfolding check_of
returns-in_err-by c = let a = c.args in
    let refuses = walks_refused (lookup_of a.pool.now a.shape a.domain a.address.0) c.in_err-by.field-0.0 (sym c.in_err-by.was ∙ c.decide.ensures) in
    let stays = buffer_words_lem a.buffer.now c.told-buffer in
    search rules

pub fill_next-requires : goal.fill_next-requires
fill_next-requires c = (allowed _ _ _ _ _ _ _ (sym c.check_refusal.ensures ∙ c.in_ok-check_refusal.was)).pointer
