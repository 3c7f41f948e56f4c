-- `listing::list_domain` meets its contract.
use mathlib.Core.Path.{ap, ◌∙◌}
use native.Mathlib.Omega.{arith}
use Rattle.listing.specs.Runs.{memory_words}
use Rattle.listing.specs.Sheets.{sheet, closed, fed, opening, count_of}
use Rattle.listing.specs.Levels.{table_right, TableAt}
use Rattle.listing.proofs.LevelLaws.{root_table}
use Rattle.listing.proofs.ListingLaws.{open_begin, open_end}
use Rattle.listing.proofs.list_domain.Goals as goal
use Rattle.listing.proofs.list_domain.Goals.{After-from-root}

-- The root of the domain.
root : (c : After-from-root) → let a = c.args in
    TableAt a.pool.now a.shape 2 c.from-root.result.0 0
root c =
    rw c.from-root.ensures (root_table _ _ _ c.requires.fits c.requires.sound_pool c.requires.domain_lt_domains)

pub feed_table-s-requires : goal.feed_table-s-requires
feed_table-s-requires c = record {
  height_nonzero = (omega arith, record { shape = c.args.shape; table = root (goal.at.feed_table-s-requires c).After-from-root });
  open_at = open_begin _ _ _ (omega (arith, c.requires.fits.range.domains)) c.requires.count_bound;
}

pub close-requires : goal.close-requires
close-requires c = record {
  at_le_memory_words = omega arith;
  open_at = open_end _ _ _ (open_begin _ _ _ (omega (arith, c.requires.fits.range.domains)) c.requires.count_bound)
      (ap (λ u. u.run) (c.feed_table-s.ensures _ (root (goal.at.close-requires c).After-from-root)));
}

pub returns : goal.returns
returns c = let a = c.args in
    ap count_of
    (c.close.ensures
    ∙ ap (closed memory_words)
    (c.feed_table-s.ensures _ (root (goal.at.returns c).After-from-root)
    ∙ ap (λ c. fed memory_words (table_right a.shape a.pool.now 2 c.0) 0
    (sheet (opening a.domain a.count a.from) a.runs.now)) c.from-root.ensures))
