-- `listing::list_runs` meets its contract.
use mathlib.Core.Path.{sym, ◌∙◌}
use mathlib.Core.Bool.{false≢true}
use lib.ListN.{length}
use Rattle.theory.specs.Pool.{words, SoundPool}
use Rattle.table.specs.Shape.{Fits}
use Rattle.table.specs.Map.{form_of}
use Rattle.table.proofs.ShapeLaws.{test_fits, fits_test}
use Rattle.listing.specs.Listing.{no_shape, unsound}
use Rattle.listing.proofs.ListingLaws.{lists_found}
use Rattle.listing.proofs.list_runs.Goals as goal
use Rattle.listing.proofs.list_runs.Goals.{Else-not-shape_fits, Else-not-census}

-- What the two tests tell.
fits : (c : Else-not-shape_fits) → Fits c.args.shape
    (length c.args.pool.now)
fits c = test_fits _ _ (sym c.shape_fits.ensures ∙ c.if-not-shape_fits.false)

sound : (c : Else-not-census)
    → SoundPool (form_of c.args.shape)
    (words c.args.pool.now)
sound c = c.census.ensures.sound (c.if-not-census.false)

pub returns-then-not-shape_fits : goal.returns-then-not-shape_fits
returns-then-not-shape_fits c = no_shape (λ f. false≢true (sym (c.if-not-shape_fits.true) ∙ c.shape_fits.ensures
    ∙ fits_test _ _ f))

pub census-requires : goal.census-requires
census-requires c = record { fits = fits (goal.at.census-requires c).Else-not-shape_fits }

pub returns-then-not-census : goal.returns-then-not-census
returns-then-not-census c = unsound (fits (goal.at.returns-then-not-census c).Else-not-shape_fits)
    (λ o. false≢true (sym (c.if-not-census.true) ∙ c.census.ensures.whole o))

pub list_domains-requires : goal.list_domains-requires
list_domains-requires c = record {
  fits = fits (goal.at.list_domains-requires c).Else-not-shape_fits;
  sound_pool = sound (goal.at.list_domains-requires c).Else-not-census;
}

pub returns : goal.returns
returns c = let n = c.list_domains.ensures in
    lists_found _ _ _ _ _ _ (fits (goal.at.returns c).Else-not-shape_fits)
    (sound (goal.at.returns c).Else-not-census) n.count n.out
