-- `tidying::tidy` meets its contract.
use mathlib.Core.Path.{sym, ◌∙◌}
use mathlib.Core.Bool.{true≢false}
use lib.ListN.{length}
use Rattle.theory.specs.Pool.{words, SoundPool}
use Rattle.table.specs.Shape.{Fits}
use Rattle.table.specs.Map.{form_of}
use Rattle.table.proofs.ShapeLaws.{test_fits, fits_test}
use Rattle.change.specs.Answers.{no_shape, unsound}
use Rattle.change.proofs.TidyAimLaws.{owners_begin}
use Rattle.change.proofs.TidiesLaws.{settled_tidies}
use Rattle.change.proofs.TidyEndLaws.{tidy_ready, tidy_answers}
use Rattle.change.proofs.tidying.tidy.Goals as goal
use Rattle.change.proofs.tidying.tidy.Goals.{Else-not-shape_fits, Else-not-census}

-- Past the first test the shape fits; past the second the pool is sound, and the owners of its places are known.
fits_at : (c : Else-not-shape_fits) → let a = c.args in Fits a.shape (length a.pool.now)
fits_at c = test_fits _ _ (sym c.shape_fits.ensures ∙ c.if-not-shape_fits.false)

sound_at : (c : Else-not-census) → let a = c.args in
    SoundPool (form_of a.shape) (words a.pool.now)
sound_at c = c.census.ensures.sound (c.if-not-census.false)

pub returns-then-not-shape_fits : goal.returns-then-not-shape_fits
returns-then-not-shape_fits c = no_shape (λ f. true≢false (sym (fits_test _ _ f) ∙ sym c.shape_fits.ensures
    ∙ c.if-not-shape_fits.true))

pub returns-then-not-census : goal.returns-then-not-census
returns-then-not-census c = unsound (fits_at (goal.at.returns-then-not-census c).Else-not-shape_fits)
    (λ o. true≢false (sym (c.census.ensures.whole o) ∙ c.if-not-census.true))

pub returns-then-settled : goal.returns-then-settled
returns-then-settled c = settled_tidies (fits_at (goal.at.returns-then-settled c).Else-not-shape_fits)
    (c.settled.ensures.holds c.if-settled.true)

pub make_stores-requires-clause-ready : goal.make_stores-requires-clause-ready
make_stores-requires-clause-ready c = tidy_ready _ _ (fits_at (goal.at.make_stores-requires-clause-ready c).Else-not-shape_fits)
    (sound_at (goal.at.make_stores-requires-clause-ready c).Else-not-census)

pub make_stores-requires-clause-told : goal.make_stores-requires-clause-told
make_stores-requires-clause-told c =
    owners_begin (fits_at (goal.at.make_stores-requires-clause-told c).Else-not-shape_fits)
    (c.census.ensures.owners (c.if-not-census.false))

pub returns : goal.returns
returns c = tidy_answers (fits_at (goal.at.returns c).Else-not-shape_fits) (sound_at (goal.at.returns c).Else-not-census)
    c.make_stores.ensures
