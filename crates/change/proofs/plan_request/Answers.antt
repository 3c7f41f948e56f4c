-- `change::plan_request` meets its contract.
use mathlib.Core.Path.{sym, ◌∙◌}
use mathlib.Core.Bool.{true≢false}
use native.Mathlib.Omega.{arith}
use lib.ListN.{length}
use Rattle.table.specs.Shape.{Fits}
use Rattle.table.proofs.ShapeLaws.{test_fits, fits_test}
use Rattle.std.proofs.lemmas.Result.{err_from_is_err_and}
use Rattle.change.specs.Answers.{no_shape, no_domain, no_right, no_region}
use Rattle.change.proofs.RegionLaws.{covers_regular, request_is}
use Rattle.change.proofs.plan_request.Goals as goal
use Rattle.change.proofs.plan_request.Goals.{Else-not-shape_fits}

-- Past the first test the shape fits.
fits_at : (c : Else-not-shape_fits) → let a = c.args in
    Fits a.shape (length a.pool.now)
fits_at c = test_fits _ _ (sym c.shape_fits.ensures ∙ c.if-not-shape_fits.false)

pub returns-then-not-shape_fits : goal.returns-then-not-shape_fits
returns-then-not-shape_fits c = λ n. no_shape (λ f. true≢false
    (sym (fits_test _ _ f) ∙ sym c.shape_fits.ensures ∙ c.if-not-shape_fits.true))

pub returns-then-domain-shape : goal.returns-then-domain-shape
returns-then-domain-shape c = λ n. no_domain (fits_at (goal.at.returns-then-domain-shape c).Else-not-shape_fits) c.if-domain-shape.true

pub returns-then-right-gt3 : goal.returns-then-right-gt3
returns-then-right-gt3 c = λ n. no_right (fits_at (goal.at.returns-then-right-gt3 c).Else-not-shape_fits) (omega (arith, c.if-domain-shape.false)) c.if-right-gt3.true

pub plan_region-requires-clause-domain_lt_domains : goal.plan_region-requires-clause-domain_lt_domains
plan_region-requires-clause-domain_lt_domains c = let a = c.args in (
  omega (arith, c.if-domain-shape.false),
  covers_regular a.start.0 a.length a.right _ (omega (arith, c.if-right-gt3.false))
      (sym c.round_region.ensures ∙ c.in_ok-region.was),
)

pub returns-in_err-region : goal.returns-in_err-region
returns-in_err-region c =
    let p = err_from_is_err_and c.from_residual.result c.from_residual.ensures.1 in
    rw (p.1, p.2) (λ n. no_region (fits_at (goal.at.returns-in_err-region c).Else-not-shape_fits)
    (omega (arith, c.if-domain-shape.false)) (omega (arith, c.if-right-gt3.false)) _
    (sym c.round_region.ensures ∙ c.in_err-region.was))

pub returns : goal.returns
returns c = let a = c.args in
    request_is a.pool.now a.shape a.domain a.start.0 a.length a.right _ c.plan_region.result
    (record {
      fits = fits_at (goal.at.returns c).Else-not-shape_fits;
      domain = omega (arith, c.if-domain-shape.false);
      right = omega (arith, c.if-right-gt3.false);
      region = sym c.round_region.ensures ∙ c.in_ok-region.was;
    }) c.plan_region.ensures
