-- `listing::list_domains` meets its contract. The loop's invariant: the runs of the domains passed are made.
use mathlib.Core.Path.{refl}
use native.Mathlib.Omega.{arith}
use Rattle.listing.proofs.ListingLaws.{upto_start, upto_few, upto_next, upto_end}
use Rattle.listing.proofs.list_domains.Goals as goal

pub loop-d-init : goal.loop-d-init
loop-d-init c = (upto_start _ _ _ _, refl)

pub list_domain-n-requires : goal.list_domain-n-requires
list_domain-n-requires c = record {
  fits = c.requires.fits;
  sound_pool = c.requires.sound_pool;
  domain_lt_domains = c.loop-d-test.true;
  count_bound = upto_few _ _ _ _ _ _ _ c.loop-d.invariant.0;
}

pub loop-d-preserved : goal.loop-d-preserved
loop-d-preserved c = (
  upto_next _ _ _ _ _ _ _ _ _ c.loop-d.invariant.0 c.loop-d-test.true
      c.list_domain-n.ensures,
  omega arith,
)

pub returns : goal.returns
returns c =
    let r = upto_end _ _ _ _ _ _ _ c.loop-d.invariant.0 c.loop-d-test.false in
    record { count = r.0; out = r.1 }
