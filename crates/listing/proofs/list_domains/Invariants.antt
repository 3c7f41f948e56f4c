-- `listing::list_domains` meets its contract. The loop's invariant: the runs of the domains passed are made.
use mathlib.Core.Path.{◌≡◌}
use lib.ListN.{length}
use Rattle.listing.specs.Listing.{word_right}
use Rattle.listing.proofs.ListingLaws.{Upto}
use Rattle.listing.proofs.list_domains.Given as goal

abbrev pub invariant-loop-d : goal.invariant-loop-d
invariant-loop-d l = Upto l.shape.domains (word_right l.shape l.pool) l.from l.initial.runs l.d l.n l.runs × (length l.runs ≡ length l.initial.runs)
