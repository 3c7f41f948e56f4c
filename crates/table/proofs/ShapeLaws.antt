-- The test of a shape says what it should.
use Prim.Native.Nat.{ℕ}
use mathlib.Core.Path.{◌≡◌}
use mathlib.Core.Bool.{true}
use borrow.Author.Tests.{leb-true, eqb-true, le-leb, eq-eqb}
use Rattle.table.specs.declared.Shape.{Shape}
use Rattle.table.specs.Shape.{Fits, fits_of}
use Rattle.theory.proofs.Logic.{and_both}

pub test_fits : (s : Shape) (n : ℕ) → fits_of s n ≡ true → Fits s n
test_fits s n e =
    let (e1, long) = and_both _ _ e in
    let (e2, leaf) = and_both _ _ e1 in
    let (e3, mids) = and_both _ _ e2 in
    let (some, doms) = and_both _ _ e3 in
    record {
      range = record {
        some_domain = leb-true _ _ some;
        domains = leb-true _ _ doms;
        middles = leb-true _ _ mids;
        leaves = leb-true _ _ leaf;
      };
      long = eqb-true _ _ long;
    }

pub fits_test : (s : Shape) (n : ℕ) → Fits s n → fits_of s n ≡ true
fits_test s n f =
    simp (
      le-leb _ _ f.range.some_domain,
      le-leb _ _ f.range.domains,
      le-leb _ _ f.range.middles,
      le-leb _
          _ f.range.leaves,
      eq-eqb _ _ f.long,
    )
