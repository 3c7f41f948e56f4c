-- `text::write_number` meets its contract.
use Prim.Native.Nat.{ℕ, ◌≤◌, ◌<◌}
use native.Mathlib.Omega.{arith}
use mathlib.Core.Path.{◌≡◌, ◌∙◌}
use mathlib.Core.List.{List}
use lib.ListN.{length}
use Rattle.io.specs.Digits.{IsDigitCount, last_digits}
use Rattle.rights_listing.specs.Text.{numeral}
use Rattle.rights_listing.proofs.TextLaws.{fewest_most, fewest_numeral, byte_more}
use Rattle.rights_listing.proofs.text.write_number.Goals as goal

-- The digits of the number: how many, and which.
module _ {n w k : ℕ} (e : w ≡ n) (h : n < 4294967296) (d : IsDigitCount 10 1 w k) where
  most : k ≤ 10
  most = fewest_most n k h (rw e at d)

  which : {text : List ℕ} → text ≡ last_digits 10 k w → text ≡ numeral n
  which t = t ∙ rw e (fewest_numeral n k h (rw e at d))

pub copy-past-requires : goal.copy-past-requires
copy-past-requires c =
    let m = most c.from.ensures c.ranges.n.fits c.decimal-k.ensures.len in
    let z = c.decimal-k.ensures.in_bounds.1 in
    omega arith

pub bounds-out-past : goal.bounds-out-past
bounds-out-past c =
    let m = most c.from.ensures c.ranges.n.fits c.decimal-k.ensures.len in
    let z = c.decimal-k.ensures.in_bounds.1 in
    omega arith

pub returns : goal.returns
returns c =
    let m = most c.from.ensures c.ranges.n.fits c.decimal-k.ensures.len in
    let z = c.decimal-k.ensures.in_bounds.1 in
    let a = c.args in
    let w = c.copy-past in
    let room : w.result < length w.new.out = omega arith in
    let e = which c.from.ensures c.ranges.n.fits c.decimal-k.ensures.len c.decimal-k.ensures.digits in
    let t = rw e at w.ensures.1 in
    (omega arith, byte_more a.out.now w.new.out (numeral a.n) a.at w.result a.end t room)
