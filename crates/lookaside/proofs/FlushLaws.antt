-- Laws of flushes: their answers one by one, which slots meet a region, and that there is one answer. Assumes nothing.
use Prim.Native.Nat.{ℕ, ◌+◌, ◌*◌, ◌/◌, ◌≤◌, ◌<◌}
use mathlib.Core.Path.{◌≡◌, refl, sym, ◌∙◌}
use mathlib.Core.Bool.{true}
use native.Mathlib.Omega.{arith}
use native.Mathlib.Decide.{dec_le}
use borrow.Author.Tests.{lt-ltb, le-ltb, le-leb, ltb-true, leb-true, eqb-true}
use Rattle.std.specs.Prelude.{Ok, Err}
use Rattle.refusals.specs.declared.Refusal.{Refusal}
use Rattle.refusals.specs.declared.Refusal.TheVariants.{BadState}
use Rattle.words.specs.declared.Region.{Region}
use Rattle.words.specs.Region.{region_of, covered}
use Rattle.lookaside.specs.declared.Slot.{Slot}
use Rattle.lookaside.specs.Slots.{Buffer, height_of, block_bytes, holds_for, in_block, matches}
use Rattle.lookaside.specs.Flushes.{Flushing, Whole, OfDomain, OfRegion, Flushed, meets, flushes, done, refused, pointed, flushed_whole, flushed_domain}
use Rattle.lookaside.specs.Flushes.{flushed_region}
use Rattle.lookaside.specs.Agree.{clears}
use Rattle.lookaside.proofs.TestLaws.{both_true}
use Rattle.lookaside.proofs.SlotLaws.{block_some, match_place}

-- The refusal of the pointer, and what follows where it is a slot's.
module _ (b : Buffer) (r : Flushed) where
  pub pointed_refused : 64 ≤ b.next → pointed b r ≡ refused BadState b
  unfolding pointed
  pointed_refused h = rw (le-ltb b.next 64 h)

  pub pointed_goes : b.next < 64 → pointed b r ≡ r
  unfolding pointed
  pointed_goes h = rw (lt-ltb b.next 64 h)

-- A region that is covered, and one that is not.
module _ (b : Buffer) (d start length : ℕ) (h : b.next < 64) where
  pub region_done : (r : Region) → region_of start length ≡ Ok r → flushed_region b d start length
      ≡ done (OfRegion d r) b
  region_done r e = pointed_goes b _ h ∙ rw e

  pub region_refused : (n : Refusal) → region_of start length ≡ Err n → flushed_region b d start length ≡ refused n b
  region_refused n e = pointed_goes b _ h ∙ rw e

-- There is one answer.

pub one_flush_all : (b : Buffer) (q r : Flushed) → q ≡ flushed_whole b → r ≡ flushed_whole b → q ≡ r
one_flush_all b q r x y = x ∙ sym y

pub one_flush_domain : (b : Buffer) (d : ℕ) (q r : Flushed) → q ≡ flushed_domain b d → r ≡ flushed_domain b d → q ≡ r
one_flush_domain b d q r x y = x ∙ sym y

pub one_flush_region : (b : Buffer) (d start length : ℕ) (q r : Flushed) → q ≡ flushed_region b d start length → r
    ≡ flushed_region b d start length → q ≡ r
one_flush_region b d start length q r x y = x ∙ sym y

-- A block meets a region exactly where some covered byte lies in it.

pub byte_meets : (s : Slot) (r : Region) (a : ℕ) → covered r a ≡ true → in_block s a ≡ true → meets s r ≡ true
unfolding in_block meets
byte_meets s r a c i =
    let (lo, hi) = both_true _ _ c in
    let (from, to) = both_true _ _ i in
    let lo' : r.lo ≤ a / 4 = leb-true _ _ lo in
    let hi' : a / 4 < r.hi = ltb-true _ _ hi in
    let from' : s.block.0 ≤ a = leb-true _ _ from in
    let to' : a < s.block.0 + block_bytes s.level = ltb-true _ _ to in
    rw (
      lt-ltb s.block.0 (4 * r.hi) (omega arith),
      lt-ltb (4 * r.lo) (s.block.0 + block_bytes s.level)
          (omega arith),
    )

pub meets_byte : (s : Slot) (r : Region) → r.lo < r.hi → meets s r ≡ true → (a : ℕ) × (covered r a ≡ true)
    × (in_block s a ≡ true)
unfolding in_block meets
meets_byte s r some m =
    let (x, y) = both_true _ _ m in
    let below : s.block.0 < 4 * r.hi = ltb-true _ _ x in
    let above : 4 * r.lo < s.block.0 + block_bytes s.level = ltb-true _ _ y in
    elim (dec_le (4 * r.lo) s.block.0) [
      | yes h ↦ (
        s.block.0,
        rw (le-leb r.lo (s.block.0 / 4) (omega arith), lt-ltb (s.block.0 / 4) r.hi (omega arith)),
        rw (
          le-leb s.block.0 s.block.0 (omega arith),
          lt-ltb s.block.0 (s.block.0 + block_bytes s.level) (omega (arith, block_some (height_of s.level))),
        ),
      )
      | no h ↦ (
        4 * r.lo,
        rw (le-leb r.lo (4 * r.lo / 4) (omega arith), lt-ltb (4 * r.lo / 4) r.hi (omega arith)),
        rw (
          le-leb s.block.0 (4 * r.lo) (omega arith),
          lt-ltb (4 * r.lo) (s.block.0 + block_bytes s.level)
              above,
        ),
      )
    ]

-- A flush empties every slot that matches at a place which it clears.
pub clears_flushes : (f : Flushing) (s : Slot) (d a : ℕ) → matches s d a ≡ true → clears f d a ≡ true → flushes f s
    ≡ true
unfolding flushes
clears_flushes Whole s d a m c = refl
clears_flushes (OfDomain e) s d a m c = let (h, _) = match_place s d a m in rw (eqb-true d e c) at h
clears_flushes (OfRegion e r) s d a m c =
    let (x, y) = both_true _ _ c in
    let (h, i) = match_place s d a m in
    let k : holds_for s e ≡ true = rw (eqb-true d e x) at h in
    rw (k, byte_meets s r a y i)
