-- Laws of packing: rights packed from the first one up, a word as its own rights packed, and a word that is painted
-- in part.
use Prim.Native.Nat.{ℕ, zero, suc, ◌+◌, ◌*◌, ◌-◌, ◌/◌, ◌%◌, ◌^◌, ◌≤◌, ◌<◌}
use mathlib.Core.Path.{◌≡◌, refl, sym, ap, ◌∙◌}
use mathlib.Core.Bool.{true}
use native.Mathlib.Omega.{arith}
use native.Mathlib.Nat.{mod-eq_of_lt, mod-le}
use lib.Pow.{pow-add, mod-pow-add}
use borrow.Author.Tests.{eqb-true}
use Rattle.words.specs.Rights.{right_at, good_rights, pack}
use Rattle.words.proofs.RightsLaws.{right_small, good_digits_equal, pack_digit, pack_range, pack_good}
use Rattle.words.proofs.RightsLaws.{pack_same}
use Rattle.theory.proofs.Logic.{and_both}

-- One right more makes the place of the next worth four times as much.
pub times_four : (t n : ℕ) → t * 2 ^ (2 * suc n) ≡ 4 * (t * 2 ^ (2 * n))
times_four t n =
    let e : 2 * suc n ≡ 2 + 2 * n = omega arith in
    let m : (x : ℕ) → t * (4 * x) ≡ 4 * (t * x) = λ x. omega arith in
    ap (λ k. t * 2 ^ k) e ∙ ap (λ x. t * x) (pow-add 2 2 (2 * n)) ∙ m (2 ^ (2 * n))

-- What stands above the rights adds to them ..
pub pack_above : (top n : ℕ) (f : ℕ → ℕ) → pack top n f ≡ pack 0 n f + top * 2 ^ (2 * n)
unfolding pack
pack_above top zero f = omega arith
pack_above top (suc n) f =
    let q = pack_above top n (λ i. f (suc i)) in
    let z = times_four top n in
    omega arith

-- .. as the last right does.
pub pack_more : (n : ℕ) (f : ℕ → ℕ) → pack 0 (suc n) f ≡ pack 0 n f + f n * 2 ^ (2 * n)
unfolding pack
pack_more n f = last n f ∙ pack_above (f n) n f
  where
    last : (n : ℕ) (f : ℕ → ℕ) → pack 0 (suc n) f ≡ pack (f n) n f
    last zero f = omega arith
    last (suc n) f = ap (λ x. f 0 + 4 * x) (last n (λ i. f (suc i)))

-- A stretch of `d` rights from number `a` on.
module _ (a : ℕ) (f : ℕ → ℕ) where
  -- It takes nothing away.
  pack_grows : (d : ℕ) → pack 0 a f ≤ pack 0 (a + d) f
  pack_grows zero = let z : a + 0 ≡ a = omega arith in rw z (omega arith)
  pack_grows (suc d) =
      let z : a + suc d ≡ suc (a + d) = omega arith in
      let q = pack_grows d in
      rw z (omega (arith, pack_more (a + d) f))

  -- It adds the same to whatever is packed before it.
  pack_stretch : (g : ℕ → ℕ) (d : ℕ) → ((k : ℕ) → a ≤ k → k < a + d → f k ≡ g k)
      → pack 0 (a + d) f + pack 0 a g ≡ pack 0 a f + pack 0 (a + d) g
  pack_stretch g zero e = let z : a + 0 ≡ a = omega arith in rw z refl
  pack_stretch g (suc d) e =
      let z : a + suc d ≡ suc (a + d) = omega arith in
      let q = pack_stretch g d (λ k l m. e k l (omega arith)) in
      let s = ap (λ x. x * 2 ^ (2 * (a + d))) (e (a + d) (omega arith) (omega arith)) in
      rw z (omega (arith, pack_more (a + d) f, pack_more (a + d) g))

-- The low bits of a word are its first rights packed ..
low_packed : (w n : ℕ) → w % 2 ^ (2 * n) ≡ pack 0 n (right_at w)
unfolding pack
low_packed w zero = omega arith
low_packed w (suc n) =
    let e : 2 * suc n ≡ 2 + 2 * n = omega arith in
    let q = low_packed w n in
    let m = mod-pow-add w 2 (2 * n) in
    ap (λ k. w % 2 ^ k) e ∙ omega (arith, pack_more n (right_at w))

-- .. and a word is its rights packed.
pub leaf_packed : (w : ℕ) → w < 4294967296 → w ≡ pack 0 16 (right_at w)
leaf_packed w h = sym (mod-eq_of_lt h) ∙ low_packed w 16

pub eight_packed : (e : ℕ) → good_rights e ≡ true → e ≡ pack 32768 8 (right_at e)
eight_packed e g =
    let z = eqb-true (e / 2147483648) 1 (and_both _ _ g).0 in
    let small : (j : ℕ) → j < 8 → right_at e j < 4 = λ j l. right_small e j in
    let r = pack_range 32768 8 (right_at e) small in
    good_digits_equal e (pack 32768 8 (right_at e)) (omega arith) (omega arith) g (pack_good (right_at e) small)
    (λ i l. sym (pack_digit 32768 8 i (right_at e) small l))

-- More of the low bits are no less.
pub low_grows : (w a b : ℕ) → a ≤ b → w % 2 ^ (2 * a) ≤ w % 2 ^ (2 * b)
low_grows w a b l =
    let z : a + (b - a) ≡ b = omega arith in
    let q : pack 0 a (right_at w) ≤ pack 0 b (right_at w) = rw z at (pack_grows a (right_at w) (b - a)) in
    omega (arith, low_packed w a, low_packed w b)

-- Where the rights `g` are those of `w` before number `a` and from `b` on, and those of `x` between, they are packed
-- as these low bits.
pub parted_packed : (w x a b : ℕ) (g : ℕ → ℕ) → w < 4294967296 → a ≤ b → b ≤ 16
    → ((k : ℕ) → k < a → g k ≡ right_at w k) → ((k : ℕ) → a ≤ k → k < b → g k ≡ right_at x k)
    → ((k : ℕ) → b ≤ k → k < 16 → g k ≡ right_at w k)
    → w % 2 ^ (2 * a) + (x % 2 ^ (2 * b) - x % 2 ^ (2 * a)) + (w - w % 2 ^ (2 * b)) ≡ pack 0 16 g
parted_packed w x a b g small up upto before between after =
    let y : a + (b - a) ≡ b = omega arith in
    let z : b + (16 - b) ≡ 16 = omega arith in
    let p : pack 0 a g ≡ pack 0 a (right_at w) = pack_same 0 a g (right_at w) before in
    let q : pack 0 b g + pack 0 a (right_at x) ≡ pack 0 a g + pack 0 b (right_at x) =
    rw y at (pack_stretch a g (right_at x) (b - a) (λ k l m. between k l (omega arith))) in
    let r : pack 0 16 g + pack 0 b (right_at w) ≡ pack 0 b g + pack 0 16 (right_at w) =
    rw z at (pack_stretch b g (right_at w) (16 - b) (λ k l m. after k l (omega arith))) in
    let s = low_grows x a b up in
    let t = mod-le w (2 ^ (2 * b)) in
    omega (arith, leaf_packed w small, low_packed w a, low_packed w b, low_packed x a, low_packed x b)
