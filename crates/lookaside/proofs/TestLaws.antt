-- Laws of tests, and of rounding a number down to a multiple of another. Assumes nothing.
use Prim.Native.Nat.{ℕ, ◌+◌, ◌*◌, ◌/◌, ◌%◌, ◌≤◌, ◌<◌}
use mathlib.Core.Path.{◌≡◌, refl, sym, ap, ◌∙◌}
use mathlib.Core.Logic.{◌⊎◌, inl, inr}
use mathlib.Core.Bool.{Bool, true, false, ◌&&◌, not, false≢true}
use native.Mathlib.Omega.{arith}
use native.Mathlib.Nat.{div-add-mod', div-mul-le_self, lt-div-mul-add, mul-mod_left, div-eq_of_lt-le, add-mul, one-mul}
use lib.Dec.{eqb, leb, ltb}
use borrow.Author.Tests.{eqb-true, leb-true, ltb-true, eq-eqb, le-leb, lt-ltb}

-- Tests.

pub both_true : (x y : Bool) → (x && y) ≡ true → (x ≡ true) × (y ≡ true)
both_true true y h = (refl, h)
both_true false y h = absurd (false≢true h)

-- Two tests that hold together are one.
pub test_same : (x y : Bool) → (x ≡ true → y ≡ true) → (y ≡ true → x ≡ true) → x ≡ y
test_same true y f g = sym (f refl)
test_same false true f g = g refl
test_same false false f g = refl

-- What is not in the one set without the other is not in the one or in the other.
pub less_false : (x y : Bool) → (x && not y) ≡ false → (x ≡ false) ⊎ (y ≡ true)
less_false true true h = inr refl
less_false true false h = absurd (false≢true (sym h))
less_false false y h = inl refl

-- Which multiple of `n` lies at most `n - 1` below `a`.
pub round_count : (n q a : ℕ) → q * n ≤ a → a < q * n + n → a / n ≡ q
round_count n q a lo hi =
    let f : (q + 1) * n ≡ q * n + n = add-mul q 1 n ∙ ap (λ y. q * n + y) (one-mul n) in
    div-eq_of_lt-le {k = q} n {m = a} lo (omega arith)

module _ (n : ℕ) (some : 0 < n) where
  round_only : (x a : ℕ) → x % n ≡ 0 → x ≤ a → a < x + n → a / n * n ≡ x
  round_only x a m lo hi =
      let e : x / n * n ≡ x = omega (arith, div-add-mod' x n) in
      ap (λ q. q * n) (round_count n (x / n) a (omega arith) (omega arith)) ∙ e

  -- A number is a multiple where rounding it changes nothing.
  pub round_self : (x : ℕ) → eqb (x / n * n) x ≡ eqb (x % n) 0
  round_self x = test_same _ _
      (λ h. eq-eqb (x % n) 0 (omega (arith, div-add-mod' x n, eqb-true (x / n * n) x h)))
      (λ h. eq-eqb (x / n * n) x (omega (arith, div-add-mod' x n, eqb-true (x % n) 0 h)))

  -- `a` lies in the aligned block at `x` where it is rounded down to `x`.
  pub round_block : (x a : ℕ) → (eqb (x % n) 0 && (leb x a && ltb a (x + n))) ≡ eqb (a / n * n) x
  round_block x a = test_same _ _ there back
    where
      there : (eqb (x % n) 0 && (leb x a && ltb a (x + n))) ≡ true → eqb (a / n * n) x ≡ true
      there h =
          let (m, k) = both_true _ _ h in
          let (lo, hi) = both_true _ _ k in
          eq-eqb (a / n * n) x (round_only x a (eqb-true _ _ m) (leb-true _ _ lo) (ltb-true _ _ hi))

      back : eqb (a / n * n) x ≡ true → (eqb (x % n) 0 && (leb x a && ltb a (x + n))) ≡ true
      back h =
          let e : a / n * n ≡ x = eqb-true _ _ h in
          let m : x % n ≡ 0 = ap (λ y. y % n) (sym e) ∙ mul-mod_left (a / n) n in
          let lo : x ≤ a = omega (arith, div-mul-le_self a n) in
          let hi : a < x + n = omega (arith, lt-div-mul-add {a = a} some) in
          rw (eq-eqb (x % n) 0 m, le-leb x a lo, lt-ltb a (x + n) hi)
