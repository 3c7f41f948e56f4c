-- Digits, their tests and the number that they write.
use Prim.Native.Nat.{ℕ, ◌+◌, ◌*◌, ◌-◌, ◌≤◌}
use native.Mathlib.Omega.{arith}
use mathlib.Core.Bool.{Bool, true, false, ◌&&◌}
use mathlib.Core.Path.{◌≡◌, refl}
use mathlib.Core.List.{List, [], ◌∷◌}
use lib.Dec.{leb}
use borrow.Author.Tests.{leb-true, le-leb}
use Rattle.lines.specs.Forms.{Digits, value_on, value_of, Number, is_digit, all_digits, is_number}

-- ---- Tests joined by `&&`

pub and_true : {a b : Bool} → a ≡ true → b ≡ true → (a && b) ≡ true
and_true p q = rw (p, q)

pub and_left : (a b : Bool) → (a && b) ≡ true → a ≡ true
and_left true b e = refl
and_left false b e = e

pub and_right : (a b : Bool) → (a && b) ≡ true → b ≡ true
and_right true b e = e
and_right false b e = let z : ◌≡◌ {A = ℕ} 0 1 = cc in absurd (omega arith)

pub false_true : {b : Bool} → b ≡ false → b ≡ true → ⊥
false_true e f = let z : ◌≡◌ {A = ℕ} 0 1 = cc in omega arith

-- ---- A digit

pub digit_bounds : (b : ℕ) → is_digit b ≡ true → (48 ≤ b) × (b ≤ 57)
unfolding is_digit
digit_bounds b e = (leb-true 48 b (and_left (leb 48 b) (leb b 57) e), leb-true b 57 (and_right (leb 48 b) (leb b 57) e))

pub bounds_digit : (b : ℕ) → 48 ≤ b → b ≤ 57 → is_digit b ≡ true
unfolding is_digit
bounds_digit b p q = and_true (le-leb 48 b p) (le-leb b 57 q)

-- ---- A number

pub value_at_least : (v : ℕ) (ds : List ℕ) → v ≤ value_on v ds
unfolding value_on
value_at_least v [] = omega arith
value_at_least v (b ∷ ds) = omega (arith, value_at_least (v * 10 + (b - 48)) ds)

pub digits_all : (ds : List ℕ) → Digits ds → all_digits ds ≡ true
unfolding Digits all_digits
digits_all [] h = refl
digits_all (b ∷ ds) h = and_true (bounds_digit b h.0.0 h.0.1) (digits_all ds h.1)

pub all_digits_lem : (ds : List ℕ) → all_digits ds ≡ true → Digits ds
unfolding Digits all_digits
all_digits_lem [] e = tt
all_digits_lem (b ∷ ds) e = (
  digit_bounds b (and_left (is_digit b) (all_digits ds) e),
  all_digits_lem ds
      (and_right (is_digit b) (all_digits ds) e),
)

pub number_is : (ds : List ℕ) (v : ℕ) → Number ds v → is_number ds ≡ true
unfolding is_number
number_is [] v n = absurd (omega (arith, n.some))
number_is (b ∷ ds) v n =
    let most : value_of (b ∷ ds) ≤ 4294967295 = omega (arith, n.most, n.value) in
    and_true (digits_all (b ∷ ds) n.digits) (le-leb (value_of (b ∷ ds)) 4294967295 most)

pub is_number_lem : (ds : List ℕ) → is_number ds ≡ true → Number ds (value_of ds)
unfolding is_number
is_number_lem [] e = absurd (false_true refl e)
is_number_lem (b ∷ ds) e =
    record {
      some = omega arith;
      digits = all_digits_lem (b ∷ ds) (and_left (all_digits (b ∷ ds)) (leb (value_of (b ∷ ds)) 4294967295) e);
      value = refl;
      most = leb-true (value_of (b ∷ ds)) 4294967295
          (and_right (all_digits (b ∷ ds)) (leb (value_of (b ∷ ds)) 4294967295) e);
    }
