-- Laws of a bit set and a right replaced inside a word: they take effect, they leave the others as they were, and the
-- word still fits.
use Prim.Native.Nat.{ℕ, zero, suc, ◌+◌, ◌*◌, ◌/◌, ◌%◌, ◌^◌, ◌≤◌, ◌<◌}
use mathlib.Core.Path.{◌≡◌, refl, sym, ap, ◌∙◌}
use native.Mathlib.Omega.{arith}
use native.Mathlib.Nat.{zero-mul, one-mul, mul_left_comm, pow-succ', mod-le, div-mul-le_self, mul-le-mul_right}
use lib.Dec.{eqb}
use borrow.Author.Tests.{eqb-true, eqb-false}
use Rattle.std.specs.Int.{bit_at}
use Rattle.std.specs.Int.Bits.{bit_and, bit_or, or_add_and}
use Rattle.std.proofs.lemmas.Nat.Bits.{and_pow, bit_at-lt, bit_at_or, bit_at-pow_same, bit_at-pow_other}
use Rattle.std.proofs.lemmas.Nat.{shl_whole}
use Rattle.words.specs.Rights.{right_at}
use Rattle.words.proofs.RightsLaws.{right_quarter}
use Rattle.owners.specs.Calls.{with_bit, with_right}
use Rattle.theory.proofs.Logic.{by_cases}

-- A bit is set by `|`: where it is set already nothing changes, and else its value is added.
pub or_bit : (g k : ℕ) → bit_or g (2 ^ k) ≡ with_bit g k
or_bit g k =
    let sum = or_add_and g (2 ^ k) in
    let there = and_pow g k in
    by_cases (eqb (bit_at g k) 1)
    (λ e. rw e (let h = eqb-true (bit_at g k) 1 e in
    let t : bit_and g (2 ^ k) ≡ 2 ^ k = there ∙ ap (λ b. b * 2 ^ k) h ∙ one-mul (2 ^ k) in omega arith))
    (λ e. rw e (let n = eqb-false (bit_at g k) 1 e in
    let z : bit_at g k ≡ 0 = omega (arith, bit_at-lt g k) in
    let t : bit_and g (2 ^ k) ≡ 0 = there ∙ ap (λ b. b * 2 ^ k) z ∙ zero-mul (2 ^ k) in omega arith))

pub with_bit_set : (g k : ℕ) → bit_at (with_bit g k) k ≡ 1
with_bit_set g k = ap (λ x. bit_at x k) (sym (or_bit g k))
    ∙ omega (arith, bit_at_or g (2 ^ k) k, bit_at-pow_same k, bit_at-lt g k)

pub with_bit_other : (g k j : ℕ) → (j ≡ k → ⊥) → bit_at (with_bit g k) j ≡ bit_at g j
with_bit_other g k j n = ap (λ x. bit_at x j) (sym (or_bit g k))
    ∙ omega (arith, bit_at_or g (2 ^ k) j, bit_at-pow_other k j n)

four : (n : ℕ) → 2 ^ (2 * suc n) ≡ 4 * 2 ^ (2 * n)
four n =
    let e : 2 * suc n ≡ suc (suc (2 * n)) = omega arith in
    let p = pow-succ' 2 (suc (2 * n)) in
    let q = pow-succ' 2 (2 * n) in
    ap (λ x. 2 ^ x) e ∙ omega arith

times_four : (t n : ℕ) → t * 2 ^ (2 * suc n) ≡ 4 * (t * 2 ^ (2 * n))
times_four t n = ap (λ y. t * y) (four n) ∙ mul_left_comm t 4 (2 ^ (2 * n))

-- The right that is taken out is there.
pub right_there : (w k : ℕ) → right_at w k * 2 ^ (2 * k) ≤ w
right_there w k =
    let p = mul-le-mul_right (2 ^ (2 * k)) (mod-le (w / 2 ^ (2 * k)) 4) in
    let q = div-mul-le_self w (2 ^ (2 * k)) in
    omega arith

-- The word `x` is `w` with the right `q` in place `k`.
abbrev Replaced : ℕ → ℕ → ℕ → ℕ → Type 0
Replaced w x k q = x + right_at w k * 2 ^ (2 * k) ≡ w + q * 2 ^ (2 * k)

replaced_quarter : (w x k q : ℕ) → Replaced w x (suc k) q → Replaced (w / 4) (x / 4) k q × (x % 4 ≡ w % 4)
replaced_quarter w x k q e =
    let r : right_at (w / 4) k ≡ right_at w (suc k) = right_quarter w k in
    let a : right_at w (suc k) * 2 ^ (2 * suc k) ≡ 4 * (right_at (w / 4) k * 2 ^ (2 * k)) =
    times_four (right_at w (suc k)) k ∙ ap (λ t. 4 * (t * 2 ^ (2 * k))) (sym r) in
    let b = times_four q k in
    (quarter _ _ _ _ w x a b e, same _ _ _ _ w x a b e)
  where
    quarter : (P Q A B w x : ℕ) → P ≡ 4 * A → Q ≡ 4 * B → x + P ≡ w + Q → x / 4 + A ≡ w / 4 + B
    quarter P Q A B w x a b e = omega arith

    same : (P Q A B w x : ℕ) → P ≡ 4 * A → Q ≡ 4 * B → x + P ≡ w + Q → x % 4 ≡ w % 4
    same P Q A B w x a b e = omega arith

replaced_fits : (n k w x q : ℕ) → k < n → q < 4 → w < 2 ^ (2 * n) → Replaced w x k q → x < 2 ^ (2 * n)
replaced_fits zero k w x q h l b e = absurd (omega arith)
replaced_fits (suc n) zero w x q h l b e = let f = four n in omega arith
replaced_fits (suc n) (suc k) w x q h l b e =
    let f = four n in
    let p = replaced_quarter w x k q e in
    let i = replaced_fits n k (w / 4) (x / 4) q (omega arith) l (omega arith) p.0 in
    omega arith

replaced_here : (k w x q : ℕ) → q < 4 → Replaced w x k q → right_at x k ≡ q
replaced_here zero w x q l e = omega arith
replaced_here (suc k) w x q l e =
    sym (right_quarter x k) ∙ replaced_here k (w / 4) (x / 4) q l (replaced_quarter w x k q e).0

replaced_other : (k j w x q : ℕ) → (j ≡ k → ⊥) → q < 4 → Replaced w x k q → right_at x j ≡ right_at w j
replaced_other zero zero w x q n l e = absurd (n refl)
replaced_other zero (suc j) w x q n l e =
    let d : x / 4 ≡ w / 4 = omega arith in
    sym (right_quarter x j) ∙ ap (λ y. right_at y j) d ∙ right_quarter w j
replaced_other (suc k) zero w x q n l e = let p = (replaced_quarter w x k q e).1 in omega arith
replaced_other (suc k) (suc j) w x q n l e =
    sym (right_quarter x j)
    ∙ replaced_other k j (w / 4) (x / 4) q (λ z. n (ap suc z)) l (replaced_quarter w x k q e).0 ∙ right_quarter w j

with_right_replaced : (w k q : ℕ) → Replaced w (with_right w k q) k q
with_right_replaced w k q = let t = right_there w k in omega arith

pub right_fits : (w k q : ℕ) → k < 16 → q < 4 → w < 4294967296 → with_right w k q < 4294967296
right_fits w k q h l b = replaced_fits 16 k w (with_right w k q) q h l b (with_right_replaced w k q)

pub with_right_here : (w k q : ℕ) → q < 4 → right_at (with_right w k q) k ≡ q
with_right_here w k q l = replaced_here k w (with_right w k q) q l (with_right_replaced w k q)

pub with_right_other : (w k j q : ℕ) → (j ≡ k → ⊥) → q < 4 → right_at (with_right w k q) j ≡ right_at w j
with_right_other w k j q n l = replaced_other k j w (with_right w k q) q n l (with_right_replaced w k q)

-- A right shifted to its place loses no bit in a word of 32.
pub shifted_right : (k q : ℕ) → k < 16 → q < 4 → q * 2 ^ (2 * k) % 4294967296 ≡ q * 2 ^ (2 * k)
shifted_right k q h l = shl_whole q 2 (2 * k) 32 l (omega arith)
