-- Where the rights of a word turn, told by its bits: a place of the word of turns is 1 where the next right is another,
-- and the zeros at either end of a word tell its first and its last place that is not 0. Assumes nothing.
use Prim.Native.Nat.{ℕ, zero, suc, ◌+◌, ◌-◌, ◌*◌, ◌/◌, ◌%◌, ◌^◌, ◌≤◌, ◌<◌}
use mathlib.Core.Path.{◌≡◌, refl, sym, ap, ap₂, ◌∙◌}
use mathlib.Core.Logic.{◌≢◌}
use mathlib.Core.Bool.{cond}
use native.Mathlib.Omega.{arith}
use native.Mathlib.Decide.{ℕ_discrete, dec_lt}
use native.Mathlib.Nat.{div-div-eq-div-mul, mul_comm, one-mul, div-eq_of_lt, lt_of_lt_of_le, le_trans, mod-lt}
use lib.Dec.{eqb}
use borrow.Author.Tests.{eq-eqb, ne_eqb}
use lib.Pow.{pow-add, pow_pos, pow_mono, field, mod-mod-pow, shr_lt, shr_mono, shl-shr}
use lib.Bits.{bit_and, bit_or, bit_xor, and_mask, and_shr, and_mod, or_shr, or_mod, xor_shr, xor_mod}
use lib.Count.{under, count_trailing_zeros, trailing_le, count_leading_zeros, leading_top, leading_of_zero}
use Rattle.words.specs.Rights.{right_at, sixteen_of}
use Rattle.words.specs.Stretches.{Longest}
use Rattle.words.proofs.RightsLaws.{right_quarter, right_small, sixteen_right}
use Rattle.words.proofs.StretchLaws.{turn_to_turn}

-- The places of a word that is made bit by bit.
and_right : (a b i : ℕ) → right_at (bit_and a b) i ≡ bit_and (right_at a i) (right_at b i)
and_right a b i = ap (λ x. x % 4) (and_shr a b (2 * i)) ∙ and_mod (a / 2 ^ (2 * i)) (b / 2 ^ (2 * i)) 2

or_right : (a b i : ℕ) → right_at (bit_or a b) i ≡ bit_or (right_at a i) (right_at b i)
or_right a b i = ap (λ x. x % 4) (or_shr a b (2 * i)) ∙ or_mod (a / 2 ^ (2 * i)) (b / 2 ^ (2 * i)) 2

xor_right : (a b i : ℕ) → right_at (bit_xor a b) i ≡ bit_xor (right_at a i) (right_at b i)
xor_right a b i = ap (λ x. x % 4) (xor_shr a b (2 * i)) ∙ xor_mod (a / 2 ^ (2 * i)) (b / 2 ^ (2 * i)) 2

-- A test of two rights, by trying all.
four : (P : ℕ → Type 0) → P 0 → P 1 → P 2 → P 3 → (x : ℕ) → x < 4 → P x
four P a b c d zero h = a
four P a b c d (suc zero) h = b
four P a b c d (suc (suc zero)) h = c
four P a b c d (suc (suc (suc zero))) h = d
four P a b c d (suc (suc (suc (suc x)))) h = absurd (omega arith)

-- Two rights differ in one of their two bits, or are the same.
abbrev Differs : ℕ → ℕ → Type 0
Differs x y = bit_or (bit_xor x y % 2) (bit_xor x y / 2 % 2) ≡ cond (eqb x y) 0 1

differs : (x y : ℕ) → x < 4 → y < 4 → Differs x y
differs x y hx hy = four (λ x. Differs x y)
    (four (Differs 0) refl refl refl refl y hy)
    (four (Differs 1) refl refl refl refl y hy)
    (four (Differs 2) refl refl refl refl y hy)
    (four (Differs 3) refl refl refl refl y hy) x hx

-- The half of a word: bit 1 of a place has become its bit 0.
half_right : (v i : ℕ) → right_at (v / 2) i % 2 ≡ right_at v i / 2 % 2
half_right v i =
    let u = v / 2 ^ (2 * i) in
    let e : v / 2 / 2 ^ (2 * i) ≡ u / 2 =
    div-div-eq-div-mul v 2 (2 ^ (2 * i)) ∙ ap (λ x. v / x) (mul_comm 2 (2 ^ (2 * i)))
    ∙ sym (div-div-eq-div-mul v (2 ^ (2 * i)) 2) in
    ap (λ x. x % 4 % 2) e ∙ shift u
  where
    shift : (u : ℕ) → u / 2 % 4 % 2 ≡ u % 4 / 2 % 2
    shift u = omega arith

-- The word of turns.
pub turn_right : (w i : ℕ) → i < 16
    → right_at (bit_and (bit_or (bit_xor w (w / 4)) (bit_xor w (w / 4) / 2)) (sixteen_of 1)) i
    ≡ cond (eqb (right_at w i) (right_at w (suc i))) 0 1
turn_right w i h =
    let v = bit_xor w (w / 4) in
    let p = right_at v i in
    let q : p ≡ bit_xor (right_at w i) (right_at w (suc i)) =
    xor_right w (w / 4) i ∙ ap (bit_xor (right_at w i)) (right_quarter w i) in
    and_right (bit_or v (v / 2)) (sixteen_of 1) i
    ∙ ap₂ bit_and (or_right v (v / 2) i) (sixteen_right 1 i (omega arith) h)
    ∙ and_mask (bit_or p (right_at (v / 2) i)) 1
    ∙ or_mod p (right_at (v / 2) i) 1
    ∙ ap (bit_or (p % 2)) (half_right v i)
    ∙ ap (λ x. bit_or (x % 2) (x / 2 % 2)) q
    ∙ differs (right_at w i) (right_at w (suc i)) (right_small w i) (right_small w (suc i))

-- Zeros from below: places 0 up to half their number are 0, and the next is not.

zeros_step : (n m : ℕ) → count_trailing_zeros (2 * suc n) m
    ≡ under (m % 2) (under (m / 2 % 2) (count_trailing_zeros (2 * n) (m / 2 / 2)))
unfolding count_trailing_zeros
zeros_step n m = ap (λ k. count_trailing_zeros k m) two
  where
    two : 2 * suc n ≡ suc (suc (2 * n))
    two = omega arith

zeros_on : (n m : ℕ) → m % 4 ≡ 0 → count_trailing_zeros (2 * suc n) m ≡ suc (suc (count_trailing_zeros (2 * n) (m / 4)))
zeros_on n m e =
    let c : m / 2 / 2 ≡ m / 4 = div-div-eq-div-mul m 2 2 in
    let a : m % 2 ≡ 0 = omega arith in
    let b : m / 2 % 2 ≡ 0 = omega arith in
    zeros_step n m ∙ rw (a, b, c) refl

under_some : (d t : ℕ) → 0 < d → under d t ≡ 0
under_some zero t h = absurd (omega arith)
under_some (suc d) t h = refl

zeros_end : (n m : ℕ) → m % 4 ≢ 0 → count_trailing_zeros (2 * suc n) m / 2 ≡ 0
zeros_end n m e = elim (ℕ_discrete (m % 2) 0) [
  | yes a ↦
      let t = count_trailing_zeros (2 * n) (m / 2 / 2) in
      let z : under (m % 2) (under (m / 2 % 2) t) ≡ 1 = rw a (ap suc (under_some (m / 2 % 2) t (omega arith))) in
      ap (λ x. x / 2) (zeros_step n m ∙ z)
  | no a ↦ ap (λ x. x / 2) (zeros_step n m ∙ under_some (m % 2) _ (omega arith))
]

pub none_below : (n m j : ℕ) → j < count_trailing_zeros (2 * n) m / 2 → right_at m j ≡ 0
none_below zero m j h = absurd (omega (arith, trailing_le 0 m))
none_below (suc n) m j h = elim (ℕ_discrete (m % 4) 0) [
  | yes e ↦ on j (none_below n (m / 4)) (rw (zeros_on n m e) at h) e
  | no e ↦ let z = zeros_end n m e in absurd (omega arith)
]
  where
    on : (j : ℕ) → ((k : ℕ) → k < count_trailing_zeros (2 * n) (m / 4) / 2 → right_at (m / 4) k ≡ 0)
        → j < suc (suc (count_trailing_zeros (2 * n) (m / 4))) / 2 → m % 4 ≡ 0 → right_at m j ≡ 0
    on zero below h e = omega arith
    on (suc j) below h e = sym (right_quarter m j) ∙ below j (omega arith)

pub some_next : (n m : ℕ) → count_trailing_zeros (2 * n) m / 2 < n → right_at m (count_trailing_zeros (2 * n) m / 2) ≢ 0
some_next zero m h = absurd (omega arith)
some_next (suc n) m h = elim (ℕ_discrete (m % 4) 0) [
  | yes e ↦
      let t = count_trailing_zeros (2 * n) (m / 4) in
      let z = zeros_on n m e in
      let y : count_trailing_zeros (2 * suc n) m / 2 ≡ suc (t / 2) = omega arith in
      λ q. some_next n (m / 4) (omega arith) (right_quarter m (t / 2) ∙ ap (right_at m) (sym y) ∙ q)
  | no e ↦
      let z = zeros_end n m e in
      λ q. let x : right_at m 0 ≡ 0 = ap (right_at m) (sym z) ∙ q in e (omega arith)
]

-- Zeros from above: the places from some number on are 0, and the one before it is not.
pub record Topped (b n : ℕ) : Type 0 where
  pub none : (k : ℕ) → n ≤ k → right_at b k ≡ 0
  pub some : 0 < n → right_at b (n - 1) ≢ 0

pub topped : (b : ℕ) → b < 4294967296 → Topped b ((33 - count_leading_zeros 32 b) / 2)
topped zero h = rw (leading_of_zero 32) (record {
  none = λ k lo. ap (λ x. x % 4) (div-eq_of_lt (pow_pos (2 * k)));
  some = λ lo. absurd (omega arith);
})
topped (suc b) h =
    let (j, e, lo, hi) = leading_top 32 (suc b) (omega arith) h in
    let n : (33 - count_leading_zeros 32 (suc b)) / 2 ≡ suc (j / 2) = omega arith in
    rw n (record {
      none = λ k le. above k j (omega arith) hi;
      some = λ le q. at j lo hi q;
    })
  where
    above : (k j : ℕ) → suc j ≤ 2 * k → suc b < 2 ^ suc j → right_at (suc b) k ≡ 0
    above k j le hi = ap (λ x. x % 4) (div-eq_of_lt (lt_of_lt_of_le hi (pow_mono le)))

    at : (j : ℕ) → 2 ^ j ≤ suc b → suc b < 2 ^ suc j → right_at (suc b) (suc (j / 2) - 1) ≢ 0
    at j lo hi q =
        let k = 2 * (j / 2) in
        let small : suc b / 2 ^ k < 4 = shr_lt 2 k (lt_of_lt_of_le hi (pow_mono (omega arith))) in
        let some : 2 ^ k / 2 ^ k ≤ suc b / 2 ^ k = shr_mono k (le_trans (pow_mono (omega arith)) lo) in
        let one : 2 ^ k / 2 ^ k ≡ 1 = ap (λ x. x / 2 ^ k) (sym (one-mul (2 ^ k))) ∙ shl-shr 1 k in
        let z : suc (j / 2) - 1 ≡ j / 2 = omega arith in
        let y : suc b / 2 ^ k % 4 ≡ 0 = ap (right_at (suc b)) (sym z) ∙ q in
        omega arith

-- The places of a part of a word.

pub right_on : (m i j : ℕ) → right_at (m / 2 ^ (2 * i)) j ≡ right_at m (i + j)
right_on m i j =
    ap (λ x. x % 4) (div-div-eq-div-mul m (2 ^ (2 * i)) (2 ^ (2 * j))
    ∙ ap (λ x. m / x) (sym (pow-add 2 (2 * i) (2 * j)) ∙ ap (λ n. 2 ^ n) two))
  where
    two : 2 * i + 2 * j ≡ 2 * (i + j)
    two = omega arith

pub right_in : (m i k : ℕ) → k < i → right_at (m % 2 ^ (2 * i)) k ≡ right_at m k
right_in m i k h =
    let n = 2 * i - 2 * k - 2 in
    let whole : 2 * i ≡ (n + 2) + 2 * k = omega arith in
    ap (λ x. m % 2 ^ x / 2 ^ (2 * k) % 4) whole
    ∙ ap (λ x. x % 4) (field m (n + 2) (2 * k))
    ∙ mod-mod-pow (m / 2 ^ (2 * k)) n 2

pub right_past : (m i k : ℕ) → i ≤ k → right_at (m % 2 ^ (2 * i)) k ≡ 0
right_past m i k h =
    ap (λ x. x % 4) (div-eq_of_lt (lt_of_lt_of_le (mod-lt m (pow_pos (2 * i))) (pow_mono (omega arith))))

-- The longest stretch around place `i` of the first `parts`, by a word `t` of turns.
module _ (w t parts i : ℕ) (turns : (j : ℕ) → j < 16 → right_at t j ≡ cond (eqb (right_at w j) (right_at w (suc j))) 0 1)
    (inside : i < parts) (few : parts ≤ 16) where
  goes_on : (j : ℕ) → j < 16 → right_at t j ≡ 0 → right_at w j ≡ right_at w (suc j)
  goes_on j h z = elim (ℕ_discrete (right_at w j) (right_at w (suc j))) [
    | yes e ↦ e
    | no e ↦
        let y : ◌≡◌ {A = ℕ} 1 0 = sym (turns j h ∙ rw (ne_eqb (right_at w j) (right_at w (suc j)) e)) ∙ z in
        absurd (omega arith)
  ]

  turns_there : (j : ℕ) → j < 16 → right_at t j ≢ 0 → right_at w j ≢ right_at w (suc j)
  turns_there j h n e = n (turns j h ∙ rw (eq-eqb (right_at w j) (right_at w (suc j)) e))

  abbrev before : ℕ
  before = t % 2 ^ (2 * i)

  abbrev first : ℕ
  first = (33 - count_leading_zeros 32 before) / 2

  abbrev alike : ℕ
  alike = count_trailing_zeros 32 (t / 2 ^ (2 * i)) / 2

  before_topped : Topped before first
  before_topped = topped before (lt_of_lt_of_le (mod-lt t (pow_pos (2 * i))) (pow_mono {j = 32} (omega arith)))

  first_below : first ≤ i
  first_below = elim (dec_lt i first) [
    | yes h ↦ absurd (before_topped.some (omega arith) (right_past t i (first - 1) (omega arith)))
    | no h ↦ omega arith
  ]

  no_turn_before : (k : ℕ) → first ≤ k → k < i → right_at w k ≡ right_at w (suc k)
  no_turn_before k lo hi = goes_on k (omega arith) (sym (right_in t i k hi) ∙ before_topped.none k lo)

  turn_before : 0 < first → right_at w (first - 1) ≢ right_at w first
  turn_before lo =
      let b = first_below in
      let z : suc (first - 1) ≡ first = omega arith in
      λ e. turns_there (first - 1) (omega arith)
      (λ q. before_topped.some lo (right_in t i (first - 1) (omega arith) ∙ q)) (e ∙ ap (right_at w) (sym z))

  pub stretch_found : (last : ℕ) → i ≤ last → last < parts → last ≤ i + alike → (last + 1 < parts → last ≡ i + alike)
      → Longest (right_at w) 0 parts i first last
  stretch_found last lo hi le stop =
      turn_to_turn (right_at w) 0 parts i first last (omega arith) first_below lo hi
      (λ k a b. elim (dec_lt k i) [
        | yes h ↦ no_turn_before k a h
        | no h ↦
            let z : i + (k - i) ≡ k = omega arith in
            goes_on k (omega arith) (ap (right_at t) (sym z) ∙ sym (right_on t i (k - i))
            ∙ none_below 16 (t / 2 ^ (2 * i)) (k - i) (omega arith))
      ])
      turn_before
      (λ h e.
      let z = stop h in
      let y : last + 1 ≡ suc last = omega arith in
      turns_there last (omega arith)
      (λ q. some_next 16 (t / 2 ^ (2 * i)) (omega arith) (right_on t i alike ∙ ap (right_at t) (sym z) ∙ q))
      (e ∙ ap (right_at w) y))
