-- Laws of the rights inside a word: packed rights are read back, and a word is settled by its rights. Assumes nothing.
use Prim.Native.Nat.{ℕ, zero, suc, ◌+◌, ◌*◌, ◌/◌, ◌%◌, ◌^◌, ◌≤◌, ◌<◌}
use mathlib.Core.Path.{◌≡◌, refl, sym, ap, ◌∙◌}
use mathlib.Core.Bool.{true, false, false≢true, ◌&&◌}
use native.Mathlib.Omega.{arith}
use native.Mathlib.Decide.{dec_lt}
use native.Mathlib.Nat.{mul_left_comm, pow-suc, div-div-eq-div-mul}
use lib.Dec.{eqb, ltb}
use borrow.Author.Tests.{eq-eqb, ne_eqb, lt-ltb, le-ltb, ltb-true}
use Rattle.words.specs.Rights.{right_at, good_rights, pack, eight_of, sixteen_of}

-- A word's rights from its second on are those of a quarter of it.

four : (n : ℕ) → 2 ^ (2 * suc n) ≡ 4 * 2 ^ (2 * n)
four n = ap (λ e. 2 ^ e) two ∙ pow-suc 2 (suc (2 * n)) ∙ ap (λ x. x * 2) (pow-suc 2 (2 * n)) ∙ shift (2 ^ (2 * n))
  where
    two : 2 * suc n ≡ suc (suc (2 * n))
    two = omega arith

    shift : (x : ℕ) → x * 2 * 2 ≡ 4 * x
    shift x = omega arith

times_four : (t n : ℕ) → t * 2 ^ (2 * suc n) ≡ 4 * (t * 2 ^ (2 * n))
times_four t n = ap (λ y. t * y) (four n) ∙ mul_left_comm t 4 (2 ^ (2 * n))

pub right_quarter : (w i : ℕ) → right_at (w / 4) i ≡ right_at w (suc i)
right_quarter w i = ap (λ y. y % 4) (div-div-eq-div-mul w 4 (2 ^ (2 * i)) ∙ ap (λ x. w / x) (sym (four i)))

pub right_small : (w i : ℕ) → right_at w i < 4
right_small w i = omega arith

-- Good rights are one range: below bit 31 there are none, and from there on it is one test.

pub good_low : (w : ℕ) → w < 2147483648 → good_rights w ≡ false
good_low w h = rw (ne_eqb (w / 2147483648) 1 (λ e. omega arith)) refl

pub good_high : (w : ℕ) → 2147483648 ≤ w → w < 4294967296 → good_rights w ≡ ltb w 2147549184
good_high w h b = rw (eq-eqb (w / 2147483648) 1 (omega arith)) (elim (dec_lt w 2147549184) [
  | yes k ↦ eq-eqb (w / 65536 % 32768) 0 (omega arith) ∙ sym (lt-ltb w 2147549184 k)
  | no k ↦ ne_eqb (w / 65536 % 32768) 0 (λ e. omega arith) ∙ sym (le-ltb w 2147549184 (omega arith))
])

pub good_range : (w : ℕ) → w < 4294967296 → good_rights w ≡ true → (2147483648 ≤ w) × (w < 2147549184)
good_range w b g = elim (dec_lt w 2147483648) [
  | yes h ↦ absurd (false≢true (sym (good_low w h) ∙ g))
  | no h ↦ (omega arith, ltb-true w 2147549184 (sym (good_high w (omega arith) b) ∙ g))
]

pub good_small : (w : ℕ) → good_rights w ≡ true → w < 4294967296
good_small w g = elim (dec_lt w 4294967296) [
  | yes h ↦ h
  | no h ↦ absurd
      (false≢true (sym (ap (λ b. b && eqb (w / 65536 % 32768) 0) (ne_eqb (w / 2147483648) 1 (λ e. omega arith))) ∙ g))
]

pub range_good : (w : ℕ) → 2147483648 ≤ w → w < 2147549184 → good_rights w ≡ true
range_good w h k = good_high w h (omega arith) ∙ lt-ltb w 2147549184 k

-- A number is settled by its lowest rights and by what stands above them.

rights_settle : (top n w x : ℕ) → top * 2 ^ (2 * n) ≤ w → w < suc top * 2 ^ (2 * n) → top * 2 ^ (2 * n) ≤ x
    → x < suc top * 2 ^ (2 * n)
    → ((i : ℕ) → i < n → right_at w i ≡ right_at x i) → w ≡ x
rights_settle top zero w x a b c d e = omega arith
rights_settle top (suc n) w x a b c d e =
    let lo = times_four top n in
    let hi = times_four (suc top) n in
    let q : w / 4 ≡ x / 4 = rights_settle top n (w / 4) (x / 4) (omega arith) (omega arith) (omega arith) (omega arith)
    (λ i h. right_quarter w i ∙ e (suc i) (omega arith) ∙ sym (right_quarter x i)) in
    let z : right_at w 0 ≡ right_at x 0 = e 0 (omega arith) in
    omega arith

pub digits_equal : (w x : ℕ) → w < 4294967296 → x < 4294967296 → ((i : ℕ) → i < 16 → right_at w i ≡ right_at x i) → w ≡ x
digits_equal w x a b = rights_settle 0 16 w x (omega arith) a (omega arith) b

pub good_digits_equal : (w x : ℕ) → w < 4294967296 → x < 4294967296 → good_rights w ≡ true → good_rights x ≡ true
    → ((i : ℕ) → i < 8 → right_at w i ≡ right_at x i) → w ≡ x
good_digits_equal w x a b g h =
    let (p, q) = good_range w a g in
    let (r, s) = good_range x b h in
    rights_settle 32768 8 w x p q r s

-- Packed rights.

module _ (top : ℕ) where
  pub pack_digit : (n i : ℕ) (f : ℕ → ℕ) → ((j : ℕ) → j < n → f j < 4) → i < n → right_at (pack top n f) i ≡ f i
  unfolding pack
  pack_digit zero i f b h = absurd (omega arith)
  pack_digit (suc n) zero f b h = let z = b 0 (omega arith) in omega arith
  pack_digit (suc n) (suc i) f b h =
      let p = pack top n (λ j. f (suc j)) in
      let z = b 0 (omega arith) in
      let e : (f 0 + 4 * p) / 4 ≡ p = omega arith in
      sym (right_quarter (f 0 + 4 * p) i) ∙ ap (λ y. right_at y i) e ∙ pack_digit n i (λ j. f (suc j))
      (λ j k. b (suc j) (omega arith)) (omega arith)

  pub pack_range : (n : ℕ) (f : ℕ → ℕ) → ((j : ℕ) → j < n → f j < 4) → (top * 2 ^ (2 * n) ≤ pack top n f)
      × (pack top n f < suc top * 2 ^ (2 * n))
  unfolding pack
  pack_range zero f b = (omega arith, omega arith)
  pack_range (suc n) f b =
      let r = pack_range n (λ j. f (suc j)) (λ j h. b (suc j) (omega arith)) in
      let z = b 0 (omega arith) in
      let lo = times_four top n in
      let hi = times_four (suc top) n in
      (omega arith, omega arith)

pub pack_good : (f : ℕ → ℕ) → ((j : ℕ) → j < 8 → f j < 4) → good_rights (pack 32768 8 f) ≡ true
pack_good f b = let (h, k) = pack_range 32768 8 f b in range_good (pack 32768 8 f) h k

-- One right, eight or sixteen times, is that right packed.

pub eight_pack : (r : ℕ) → pack 32768 8 (λ i. r) ≡ eight_of r
unfolding pack
eight_pack r = omega arith

pub sixteen_pack : (r : ℕ) → pack 0 16 (λ i. r) ≡ sixteen_of r
unfolding pack
sixteen_pack r = omega arith

pub eight_right : (r i : ℕ) → r < 4 → i < 8 → right_at (eight_of r) i ≡ r
eight_right r i b h = ap (λ w. right_at w i) (sym (eight_pack r)) ∙ pack_digit 32768 8 i (λ i. r) (λ j k. b) h

pub sixteen_right : (r i : ℕ) → r < 4 → i < 16 → right_at (sixteen_of r) i ≡ r
sixteen_right r i b h = ap (λ w. right_at w i) (sym (sixteen_pack r)) ∙ pack_digit 0 16 i (λ i. r) (λ j k. b) h

pub eight_good : (r : ℕ) → r < 4 → good_rights (eight_of r) ≡ true
eight_good r b = ap good_rights (sym (eight_pack r)) ∙ pack_good (λ i. r) (λ j h. b)

-- Equal rights make equal words.
pub pack_same : (top n : ℕ) (f g : ℕ → ℕ) → ((i : ℕ) → i < n → f i ≡ g i) → pack top n f ≡ pack top n g
unfolding pack
pack_same top zero f g e = refl
pack_same top (suc n) f g e =
    ap (λ x. x + 4 * pack top n (λ i. f (suc i))) (e 0 (omega arith))
    ∙ ap (λ x. g 0 + 4 * x) (pack_same top n (λ i. f (suc i)) (λ i. g (suc i)) (λ i b. e (suc i) (omega arith)))
