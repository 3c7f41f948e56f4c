-- Numbers as text.
use Prim.Native.Nat.{ℕ, zero, suc, ◌+◌, ◌-◌, ◌/◌, ◌%◌, ◌^◌, ◌<◌, ◌≤◌}
use native.Mathlib.Omega.{arith}
use native.Mathlib.Nat.{add-zero, zero-add}
use native.Mathlib.Numerals.{add-one}
use mathlib.Core.Path.{◌≡◌, refl, sym, ap, subst, ◌∙◌}
use mathlib.Core.Logic.{⊎_elim}
use mathlib.Core.Bool.{Bool, true, false, cond}
use mathlib.Core.List.{List, [], ◌∷◌, ◌++◌, append_assoc}
use lib.ListN.{length, take, get_or, set, length-append}
use lib.Seq.{length-take-le, take-suc, take-suc-set}
use lib.Dec.{ltb}
use borrow.Author.Tests.{lt-ltb, le-ltb}
use Rattle.io.specs.Digits.{hex_digit_ascii, last_digits, IsDigitCount}
use Rattle.listing.proofs.RunLaws.{lt_or_ge}
use Rattle.rights_listing.specs.Text.{places_in, numeral, end_of, text_from, text}

-- More places hold more numbers.
power_least : (j : ℕ) → 1 ≤ 10 ^ j
power_least zero = omega arith
power_least (suc j) = let z = power_least j in omega arith

few : (n k : ℕ) → n < 10 → IsDigitCount 10 1 n k → k ≡ 1
few n zero h (a, b, c) = omega arith
few n (suc zero) h w = refl
few n (suc (suc j)) h (a, b, c) =
    let e : suc (suc j) - 1 ≡ suc j = omega arith in
    let z = subst (λ m. 10 ^ m ≤ n) e (c (omega arith)) in
    let y = power_least j in
    omega arith

-- A digit fewer.
fewer : (n k : ℕ) → 10 ≤ n → IsDigitCount 10 1 n (suc k) → IsDigitCount 10 1 (n / 10) k
fewer n zero h (a, b, c) = absurd (omega arith)
fewer n (suc zero) h (a, b, c) = (omega arith, omega arith, λ g. absurd (omega arith))
fewer n (suc (suc j)) h (a, b, c) =
    let e : suc (suc (suc j)) - 1 ≡ suc (suc j) = omega arith in
    let d : suc (suc j) - 1 ≡ suc j = omega arith in
    let z = subst (λ m. 10 ^ m ≤ n) e (c (omega arith)) in
    (omega arith, omega arith, λ g. subst (λ m. 10 ^ m ≤ n / 10) (sym d) (omega arith))

-- The fewest digits that hold a number are as many as it takes.
pub fewest_places : (f n k : ℕ) → n < 10 ^ suc f → IsDigitCount 10 1 n k → k ≡ places_in f n
unfolding places_in
fewest_places zero n k h w = few n k (omega arith) w
fewest_places (suc f) n zero h (a, b, c) = absurd (omega arith)
fewest_places (suc f) n (suc k) h w = ⊎_elim
    (λ g. few n (suc k) g w ∙ sym (simp (lt-ltb n 10 g)))
    (λ g. ap suc (fewest_places f (n / 10) k (omega arith) (fewer n k g w)) ∙ sym (simp (le-ltb n 10 g)))
    (lt_or_ge n 10)

pub digits_length : (k n : ℕ) → length (last_digits 10 k n) ≡ k
digits_length zero n = refl
digits_length (suc k) n =
    let z = digits_length k (n / 10) in
    length-append (last_digits 10 k (n / 10)) (hex_digit_ascii (n % 10) ∷ []) ∙ (omega arith)

places_most : (f n : ℕ) → places_in f n ≤ f + 1
unfolding places_in
places_most zero n = omega arith
places_most (suc f) n = go (ltb n 10) (places_most f (n / 10))
  where
    go : (b : Bool) → places_in f (n / 10) ≤ f + 1 → cond b 1 (suc (places_in f (n / 10))) ≤ suc f + 1
    go true h = omega arith
    go false h = omega arith

-- What the library of numbers writes is the numeral, of at most ten digits.
module _ (n k : ℕ) (h : n < 4294967296) (w : IsDigitCount 10 1 n k) where
  pub fewest_most : k ≤ 10
  fewest_most = let e = fewest_places 9 n k (omega arith) w in let z = places_most 9 n in omega arith

  pub fewest_numeral : last_digits 10 k n ≡ numeral n
  unfolding numeral
  fewest_numeral = ap (λ j. last_digits 10 j n) (fewest_places 9 n k (omega arith) w)

-- A number more.
pub text_more : (per i n : ℕ) (ns : List ℕ)
    → text_from per i (ns ++ n ∷ []) ≡ text_from per i ns ++ (numeral n ++ end_of per (i + length ns) ∷ [])
unfolding text_from
text_more per i n [] = rw (add-zero i) refl
text_more per i n (m ∷ ns) =
    let e : i + length (m ∷ ns) ≡ i + 1 + length ns = omega arith in
    ap (λ t. numeral m ++ end_of per i ∷ t) (text_more per (i + 1) n ns)
    ∙ rw (e) (sym (append_assoc (numeral m) (end_of per i ∷ text_from per (i + 1) ns) _))

-- A number more of a list.
pub text_took : (per i : ℕ) (ns : List ℕ) → i < length ns
    → text per (take (i + 1) ns) ≡ text per (take i ns) ++ (numeral (get_or ns i 0) ++ end_of per i ∷ [])
text_took per i ns h =
    let e : length (take i ns) ≡ i = length-take-le i ns (omega arith) in
    rw (add-one i, take-suc ns i 0 h) (text_more per 0 (get_or ns i 0) (take i ns) ∙ rw (e, zero-add i) refl)

pub text_none : (per : ℕ) → text per [] ≡ []
unfolding text_from
text_none per = refl

-- A byte more.
pub byte_more : (out last ds : List ℕ) (at r b : ℕ) → take r last ≡ take at out ++ ds → r < length last
    → take (r + 1) (set last r b) ≡ take at out ++ (ds ++ b ∷ [])
byte_more out last ds at r b e h =
    rw (add-one r, take-suc-set last r b h, e) (append_assoc (take at out) ds (b ∷ []))
