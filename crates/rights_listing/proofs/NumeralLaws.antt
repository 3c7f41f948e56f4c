-- A numeral is read back as its number.
use Prim.Native.Nat.{ℕ, zero, suc, ◌+◌, ◌-◌, ◌*◌, ◌/◌, ◌%◌, ◌^◌, ◌<◌, ◌≤◌}
use native.Mathlib.Omega.{arith}
use mathlib.Core.Path.{◌≡◌, refl, sym, ◌∙◌}
use mathlib.Core.Logic.{⊎_elim}
use mathlib.Core.List.{List, [], ◌∷◌, ◌++◌}
use borrow.Author.Tests.{lt-ltb, le-ltb}
use Rattle.io.specs.Digits.{hex_digit_ascii, last_digits}
use Rattle.lines.specs.Forms.{Digits, value_on, value_of, Number}
use Rattle.listing.proofs.RunLaws.{lt_or_ge}
use Rattle.rights_listing.specs.Text.{places_in, numeral}
use Rattle.rights_listing.proofs.TextLaws.{digits_length}

glyph_is : (d : ℕ) → d < 10 → hex_digit_ascii d ≡ 48 + d
glyph_is d h = simp (lt-ltb d 10 h)

value_more : (v d : ℕ) (ds : List ℕ) → value_on v (ds ++ d ∷ []) ≡ value_on v ds * 10 + (d - 48)
unfolding value_on
value_more v d [] = refl
value_more v d (b ∷ ds) = value_more (v * 10 + (b - 48)) d ds

digits_more : (d : ℕ) (ds : List ℕ) → Digits ds → (48 ≤ d) × (d ≤ 57) → Digits (ds ++ d ∷ [])
unfolding Digits
digits_more d [] h g = (g, tt)
digits_more d (b ∷ ds) h g = (h.0, digits_more d ds h.1 g)

digits_value : (k n : ℕ) → n < 10 ^ k → value_of (last_digits 10 k n) ≡ n
unfolding value_on
digits_value zero n h = omega arith
digits_value (suc k) n h =
    let e = digits_value k (n / 10) (omega arith) in
    let g = glyph_is (n % 10) (omega arith) in
    value_more 0 (hex_digit_ascii (n % 10)) (last_digits 10 k (n / 10)) ∙ rw (e, g) (omega arith)

digits_digits : (k n : ℕ) → Digits (last_digits 10 k n)
unfolding Digits
digits_digits zero n = tt
digits_digits (suc k) n =
    let g = glyph_is (n % 10) (omega arith) in
    digits_more (hex_digit_ascii (n % 10)) (last_digits 10 k (n / 10)) (digits_digits k (n / 10)) (rw g (omega arith, omega arith))

places_hold : (f n : ℕ) → n < 10 ^ suc f → n < 10 ^ places_in f n
unfolding places_in
places_hold zero n h = h
places_hold (suc f) n h = ⊎_elim
    (λ g. rw (lt-ltb n 10 g) (omega arith))
    (λ g. let z = places_hold f (n / 10) (omega arith) in
    let y : n < 10 ^ suc (places_in f (n / 10)) = omega arith in
    rw (le-ltb n 10 g) y)
    (lt_or_ge n 10)

places_some : (f n : ℕ) → 0 < places_in f n
unfolding places_in
places_some zero n = omega arith
places_some (suc f) n = ⊎_elim
    (λ g. rw (lt-ltb n 10 g) (omega arith))
    (λ g. rw (le-ltb n 10 g) (omega arith))
    (lt_or_ge n 10)

pub numeral_reads : (n : ℕ) → n < 4294967296 → Number (numeral n) n
unfolding numeral
numeral_reads n h = record {
  some = rw (digits_length (places_in 9 n) n) (places_some 9 n);
  digits = digits_digits (places_in 9 n) n;
  value = sym (digits_value (places_in 9 n) n (places_hold 9 n (omega arith)));
  most = omega arith;
}
