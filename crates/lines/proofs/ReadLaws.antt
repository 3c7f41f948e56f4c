-- A number read byte by byte: what is left of its word gives what the whole word gives.
use Prim.Native.Nat.{ℕ, ◌+◌, ◌*◌, ◌-◌, ◌<◌, ◌≤◌}
use native.Mathlib.Omega.{arith}
use mathlib.Core.Bool.{Bool, true, false, cond, ◌&&◌}
use native.Mathlib.Numerals.{add-one}
use mathlib.Core.Path.{◌≡◌, refl, sym}
use mathlib.Core.List.{List, [], ◌∷◌}
use lib.Dec.{leb}
use lib.ListN.{length, drop, get_or, drop_of_length-le}
use lib.Seq.{drop-cons}
use borrow.Author.Tests.{le-leb, lt-leb}
use Rattle.std.specs.Char.{is_ascii_digit}
use Rattle.std.proofs.Common.{Option, Some, None}
use Rattle.lines.specs.Forms.{value_on, is_digit, all_digits, is_number}
use Rattle.lines.specs.Inner.{number_of}
use Rattle.lines.proofs.DigitLaws.{value_at_least}

-- A number v so far, and the rest of its word.
unfoldable pub read_on : ℕ → List ℕ → Option ℕ
read_on v ds = cond (all_digits ds && leb (value_on v ds) 4294967295) (Some (value_on v ds)) None

pub read_none : (w : List ℕ) → length w ≡ 0 → number_of w ≡ None
unfolding is_number
read_none [] e = refl
read_none (b ∷ w) e = absurd (omega arith)

pub read_word : (w : List ℕ) → 0 < length w → number_of w ≡ read_on 0 w
unfolding is_number read_on
read_word [] h = absurd (omega arith)
read_word (b ∷ w) h = refl

module _ (v : ℕ) where
  read_end : v ≤ 4294967295 → read_on v [] ≡ Some v
  unfolding read_on all_digits value_on
  read_end m = rw (le-leb v 4294967295 m)

  module _ (b : ℕ) (ds : List ℕ) where
    read_other : is_digit b ≡ false → read_on v (b ∷ ds) ≡ None
    unfolding read_on all_digits
    read_other k = rw k

    read_more : is_digit b ≡ true → read_on v (b ∷ ds) ≡ read_on (v * 10 + (b - 48)) ds
    unfolding read_on all_digits value_on
    read_more k = rw k

    read_over : is_digit b ≡ true → 4294967295 < v * 10 + (b - 48) → read_on v (b ∷ ds) ≡ None
    unfolding read_on
    read_over k o =
        let x : 4294967295 < value_on (v * 10 + (b - 48)) ds =
        omega (arith, value_at_least (v * 10 + (b - 48)) ds) in
        rw (read_more k, lt-leb _ _ x) (never (all_digits ds) _)
      where
        never : (t : Bool) (x : Option ℕ) → cond (t && false) x None ≡ None
        never true x = refl
        never false x = refl

-- The same where the rest of the word begins at place i.
module _ (w : List ℕ) (i v : ℕ) (h : i < length w) where
  pub at_other : false ≡ is_ascii_digit (get_or w i 0) → read_on v (drop i w) ≡ None
  unfolding is_digit
  at_other e = rw (drop-cons w i 0 h) (read_other v _ _ (sym e))

  module _ (e : true ≡ is_ascii_digit (get_or w i 0)) where
    pub at_over : 4294967295 < v * 10 + (get_or w i 0 - 48) → read_on v (drop i w) ≡ None
    unfolding is_digit
    at_over o = rw (drop-cons w i 0 h) (read_over v _ _ (sym e) o)

    pub at_more : read_on v (drop i w) ≡ read_on (v * 10 + (get_or w i 0 - 48)) (drop (i + 1) w)
    unfolding is_digit
    at_more = rw (drop-cons w i 0 h, add-one) (read_more v _ _ (sym e))

pub at_end : (w : List ℕ) (i v : ℕ) → length w ≤ i → v ≤ 4294967295 → read_on v (drop i w) ≡ Some v
at_end w i v h m = rw (drop_of_length-le w h) (read_end v m)

-- What the reader of a number goes by.
pub ruleset reading = (read_none, read_word, at_end, at_other, at_over, at_more)
