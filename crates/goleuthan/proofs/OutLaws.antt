-- Laws of result words, and of a count in one word. Assumes nothing.
use Prim.Native.Nat.{ℕ, zero, suc, ◌≤◌, ◌<◌}
use mathlib.Core.Path.{◌≡◌, refl, ap}
use native.Mathlib.Omega.{arith}
use native.Mathlib.Decide.{dec_lt}
use mathlib.Core.List.{List, [], ◌∷◌, ◌++◌}
use lib.ListN.{length, take, drop, set, get_or}
use borrow.Author.Tests.{le-leb, lt-leb}
use Rattle.std.specs.Prelude.{Result, Ok, Err}
use Rattle.std.specs.Result.{OkIff, result_unwrap_or}
use Rattle.goleuthan.specs.Out.{out_with, greatest, in_one_word}

-- Room for all results.
pub with_room : (rs out : List ℕ) → length rs ≤ length out → out_with rs out ≡ rs ++ drop (length rs) out
unfolding out_with
with_room [] out h = refl
with_room (r ∷ rs) [] h = absurd (omega arith)
with_room (r ∷ rs) (w ∷ out) h = ap (λ l. r ∷ l) (with_room rs out (omega arith))

-- Room for some or none: word by word, each where it has a place.
pub one_more : (rs out : List ℕ) (i : ℕ) → i < length rs
    → set (out_with (take i rs) out) i (get_or rs i 0) ≡ out_with (take (suc i) rs) out
unfolding out_with
one_more [] out i h = absurd (omega arith)
one_more (r ∷ rs) [] zero h = refl
one_more (r ∷ rs) [] (suc i) h = refl
one_more (r ∷ rs) (w ∷ out) zero h = refl
one_more (r ∷ rs) (w ∷ out) (suc i) h = ap (λ l. r ∷ l) (one_more rs out i (omega arith))

pub none_yet : (rs out : List ℕ) → out_with (take 0 rs) out ≡ out
unfolding out_with
none_yet rs out = refl

-- A number that is told in one word where it fits one, and else as the greatest.
pub one_word : {E : Type 0} (n : ℕ) (r : Result ℕ E) → OkIff r (n < 4294967296) n
    → result_unwrap_or r greatest ≡ in_one_word n
one_word n (Ok x) (fits, e) = let low : n ≤ greatest = omega arith in rw (e, le-leb n greatest low)
one_word n (Err x) wide =
    elim (dec_lt n 4294967296) [
      | yes h ↦ absurd (wide h)
      | no h ↦ let high : greatest < n = omega arith in rw (lt-leb n greatest high)
    ]
