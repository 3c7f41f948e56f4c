-- Laws of `all` and `any` over the numbers below `n`, as their lemmas give them over the list of these.
use Prim.Native.Nat.{ℕ, ◌+◌, ◌<◌}
use mathlib.Core.Path.{◌≡◌, refl, sym}
use mathlib.Core.Bool.{Bool, true, false, false≢true}
use mathlib.Core.List.{List}
use native.Mathlib.Omega.{arith}
use lib.ListN.{length}
use Rattle.std.specs.Bool.{MatchBool}
use Rattle.std.specs.List.{range_with_len, AllWithin, HoldsAt}
use Rattle.std.proofs.lemmas.List.FromFn.{length-range_with_len, get_or-range_with_len}
use Rattle.targets.specs.Targets.{Decides}

-- What holds of the list at place `k` holds of the number `k`.
number : (n : ℕ) (A : ℕ → Type 0) (k : ℕ) → k < length (range_with_len 0 n) → HoldsAt A (range_with_len 0 n) k → A k
number n A k b f =
    let c : k < n = rw length-range_with_len at b in
    let z : 0 + k ≡ k = omega arith in
    rw (get_or-range_with_len 0 n k 0 c, z) at (f 0)

-- `all` decides of all numbers what its closure decides of each.
pub all_decides : (n : ℕ) (r : Bool) (Yes No : ℕ → Type 0) → ((k : ℕ) → No k → Yes k → ⊥)
    → MatchBool r (AllWithin Yes (range_with_len 0 n) 0 (length (range_with_len 0 n)))
    ((k : ℕ) × (k < length (range_with_len 0 n)) × HoldsAt No (range_with_len 0 n) k)
    → Decides r ((k : ℕ) → k < n → Yes k)
all_decides n true Yes No not f = record {
  holds = λ e k b. (let c = rw (sym (length-range_with_len 0 n)) at b in number n Yes k c (λ d. f k d (omega arith) c));
  passes = λ a. refl;
}
all_decides n false Yes No not (k, b, f) = record {
  holds = λ e. absurd (false≢true e);
  passes = λ a. absurd (not k (number n No k b f) (a k (rw length-range_with_len at b)));
}

-- Where `any` answers true, its closure has answered so of an item ..
pub any_place : {X : Type 0} (xs : List X) (r : Bool) (Yes No : X → Type 0)
    → MatchBool r ((k : ℕ) × (k < length xs) × HoldsAt Yes xs k) (AllWithin No xs 0 (length xs))
    → r ≡ true → (k : ℕ) × (k < length xs) × HoldsAt Yes xs k
any_place xs true Yes No f e = f
any_place xs false Yes No f e = absurd (false≢true e)

-- .. or of a number.
pub any_number : (n : ℕ) (r : Bool) (Yes No : ℕ → Type 0)
    → MatchBool r ((k : ℕ) × (k < length (range_with_len 0 n)) × HoldsAt Yes (range_with_len 0 n) k)
    (AllWithin No (range_with_len 0 n) 0 (length (range_with_len 0 n)))
    → r ≡ true → (k : ℕ) × (k < n) × Yes k
any_number n r Yes No f e =
    let (k, b, y) = any_place (range_with_len 0 n) r Yes No f e in
    (k, rw length-range_with_len at b, number n Yes k b y)
