-- Laws of lists of gates and frames: the first element that passes a test, the elements that fail it, and an element
-- taken out by moving the later ones down; and what is in order or refused.
use Prim.Native.Nat.{ℕ, zero, suc, ◌+◌, ◌-◌, ◌≤◌, ◌<◌}
use mathlib.Core.Path.{◌≡◌, refl, sym, ap, ◌∙◌}
use mathlib.Core.Bool.{Bool, true, false, cond, not}
use mathlib.Core.List.{List, [], ◌∷◌, ◌++◌, append-nil}
use native.Mathlib.Nat.{not-suc-le-zero, le_of_suc-le-suc}
use native.Mathlib.Numerals.{add-one}
use native.Mathlib.Omega.{arith}
use borrow.Author.Tests.{ltb-true, ltb-false, lt-ltb, le-ltb}
use lib.Dec.{ltb}
use lib.ListN.{length, get_or, take, drop, set, drop_of_length-le, take-append-drop}
use lib.Seq.{get_or-take, length-take-le, take-take, take_at, drop_at, take-set-lt, drop-set-lt, split_at, set_split}
use Rattle.std.proofs.Common.{Option, Some, None, Result, Ok, Err, slice_get}
use Rattle.std.proofs.lemmas.Option.{slice_get-get_or, slice_get_past}
use Rattle.std.proofs.lemmas.List.Edits.{length-remove}
use Rattle.std.proofs.lemmas.List.Elements.{filter-append}
use Rattle.std.proofs.lemmas.List.Folds.{find_at, list_all-map}
use Rattle.std.proofs.lemmas.List.FromFn.{fill_by_all}
use Rattle.std.proofs.lemmas.List.Quantifiers.{position-Some}
use Rattle.std.proofs.lemmas.List.Sums.{position_or_len_is}
use Rattle.std.specs.List.{filter, find, list_all, position, position_or_len, range_with_len, remove}
use Rattle.refusals.specs.declared.Refusal.{Refusal}
use Rattle.theory.proofs.Logic.{by_cases}

-- No refusal: the first test fails, and none of those after it refuses.
pub none_refuses : (b : Bool) (n : Refusal) (r : Result (Unit {0}) Refusal) → cond b (Err n) r ≡ Ok tt
    → (b ≡ false) × (r ≡ Ok tt)
none_refuses true n r e = absurd cc
none_refuses false n r e = (refl, e)

-- What is asked is in order or refused.
pub by_refusal : {P : Type 0} (r : Result (Unit {0}) Refusal) → (r ≡ Ok tt → P) → ((n : Refusal) → r ≡ Err n → P) → P
by_refusal (Ok u) f g = f refl
by_refusal (Err n) f g = g n refl

-- Something is found or nothing.
pub by_option : {A : Type 0} {P : Type 0} (o : Option A) → ((x : A) → o ≡ Some x → P) → (o ≡ None → P) → P
by_option (Some x) f g = f x refl
by_option None f g = g refl

module _ {A : Type 0} (t : A → Bool) (l : List A) where
  -- The place of the first element that passes the test, and no place.
  pub place_found : (k : ℕ) → position t l ≡ Some k → (k ≡ position_or_len t l) × (k < length l)
  place_found k e =
      by_cases (ltb (position_or_len t l) (length l))
      (λ q. let f : k ≡ position_or_len t l = cc (rw q at e) in let h = ltb-true (position_or_len t l) (length l) q in
      (f, omega arith))
      (λ q. absurd (cc (rw q at e)))

  pub no_place : position t l ≡ None → length l ≤ position_or_len t l
  no_place e =
      by_cases (ltb (position_or_len t l) (length l)) (λ q. absurd (cc (rw q at e)))
      (λ q. ltb-false (position_or_len t l) (length l) q)

  pub found_at_place : (k : ℕ) (d : A) → position t l ≡ Some k → find t l ≡ Some (get_or l k d)
  found_at_place k d e =
      let (f, h) = place_found k e in
      find_at t l ∙ ap (slice_get l) (sym f) ∙ slice_get-get_or l k d h

  pub none_found : position t l ≡ None → find t l ≡ None
  none_found e = find_at t l ∙ slice_get_past l (position_or_len t l) (no_place e)

  -- It is where a search that goes by every element before it stops.
  pub place_first : (i : ℕ) (d : A) → i < length l → t (get_or l i d) ≡ true
      → ((k : ℕ) → k < i → t (get_or l k d) ≡ false) → position t l ≡ Some i
  place_first i d h e q =
      let f : position_or_len t l ≡ i = position_or_len_is t l i d (omega arith) q (λ _. e) in
      rw (f, lt-ltb i (length l) h)

  pub place_nowhere : (d : A) → ((k : ℕ) → k < length l → t (get_or l k d) ≡ false) → position t l ≡ None
  place_nowhere d q =
      let f : position_or_len t l ≡ length l = position_or_len_is t l (length l) d (omega arith) q (λ h. absurd (omega arith)) in
      rw (f, le-ltb (length l) (length l) (omega arith))

  -- A test of the numbers below `n` is the test of the elements that these numbers give.
  pub all_numbered : (f : ℕ → A) (n : ℕ) (d : A) → length l ≡ n → ((i : ℕ) → i < n → get_or l i d ≡ f i)
      → list_all (λ i. t (f i)) (range_with_len 0 n) ≡ list_all t l
  all_numbered f n d long h = sym (list_all-map t f (range_with_len 0 n)) ∙ ap (list_all t) (sym (fill_by_all f l n d long h))

-- No element before the first that passes is found.
pub none_before : {A : Type 0} (t : A → Bool) (l : List A) (k : ℕ) (d : A) → position t l ≡ Some k → find t (take k l) ≡ None
none_before t l k d e =
    let (h, _, q) = position-Some t l k d e in
    let n : length (take k l) ≡ k = length-take-le k l (omega arith) in
    none_found t (take k l) (place_nowhere t (take k l) d (λ j m. ap t (get_or-take k l j d (omega arith)) ∙ q j (omega arith)))

-- Where an element that passes is replaced or taken out, or one comes last, the elements that fail stay, in their order.
module _ {A : Type 0} (t : A → Bool) where
  abbrev pub failing : List A → List A
  failing l = filter (λ x. not (t x)) l

  fail_around : (xs ys : List A) (x : A) → t x ≡ true → failing (xs ++ x ∷ ys) ≡ failing xs ++ failing ys
  fail_around xs ys x e = rw (filter-append (λ x. not (t x)) xs (x ∷ ys), e)

  module _ (l : List A) (k : ℕ) (d : A) (h : k < length l) (e : t (get_or l k d) ≡ true) where
    fail_split : failing l ≡ failing (take k l) ++ failing (drop (suc k) l)
    fail_split = ap failing (split_at l k d h) ∙ fail_around (take k l) (drop (suc k) l) (get_or l k d) e

    pub fail_set : (v : A) → t v ≡ true → failing (set l k v) ≡ failing l
    fail_set v p = ap failing (set_split l k v h) ∙ fail_around (take k l) (drop (suc k) l) v p ∙ sym fail_split

    pub fail_remove : failing (remove l k) ≡ failing l
    fail_remove = filter-append (λ x. not (t x)) (take k l) (drop (suc k) l) ∙ sym fail_split

  pub fail_last : (v : A) → t v ≡ true → (l : List A) → failing (l ++ v ∷ []) ≡ failing l
  fail_last v p l = fail_around l [] v p ∙ append-nil (failing l)

module _ {A : Type 0} where
  -- The first `n` elements without element `k`, and then what follows them from element `n - 1` on: so a list looks
  -- after the later ones moved down.
  abbrev pub closed : ℕ → ℕ → List A → List A
  closed n k l = remove (take n l) k ++ drop (n - 1) l

  remove_moved : (d : A) (i : ℕ) (l : List A) → suc i < length l → remove (set l i (get_or l (suc i) d)) (suc i)
      ≡ remove l i
  remove_moved d i [] h = absurd (not-suc-le-zero h)
  remove_moved d zero (x ∷ []) h = absurd (not-suc-le-zero (le_of_suc-le-suc h))
  remove_moved d zero (x ∷ y ∷ l) h = refl
  remove_moved d (suc i) (x ∷ l) h = ap (λ r. x ∷ r) (remove_moved d i l (le_of_suc-le-suc h))

  -- One element moved down leaves as much to do from the next on.
  pub closed_moved : (d : A) (n i : ℕ) (l : List A) → n ≤ length l → i + 1 < n
      → closed n (i + 1) (set l i (get_or l (i + 1) d)) ≡ closed n i l
  closed_moved d n i l long h =
      let e : length (take n l) ≡ n = length-take-le n l long in
      rw (
        add-one,
        take-set-lt n l i (get_or l (suc i) d) (omega arith),
        drop-set-lt (n - 1) l i (get_or l (suc i) d) (omega arith),
        ← get_or-take n l (suc i) d (omega arith),
        remove_moved d i (take n l) (omega arith),
      )

  -- Nothing is left to do at the last.
  pub closed_last : (n : ℕ) (l : List A) → n ≤ length l → 0 < n → closed n (n - 1) l ≡ l
  closed_last n l long h =
      let e : length (take n l) ≡ n = length-take-le n l long in
      rw (
        drop_of_length-le (take n l) {i = suc (n - 1)} (omega arith),
        take-take (n - 1) n l (omega arith),
        append-nil,
      ) (take-append-drop (n - 1) l)

  -- The first `n - 1` elements are then the first `n` without element `k`, and the rest is as it was.
  module _ (n k : ℕ) (l : List A) (long : n ≤ length l) (h : k < n) where
    left_long : length (remove (take n l) k) ≡ n - 1
    left_long =
        let e : length (take n l) ≡ n = length-take-le n l long in
        let q = length-remove (take n l) k (omega arith) in
        omega arith

    pub take_closed : take (n - 1) (closed n k l) ≡ remove (take n l) k
    take_closed = take_at (remove (take n l) k) (drop (n - 1) l) (n - 1) left_long

    pub drop_closed : drop (n - 1) (closed n k l) ≡ drop (n - 1) l
    drop_closed = drop_at (remove (take n l) k) (drop (n - 1) l) (n - 1) left_long
