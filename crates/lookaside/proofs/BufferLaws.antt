-- Laws of the buffer's two loops: the search for the lowest match, and the flush of each slot. Assumes nothing.
use Prim.Native.Nat.{ℕ, zero, suc, ◌+◌, ◌≤◌, ◌<◌}
use mathlib.Core.Path.{◌≡◌, refl, sym, ap, ◌∙◌}
use mathlib.Core.Bool.{Bool, true, false, cond}
use mathlib.Core.List.{List, [], ◌∷◌, map}
use native.Mathlib.Nat.{not-suc-le-zero, le_of_suc-le-suc}
use native.Mathlib.Numerals.{add-one}
use native.Mathlib.Omega.{arith}
use lib.ListN.{length, get_or, drop, set, drop_of_length-le}
use lib.Seq.{drop-cons}
use Rattle.std.specs.List.{find}
use Rattle.lookaside.specs.declared.Slot.{Slot}
use Rattle.std.specs.Prelude.{Some, None}
use Rattle.lookaside.specs.Slots.{Buffer, matches, first_match, empty_slot, empty_buffer}

-- A search in what is left of the list: at a slot that passes the test, at one that does not, and past the end.
module _ (test : Slot → Bool) (l : List Slot) (i : ℕ) where
  pub find_here : i < length l → test (get_or l i empty_slot) ≡ true → find test (drop i l) ≡ Some (get_or l i empty_slot)
  find_here h m = rw (drop-cons l i empty_slot h, m)

  pub find_later : i < length l → test (get_or l i empty_slot) ≡ false → find test (drop i l) ≡ find test (drop (i + 1) l)
  find_later h m = rw (drop-cons l i empty_slot h, m, add-one)

  pub find_none : length l ≤ i → find test (drop i l) ≡ None
  find_none h = rw (drop_of_length-le l h)

-- The slot that the search finds matches.
pub first_matches : (l : List Slot) (d a : ℕ) (s : Slot) → first_match l d a ≡ Some s → matches s d a ≡ true
unfolding first_match
first_matches [] d a s e = let z : ◌≡◌ {A = ℕ} 0 1 = cc in absurd (omega arith)
first_matches (x ∷ xs) d a s e = go (matches x d a) refl (first_matches xs d a s) e
  where
    go : (t : Bool) → matches x d a ≡ t → (first_match xs d a ≡ Some s → matches s d a ≡ true)
        → cond t (Some x) (first_match xs d a) ≡ Some s
        → matches s d a ≡ true
    go true m later h = let q : x ≡ s = cc in rw (← q) m
    go false m later h = later h

-- A loop that puts `f x` for each element `x` of a list.
module _ {A : Type 0} (f : A → A) where
  -- The list with `f` put to its first `i` elements.
  abbrev pub map_to : ℕ → List A → List A
  map_to i [] = []
  map_to zero (x ∷ xs) = x ∷ xs
  map_to (suc i) (x ∷ xs) = f x ∷ map_to i xs

  pub map_to_none : (l : List A) → map_to 0 l ≡ l
  map_to_none [] = refl
  map_to_none (x ∷ xs) = refl

  pub map_to_all : (i : ℕ) (l : List A) → length l ≤ i → map_to i l ≡ map f l
  map_to_all i [] h = refl
  map_to_all zero (x ∷ xs) h = absurd (not-suc-le-zero h)
  map_to_all (suc i) (x ∷ xs) h = ap (◌∷◌ (f x)) (map_to_all i xs (le_of_suc-le-suc h))

  pub length_map_to : (i : ℕ) (l : List A) → length (map_to i l) ≡ length l
  length_map_to i [] = refl
  length_map_to zero (x ∷ xs) = refl
  length_map_to (suc i) (x ∷ xs) = ap suc (length_map_to i xs)

  -- The element that the loop reads is still the old one.
  map_to_at : (i : ℕ) (l : List A) (d : A) → get_or (map_to i l) i d ≡ get_or l i d
  map_to_at i [] d = refl
  map_to_at zero (x ∷ xs) d = refl
  map_to_at (suc i) (x ∷ xs) d = map_to_at i xs d

  map_to_set : (i : ℕ) (l : List A) (d : A) → set (map_to i l) i (f (get_or l i d)) ≡ map_to (suc i) l
  map_to_set i [] d = refl
  map_to_set zero (x ∷ xs) d = ap (◌∷◌ (f x)) (sym (map_to_none xs))
  map_to_set (suc i) (x ∷ xs) d = ap (◌∷◌ (f x)) (map_to_set i xs d)

  -- One turn of the loop, from the list `g` that it has and the element `t` that was made of `g`'s.
  pub map_to_turn : (i : ℕ) (l g : List A) (d t : A) → g ≡ map_to i l → t ≡ f (get_or g i d) → set g i t ≡ map_to (i + 1) l
  map_to_turn i l g d t e h = rw (h, e, map_to_at i l d, add-one) (map_to_set i l d)

-- There is one emptied buffer.
pub one_emptied : (q r : Buffer) → q ≡ empty_buffer → r ≡ empty_buffer → q ≡ r
one_emptied q r x y = x ∙ sym y
