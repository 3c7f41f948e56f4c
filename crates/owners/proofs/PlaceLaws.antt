-- Laws of the first region that passes a test: it passes, those before it do not, and nothing else is first.
use Prim.Native.Nat.{ℕ, zero, suc, ◌+◌, ◌≤◌, ◌<◌}
use mathlib.Core.Path.{◌≡◌, sym, ap, ◌∙◌}
use mathlib.Core.Bool.{Bool, true, false, true≢false}
use mathlib.Core.List.{List}
use native.Mathlib.Omega.{arith}
use native.Mathlib.Decide.{dec_lt, ℕ_discrete}
use Rattle.theory.proofs.Logic.{by_cases}
use Rattle.owners.specs.declared.Owned.{Owned}
use Rattle.std.proofs.Common.{Some, None, unwrap_or}
use borrow.Author.Tests.{lt-ltb, le-ltb, ltb-true, ltb-false}
use lib.Dec.{ltb}
use Rattle.words.specs.declared.Region.{Region}
use Rattle.owners.specs.Regions.{region_at, count_of, first_from, place_of}
use Rattle.owners.specs.Calls.{same_words, owned_at}
use Rattle.owners.specs.Reach.{found, found_own}

module _ (list : List ℕ) (t : Owned → Bool) where
  -- What is said of the number `k` by a search through `n` regions from number `i` on.
  record FirstIs (n i k : ℕ) : Type 0 where
    from : i ≤ k
    most : k ≤ i + n
    at : k < i + n → t (region_at list k) ≡ true
    before : (j : ℕ) → i ≤ j → j < k → t (region_at list j) ≡ false

  first_is : (n i : ℕ) → FirstIs n i (first_from list t n i)
  unfolding first_from
  first_is zero i = record {
    from = omega arith;
    most = omega arith;
    at = λ h. absurd (omega arith);
    before = λ j g h. absurd (omega arith);
  }
  first_is (suc n) i = by_cases (t (region_at list i))
      (λ e. rw e (record {
        from = omega arith;
        most = omega arith;
        at = λ h. e;
        before = λ j g h. absurd (omega arith);
      }))
      (λ e. let o = first_is n (suc i) in rw e (record {
        from = omega (arith, o.from);
        most = omega (arith, o.most);
        at = λ h. o.at (omega arith);
        before = λ j g h. elim (ℕ_discrete i j) [
          | yes z ↦ ap (λ x. t (region_at list x)) (sym z) ∙ e
          | no z ↦ o.before j (omega arith) h
        ];
      }))

  -- It is the number of a region held, or the count ..
  pub place_most : place_of list t ≤ count_of list
  place_most = omega (arith, (first_is (count_of list) 0).most)

  -- .. and the region held passes ..
  pub place_at : place_of list t < count_of list → t (region_at list (place_of list t)) ≡ true
  place_at h = (first_is (count_of list) 0).at (omega arith)

  -- .. those before it do not ..
  pub place_before : (j : ℕ) → j < place_of list t → t (region_at list j) ≡ false
  place_before j h = (first_is (count_of list) 0).before j (omega arith) h

  -- .. and no other number is so.
  pub place_is : (k : ℕ) → k ≤ count_of list → ((j : ℕ) → j < k → t (region_at list j) ≡ false)
      → (k < count_of list → t (region_at list k) ≡ true) → place_of list t ≡ k
  place_is k most before at =
      let p = place_of list t in
      elim (dec_lt p k) [
        | yes h ↦ absurd (true≢false (sym (place_at (omega arith)) ∙ before p h))
        | no h ↦ elim (dec_lt k p) [
          | yes g ↦ absurd (true≢false (sym (at (omega (arith, place_most))) ∙ place_before k g))
          | no g ↦ omega arith
        ]
      ]

  -- The same of a search that says where there is none.
  pub found_is : (k : ℕ) → k < count_of list → ((j : ℕ) → j < k → t (region_at list j) ≡ false)
      → t (region_at list k) ≡ true → Some k ≡ found list t
  found_is k h before at =
      let e = place_is k (omega arith) before (λ g. at) in
      rw (e, lt-ltb k (count_of list) h)

  pub found_not : ((j : ℕ) → j < count_of list → t (region_at list j) ≡ false) → None ≡ found list t
  found_not before =
      let e = place_is (count_of list) (omega arith) before (λ g. absurd (omega arith)) in
      rw (e, le-ltb (count_of list) (count_of list) (omega arith))

  pub found_some : {k : ℕ} → found list t ≡ Some k → (place_of list t ≡ k) × (k < count_of list)
  found_some {k} e = by_cases (ltb (place_of list t) (count_of list))
      (λ z. let s : Some (place_of list t) ≡ Some k = rw z at e in
      let n : place_of list t ≡ k = cc in (n, rw n at (ltb-true _ _ z)))
      (λ z. let s : None ≡ Some k = rw z at e in cc)

  pub found_none : found list t ≡ None → count_of list ≤ place_of list t
  found_none e = by_cases (ltb (place_of list t) (count_of list))
      (λ z. let s : Some (place_of list t) ≡ None = rw z at e in cc)
      (λ z. ltb-false _ _ z)

  -- It finds the number that a search with a count for none finds.
  pub found_place : unwrap_or (found list t) (count_of list) ≡ place_of list t
  found_place = by_cases (ltb (place_of list t) (count_of list))
      (λ z. rw z)
      (λ z. rw z (let b = ltb-false _ _ z in let m = place_most in omega arith))

-- A region of the caller's own: it is held, and the caller owns it.
module _ (list : List ℕ) (caller : ℕ) (a : Region) where
  pub own_some : {k : ℕ} → found_own list caller a ≡ Some k
      → (place_of list (same_words a) ≡ k) × (owned_at list caller k ≡ true)
  own_some {k} e = by_cases (owned_at list caller (place_of list (same_words a)))
      (λ z. let s : Some (place_of list (same_words a)) ≡ Some k = rw z at e in
      let n : place_of list (same_words a) ≡ k = cc in (n, rw n at z))
      (λ z. let s : None ≡ Some k = rw z at e in cc)

  pub own_none : found_own list caller a ≡ None → owned_at list caller (place_of list (same_words a)) ≡ false
  own_none e = by_cases (owned_at list caller (place_of list (same_words a)))
      (λ z. let s : Some (place_of list (same_words a)) ≡ None = rw z at e in cc)
      (λ z. z)

-- What the search goes by; and what the calls go by that it serves.
pub ruleset searching = (found_is, found_not)

pub ruleset searched = (found_some, found_none, own_some, own_none)
