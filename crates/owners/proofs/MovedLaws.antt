-- What each call moves: after a region is made or passed on, its words are the new owner's alone; after an export is
-- given, its receiver may set what the export says; and for every other word, and every other caller, nothing moved.
use Prim.Native.Nat.{ℕ, ◌+◌, ◌^◌, ◌≤◌, ◌<◌}
use mathlib.Core.Path.{◌≡◌, refl, sym, ap, ◌∙◌}
use mathlib.Core.Logic.{◌≢◌}
use mathlib.Core.Bool.{true, false, not, ◌&&◌, true≢false, or-false}
use mathlib.Core.List.{List}
use native.Mathlib.Omega.{arith}
use native.Mathlib.Nat.{zero-div}
use native.Mathlib.Decide.{dec_lt, ℕ_discrete}
use borrow.Author.Tests.{lt-ltb, le-ltb, ne_eqb}
use lib.Dec.{eqb, ltb}
use lib.ListN.{length}
use Rattle.theory.proofs.Logic.{by_cases}
use Rattle.words.specs.declared.Region.{Region}
use Rattle.owners.specs.declared.Owned.{Owned}
use Rattle.owners.specs.Regions.{list_long, max_regions, region_at, count_of, holds, place_of, Disjoint}
use Rattle.owners.specs.Rules.{export_domains, no_greater, exports, may_in, may_at, may_word}
use Rattle.owners.specs.Calls.{same_words, fresh_region, put_at, added, with_export}
use Rattle.owners.proofs.PlaceLaws.{place_most, place_at, place_before, place_is}
use Rattle.owners.proofs.ReachLaws.{not_held, word_held}
use Rattle.owners.proofs.CallLaws.{owned_held}
use Rattle.owners.proofs.ExportLaws.{export_given, export_right, export_kept, export_right_kept}
use Rattle.owners.proofs.StoreLaws.{put_same, put_other, put_count, added_count, added_last, added_other}
use Rattle.owners.proofs.OutcomeLaws.{Made, Passed, Gave}
use Rattle.owners.proofs.DisjointLaws.{apart_all, found_words}

-- A word of region `k`, before which none holds it.
may_here : (list : List ℕ) (k w : ℕ) (r : Owned) → k < count_of list → region_at list k ≡ r → holds w r ≡ true
    → ((j : ℕ) → j < k → holds w (region_at list j) ≡ false) → (caller domain right : ℕ)
    → may_word list caller domain right w ≡ may_in r caller domain right
may_here list k w r h e in-r before caller domain right =
    ap (λ x. may_at list x caller domain right) (place_is list (holds w) k (omega arith) before
    (λ b. ap (holds w) e ∙ in-r))
    ∙ rw (lt-ltb k (count_of list) h) (ap (λ x. may_in x caller domain right) e)

-- In a disjoint list the one region that holds a word decides.
pub disjoint_may : (list : List ℕ) → Disjoint list → (k w : ℕ) → k < count_of list → holds w (region_at list k) ≡ true
    → (caller domain right : ℕ) → may_word list caller domain right w ≡ may_in (region_at list k) caller domain right
disjoint_may list d k w h e = may_here list k w (region_at list k) h refl e
    (λ j b. not_held (region_at list j) w (λ z. let y = d j k w (omega arith) h z e in omega arith))

-- Where no export is given, the owner alone may.
fresh_may : (owner : ℕ) (a : Region) (caller domain right : ℕ)
    → may_in (fresh_region owner a) caller domain right ≡ eqb caller owner
fresh_may owner a caller domain right =
    let z : exports (fresh_region owner a) caller ≡ false = by_cases (ltb caller export_domains)
    (λ e. rw (e, zero-div (2 ^ caller))) (λ e. rw e) in
    rw z (or-false (eqb caller owner))

-- A region stored over one of the same words, in place `k`.
module _ (list : List ℕ) (k : ℕ) (r : Owned) (long : length list ≡ list_long) (held : k < count_of list)
    (few : count_of list ≤ max_regions) (same : (w : ℕ) → holds w r ≡ holds w (region_at list k)) (w : ℕ) where
  abbrev after : List ℕ
  after = put_at list k r

  count : count_of after ≡ count_of list
  count = put_count list k r (omega arith)

  put_inside : Disjoint list → holds w r ≡ true → (caller domain right : ℕ)
      → may_word after caller domain right w ≡ may_in r caller domain right
  put_inside d e = may_here after k w r (rw count held) (put_same list k r (omega arith)) e
      (λ j h. ap (holds w) (put_other list k r j (λ z. omega arith))
      ∙ not_held (region_at list j) w (λ z. let y = d j k w (omega arith) held z (sym (same w) ∙ e) in omega arith))

  put_outside : holds w r ≡ false → (caller domain right : ℕ)
      → may_word after caller domain right w ≡ may_word list caller domain right w
  put_outside e caller domain right =
      let p = place_of list (holds w) in
      let most = place_most list (holds w) in
      let free : (j : ℕ) → j < p → holds w (region_at after j) ≡ false = λ j h. elim (ℕ_discrete j k) [
        | yes z ↦ rw z (ap (holds w) (put_same list k r (omega arith)) ∙ e)
        | no z ↦ ap (holds w) (put_other list k r j z) ∙ place_before list (holds w) j h
      ] in
      let kept : p < count_of list → region_at after p ≡ region_at list p = λ h. put_other list k r p
      (λ z. true≢false (sym (place_at list (holds w) h) ∙ ap (λ x. holds w (region_at list x)) z
      ∙ sym (same w) ∙ e)) in
      let q : place_of after (holds w) ≡ p = place_is after (holds w) p (rw count most) free
      (λ h. let b : p < count_of list = omega (arith, count, h) in ap (holds w) (kept b)
      ∙ place_at list (holds w) b) in
      ap (λ x. may_at after x caller domain right) q
      ∙ elim (dec_lt p (count_of list)) [
        | yes h ↦ rw (count, lt-ltb p (count_of list) h) (ap (λ x. may_in x caller domain right) (kept h))
        | no h ↦ rw (count, le-ltb p (count_of list) (omega arith))
      ]

-- A region was made.
module _ (list : List ℕ) (by owner : ℕ) (after : List ℕ) (m : Made list by owner after) (w : ℕ) where
  pub made_inside : m.words.lo ≤ w → w < m.words.hi → (caller domain right : ℕ)
      → may_word after caller domain right w ≡ eqb caller owner
  made_inside g h caller domain right =
      let r = fresh_region owner m.words in
      let n = added_count list r m.long m.room in
      rw m.now_is
      (may_here (added list r) (count_of list) w r (omega arith) (added_last list r m.long m.room)
      (word_held r w g h)
      (λ j b. ap (holds w) (added_other list r m.long m.room j b)
      ∙ not_held (region_at list j) w (apart_all list m.words m.apart j w b g h)) caller domain right
      ∙ fresh_may owner m.words caller domain right)

  pub made_outside : holds w (fresh_region owner m.words) ≡ false → (caller domain right : ℕ)
      → may_word after caller domain right w ≡ may_word list caller domain right w
  made_outside e caller domain right =
      let r = fresh_region owner m.words in
      let L = added list r in
      let n = added_count list r m.long m.room in
      let p = place_of list (holds w) in
      let old : (j : ℕ) → j < count_of list → region_at L j ≡ region_at list j =
      added_other list r m.long m.room in
      rw m.now_is (elim (dec_lt p (count_of list)) [
        | yes h ↦ ap (λ x. may_at L x caller domain right) (place_is L (holds w) p (omega arith)
            (λ j b. ap (holds w) (old j (omega arith)) ∙ place_before list (holds w) j b)
            (λ b. ap (holds w) (old p h) ∙ place_at list (holds w) h))
            ∙ rw (n, lt-ltb p (count_of list) h, lt-ltb p (count_of list + 1) (omega arith))
            (ap (λ x. may_in x caller domain right) (old p h))
        | no h ↦ ap (λ x. may_at L x caller domain right) (place_is L (holds w) (count_of list + 1) (omega arith)
            (λ j b. elim (dec_lt j (count_of list)) [
              | yes y ↦ ap (holds w) (old j y) ∙ place_before list (holds w) j (omega arith)
              | no y ↦ let z : j ≡ count_of list = omega arith in
                  rw z (ap (holds w) (added_last list r m.long m.room) ∙ e)
            ])
            (λ b. absurd (omega arith)))
            ∙ rw (
              n,
              le-ltb (count_of list + 1) (count_of list + 1) (omega arith),
              le-ltb p (count_of list) (omega arith),
            )
      ])

-- A region was passed on.
module _ (list : List ℕ) (by owner : ℕ) (after : List ℕ) (m : Passed list by owner after) (w : ℕ) where
  pub passed_inside : Disjoint list → m.words.lo ≤ w → w < m.words.hi → (caller domain right : ℕ)
      → may_word after caller domain right w ≡ eqb caller owner
  passed_inside d g h caller domain right =
      let o = m.owns in
      let r = fresh_region owner m.words in
      let k = owned_held list by _ o.owned in
      rw m.now_is
      (put_inside list (place_of list (same_words m.words)) r o.long k o.few
      (found_words list m.words owner k) w d (word_held r w g h) caller domain right
      ∙ fresh_may owner m.words caller domain right)

  pub passed_outside : holds w (fresh_region owner m.words) ≡ false → (caller domain right : ℕ)
      → may_word after caller domain right w ≡ may_word list caller domain right w
  passed_outside e caller domain right =
      let o = m.owns in
      let k = owned_held list by _ o.owned in
      rw m.now_is
      (put_outside list (place_of list (same_words m.words)) (fresh_region owner m.words) o.long k o.few
      (found_words list m.words owner k) w e caller domain right)

-- An export was given.
module _ (list : List ℕ) (by receiver given : ℕ) (after : List ℕ) (m : Gave list by receiver given after) (w : ℕ) where
  -- The region of which it was given.
  abbrev whole : Owned
  whole = region_at list (place_of list (same_words m.words))

  -- The receiver, who does not own the region, may set for any but itself a right no greater ..
  pub gave_receiver : Disjoint list → holds w whole ≡ true → receiver < export_domains → receiver ≢ whole.owner
      → (domain right : ℕ)
      → may_word after receiver domain right w ≡ (not (eqb receiver domain) && no_greater right given)
  gave_receiver d e b n domain right =
      let o = m.owns in
      let l = m.low in
      rw m.now_is
      (put_inside list (place_of list (same_words m.words)) (with_export whole receiver given) o.long
      (owned_held list by _ o.owned) o.few (λ x. refl) w d e receiver domain right
      ∙ rw (
        ne_eqb receiver whole.owner n,
        export_given whole receiver given b,
        export_right whole receiver given (omega arith),
      ))

  -- .. for every other caller nothing moved ..
  pub gave_others : Disjoint list → holds w whole ≡ true → (caller domain right : ℕ) → caller ≢ receiver
      → may_word after caller domain right w ≡ may_word list caller domain right w
  gave_others d e caller domain right n =
      let o = m.owns in
      let l = m.low in
      let k = owned_held list by _ o.owned in
      rw m.now_is
      (put_inside list (place_of list (same_words m.words)) (with_export whole receiver given) o.long
      (owned_held list by _ o.owned) o.few (λ x. refl) w d e caller domain right
      ∙ rw (
        export_kept whole receiver given caller n,
        export_right_kept whole receiver given caller n (omega arith),
      ) (sym (disjoint_may list d (place_of list (same_words m.words)) w k e caller domain right)))

  -- .. nor on any other word.
  pub gave_outside : holds w whole ≡ false → (caller domain right : ℕ)
      → may_word after caller domain right w ≡ may_word list caller domain right w
  gave_outside e caller domain right =
      let o = m.owns in
      rw m.now_is
      (put_outside list (place_of list (same_words m.words)) (with_export whole receiver given) o.long
      (owned_held list by _ o.owned) o.few (λ x. refl) w e caller domain right)
