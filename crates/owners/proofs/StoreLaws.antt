-- Laws of a region stored: it is the one stored, the others and the count stay, and a region more comes last.
use Prim.Native.Nat.{ℕ, zero, suc, ◌+◌, ◌*◌, ◌≤◌, ◌<◌}
use mathlib.Core.Path.{◌≡◌, refl, ap, ◌∙◌}
use mathlib.Core.List.{List, [], ◌∷◌}
use native.Mathlib.Omega.{arith}
use native.Mathlib.Decide.{dec_lt}
use native.Mathlib.Nat.{not-suc-le-zero, le_of_suc-le-suc}
use lib.ListN.{length, get_or, set, length-set}
use lib.Seq.{sets, length-sets, get_or-set_same, get_or-set_other}
use Rattle.owners.specs.declared.Owned.{Owned}
use Rattle.owners.specs.Regions.{list_long, count_place, max_regions, region_at, count_of}
use Rattle.owners.specs.Calls.{owned_words, put_at, added}

-- Words stored in a row.
sets_below : (vs l : List ℕ) (i j : ℕ) → j < i → get_or (sets l i vs) j 0 ≡ get_or l j 0
sets_below [] l i j h = refl
sets_below (v ∷ vs) l i j h = sets_below vs (set l i v) (suc i) j (omega arith)
    ∙ get_or-set_other l i j v 0 (λ e. omega arith)

sets_above : (vs l : List ℕ) (i j : ℕ) → i + length vs ≤ j → get_or (sets l i vs) j 0 ≡ get_or l j 0
sets_above [] l i j h = refl
sets_above (v ∷ vs) l i j h =
    let n : length (v ∷ vs) ≡ suc (length vs) = refl in
    sets_above vs (set l i v) (suc i) j (omega arith) ∙ get_or-set_other l i j v 0 (λ e. omega arith)

sets_at : (vs l : List ℕ) (i j : ℕ) → j < length vs → i + length vs ≤ length l
    → get_or (sets l i vs) (i + j) 0 ≡ get_or vs j 0
sets_at [] l i j h b = absurd (not-suc-le-zero h)
sets_at (v ∷ vs) l i zero h b =
    let n : length (v ∷ vs) ≡ suc (length vs) = refl in
    let z : i + 0 ≡ i = omega arith in
    ap (λ k. get_or (sets (set l i v) (suc i) vs) k 0) z ∙ sets_below vs (set l i v) (suc i) i (omega arith)
    ∙ get_or-set_same l i v 0 (omega arith)
sets_at (v ∷ vs) l i (suc j) h b =
    let n : length (v ∷ vs) ≡ suc (length vs) = refl in
    let z : i + suc j ≡ suc i + j = omega arith in
    let m = length-set l i v in
    ap (λ k. get_or (sets (set l i v) (suc i) vs) k 0) z
    ∙ sets_at vs (set l i v) (suc i) j (le_of_suc-le-suc h) (omega arith)

-- Five equal words are one region.
five_words : (L M : List ℕ) (i : ℕ) → ((j : ℕ) → j < 5 → get_or L (5 * i + j) 0 ≡ get_or M (5 * i + j) 0)
    → region_at L i ≡ region_at M i
five_words L M i f =
    let z : 5 * i ≡ 5 * i + 0 = omega arith in
    let first : get_or L (5 * i) 0 ≡ get_or M (5 * i) 0 =
    ap (λ k. get_or L k 0) z ∙ f 0 (omega arith) ∙ ap (λ k. get_or M k 0) (omega arith) in
    rw (first, f 1 (omega arith), f 2 (omega arith), f 3 (omega arith), f 4 (omega arith))

module _ (L : List ℕ) (k : ℕ) (r : Owned) where
  pub put_length : length (put_at L k r) ≡ length L
  put_length = length-sets L (5 * k) (owned_words r)

  pub put_same : 5 * k + 5 ≤ length L → region_at (put_at L k r) k ≡ r
  put_same b =
      let z : 5 * k ≡ 5 * k + 0 = omega arith in
      let first : get_or (put_at L k r) (5 * k) 0 ≡ r.owner =
      ap (λ j. get_or (put_at L k r) j 0) z ∙ sets_at (owned_words r) L (5 * k) 0 (omega arith) b in
      rw (
        first,
        sets_at (owned_words r) L (5 * k) 1 (omega arith) b,
        sets_at (owned_words r) L (5 * k) 2 (omega arith) b,
        sets_at (owned_words r) L (5 * k) 3 (omega arith) b,
        sets_at (owned_words r) L (5 * k) 4 (omega arith) b,
      )

  put_outside : (j : ℕ) → (5 * k ≤ j → j < 5 * k + 5 → ⊥) → get_or (put_at L k r) j 0 ≡ get_or L j 0
  put_outside j n = elim (dec_lt j (5 * k)) [
    | yes h ↦ sets_below (owned_words r) L (5 * k) j h
    | no h ↦ elim (dec_lt j (5 * k + 5)) [
      | yes g ↦ absurd (n (omega arith) g)
      | no g ↦ sets_above (owned_words r) L (5 * k) j (omega arith)
    ]
  ]

  pub put_other : (i : ℕ) → (i ≡ k → ⊥) → region_at (put_at L k r) i ≡ region_at L i
  put_other i n = five_words (put_at L k r) L i (λ j h. put_outside (5 * i + j) (λ g b. n (omega arith)))

  pub put_count : k < max_regions → count_of (put_at L k r) ≡ count_of L
  put_count h = put_outside count_place (λ g b. omega arith)

module _ (L : List ℕ) (r : Owned) (long : length L ≡ list_long) (room : count_of L < max_regions) where
  -- The count stored leaves every region.
  count_stored : (i : ℕ) → i < max_regions → region_at (added L r) i ≡ region_at (put_at L (count_of L) r) i
  count_stored i h = five_words (added L r) (put_at L (count_of L) r) i (λ j b.
      get_or-set_other (put_at L (count_of L) r) count_place (5 * i + j) (count_of L + 1) 0 (λ e. omega arith))

  pub added_count : count_of (added L r) ≡ count_of L + 1
  added_count =
      let n = put_length L (count_of L) r in
      get_or-set_same (put_at L (count_of L) r) count_place (count_of L + 1) 0 (omega arith)

  pub added_last : region_at (added L r) (count_of L) ≡ r
  added_last = count_stored (count_of L) room ∙ put_same L (count_of L) r (omega arith)

  pub added_other : (i : ℕ) → i < count_of L → region_at (added L r) i ≡ region_at L i
  added_other i h = count_stored i (omega arith) ∙ put_other L (count_of L) r i (λ e. omega arith)
