-- The words of the finished pool, case by case: roots, places with an owner, places without one, and what lies past
-- the pool.
use Prim.Native.Nat.{ℕ, zero, suc, ◌+◌, ◌*◌, ◌-◌, ◌/◌, ◌%◌, ◌≤◌, ◌<◌}
use mathlib.Core.Path.{◌≡◌, refl, ap, ◌∙◌}
use mathlib.Core.Logic.{◌⊎◌, inl, inr}
use mathlib.Core.Bool.{Bool, true, false, cond, ◌&&◌, not}
use native.Mathlib.Omega.{arith}
use native.Mathlib.Decide.{dec_lt}
use lib.Dec.{ltb}
use borrow.Author.Tests.{lt-ltb, le-ltb}
use Rattle.theory.proofs.Logic.{by_cases}
use Rattle.table.specs.declared.Shape.{Shape}
use Rattle.table.specs.Shape.{first_middle, first_leaf, pool_length, first_place, places, size}
use Rattle.table.specs.Map.{zone}
use Rattle.table.specs.Wants.{said_of}
use Rattle.places.specs.Count.{heights, blocks, domain_of, address_of, want}
use Rattle.places.specs.Final.{number, place_at, table_of, place, entry_word, table_word, place_word, final}
use Rattle.places.specs.Final.{kept_word}

module _ (s : Shape) where
  -- Word `k` is entry `e` of place `p` of height `h`.
  abbrev pub InPlace : ℕ → ℕ → ℕ → ℕ → Type 0
  InPlace k h p e = (h < heights) × (p < places s h) × (e < size h) × (k ≡ place_at s h p + e)

  -- Where word `k` lies in the places of height `h`: its place, and its entry there.
  abbrev place_of : ℕ → ℕ → ℕ
  place_of h k = (k - first_place s h) / size h

  abbrev entry_in : ℕ → ℕ → ℕ
  entry_in h k = (k - first_place s h) % size h

  -- Every word is of a root or of a place, or lies past the pool.
  pub which_word : (k : ℕ) → (k < first_middle s)
      ⊎ (((h : ℕ) × (p : ℕ) × (e : ℕ) × InPlace k h p e) ⊎ (pool_length s ≤ k))
  which_word k = elim (dec_lt k (first_middle s)) [
    | yes a ↦ inl a
    | no a ↦ elim (dec_lt k (first_leaf s)) [
      | yes b ↦ inr (inl (1, place_of 1 k, entry_in 1 k, (omega arith, omega arith, omega arith, omega arith)))
      | no b ↦ elim (dec_lt k (pool_length s)) [
        | yes c ↦ inr (inl (0, place_of 0 k, entry_in 0 k, (omega arith, omega arith, omega arith, omega arith)))
        | no c ↦ inr (inr (omega arith))
      ]
    ]
  ]

  -- A word of a place is past the roots, and its height, place and entry are found from its number.
  pub in_place : (k h p e : ℕ) → InPlace k h p e
      → (first_middle s ≤ k) × (zone s k ≡ h) × (place_of h k ≡ p) × (entry_in h k ≡ e)
  in_place k zero p e (hi, b, c, q) = (
    omega arith,
    rw (le-ltb k (first_middle s) (omega arith), le-ltb k (first_leaf s) (omega arith)) refl,
    omega arith,
    omega arith,
  )
  in_place k (suc zero) p e (hi, b, c, q) = (
    omega arith,
    rw (le-ltb k (first_middle s) (omega arith), lt-ltb k (first_leaf s) (omega arith)) refl,
    omega arith,
    omega arith,
  )
  in_place k (suc (suc h)) p e (hi, b, c, q) = absurd (omega arith)

  -- What lies past the pool is of no place.
  past_place : (k : ℕ) → pool_length s ≤ k → (first_middle s ≤ k) × (zone s k ≡ 0) × (places s 0 ≤ place_of 0 k)
  past_place k b = (
    omega arith,
    rw (le-ltb k (first_middle s) (omega arith), le-ltb k (first_leaf s) (omega arith)) refl,
    omega arith,
  )

  module _ (owner : ℕ → ℕ → ℕ) where
    pub place_table : (h d a : ℕ) → h < heights → place s owner h d a ≡ table_of s owner h (number h d a)
    place_table h d a hi = rw (lt-ltb h heights hi)

    module _ (R : ℕ → ℕ → ℕ) (P : ℕ → ℕ) where
      pub final_root : (k : ℕ) → k < first_middle s → final s owner R P k ≡ entry_word s owner R P 1 k
      unfolding final
      final_root k b = rw (lt-ltb k (first_middle s) b)

      final_below : (k h : ℕ) → first_middle s ≤ k → zone s k ≡ h
          → final s owner R P k ≡ place_word s owner R P h k (place_of h k) (entry_in h k)
      unfolding final
      final_below k h a z =
          ap (λ b. cond b (entry_word s owner R P 1 k)
          (place_word s owner R P (zone s k) k (place_of (zone s k) k) (entry_in (zone s k) k)))
          (le-ltb k (first_middle s) a)
          ∙ ap (λ x. place_word s owner R P x k (place_of x k) (entry_in x k)) z

      pub final_place : (k h p e : ℕ) → InPlace k h p e → final s owner R P k ≡ place_word s owner R P h k p e
      final_place k h p e ip =
          let (a, z, x, y) = in_place k h p e ip in
          final_below k h a z ∙ ap (λ u. place_word s owner R P h k u (entry_in h k)) x
          ∙ ap (place_word s owner R P h k p) y

      pub final_past : (k : ℕ) → pool_length s ≤ k → final s owner R P k ≡ P k
      final_past k b =
          let (a, z, x) = past_place k b in
          final_below k 0 a z ∙ rw (le-ltb (place_of 0 k) (places s 0) x)

      -- A place holds the table of its owner; one without an owner holds what it held.
      pub place_owned : (h k p e i : ℕ) → p < places s h → owner h p ≡ i → i < blocks h * s.domains
          → place_word s owner R P h k p e ≡ table_word s owner R P h i e
      place_owned h k p e i bp o b = rw (o, lt-ltb p (places s h) bp, lt-ltb i (blocks h * s.domains) b)

      pub place_idle : (h k p e : ℕ) → blocks h * s.domains ≤ owner h p → place_word s owner R P h k p e ≡ P k
      place_idle h k p e b = by_cases (ltb p (places s h))
          (λ x. rw (x, le-ltb (owner h p) (blocks h * s.domains) b))
          (λ x. rw x)

      -- An entry leads where its block wants a table, and else says its rights.
      pub entry_leads : (h i : ℕ) → want R h i ≡ true → entry_word s owner R P h i ≡ table_of s owner h i
      entry_leads h i w = ap (λ b. cond b (table_of s owner h i) (said_of (R (domain_of h i)) (suc h) (address_of h i))) w

      pub entry_says_lem : (h i : ℕ) → want R h i ≡ false
          → entry_word s owner R P h i ≡ said_of (R (domain_of h i)) (suc h) (address_of h i)
      entry_says_lem h i w = ap (λ b. cond b (table_of s owner h i) (said_of (R (domain_of h i)) (suc h) (address_of h i))) w

  -- The test of kept words, case by case.
  module _ (free : ℕ → ℕ → Bool) where
    pub kept_root : (k : ℕ) → k < first_middle s → kept_word s free k ≡ true
    unfolding kept_word
    kept_root k b = rw (lt-ltb k (first_middle s) b)

    kept_below : (k h : ℕ) → first_middle s ≤ k → zone s k ≡ h
        → kept_word s free k ≡ (ltb (place_of h k) (places s h) && not (free h (place_of h k)))
    unfolding kept_word
    kept_below k h a z =
        ap (λ b. cond b true (ltb (place_of (zone s k) k) (places s (zone s k)) && not (free (zone s k)
        (place_of (zone s k) k))))
        (le-ltb k (first_middle s) a)
        ∙ ap (λ x. ltb (place_of x k) (places s x) && not (free x (place_of x k))) z

    pub kept_place : (k h p e : ℕ) → InPlace k h p e → kept_word s free k ≡ not (free h p)
    kept_place k h p e ip =
        let (a, z, x, _) = in_place k h p e ip in
        kept_below k h a z ∙ rw (x, lt-ltb p (places s h) ip.1)

    pub kept_past : (k : ℕ) → pool_length s ≤ k → kept_word s free k ≡ false
    kept_past k b =
        let (a, z, x) = past_place k b in
        kept_below k 0 a z ∙ rw (le-ltb (place_of 0 k) (places s 0) x)
