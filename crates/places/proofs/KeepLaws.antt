-- Laws of keeping: the kept tables get their places first, the new ones after them; and where the tables fit, all
-- find theirs.
use Prim.Native.Nat.{ℕ, zero, suc, ◌+◌, ◌-◌, ◌≤◌, ◌<◌}
use mathlib.Core.Path.{◌≡◌, refl, sym, ◌∙◌}
use mathlib.Core.Logic.{◌≢◌, ◌⊎◌, inl, inr}
use mathlib.Core.Bool.{Bool, true, false, ◌&&◌, true≢false}
use native.Mathlib.Omega.{arith}
use native.Mathlib.Decide.{ℕ_discrete, dec_lt}
use borrow.Author.Tests.{eq-eqb, ne_eqb, lt-ltb, le-ltb}
use Rattle.theory.proofs.Logic.{by_cases, and_both}
use Rattle.places.specs.Count.{count}
use Rattle.places.specs.Owners.{fresh, Owned, Handing, Keeping, vacant, given_to}
use Rattle.places.proofs.HandLaws.{hand_start, hand_skip, hand_take, hand_done, hand_full}

given_at : (owner : ℕ → ℕ) (p i : ℕ) → given_to owner p i p ≡ i
given_at owner p i = rw (eq-eqb p p refl) refl

given_off : (owner : ℕ → ℕ) (p i q : ℕ) → q ≢ p → given_to owner p i q ≡ owner q
given_off owner p i q d = rw (ne_eqb q p d) refl

module _ (n m : ℕ) (want old : ℕ → Bool) (was : ℕ → ℕ)
    (one : (i j : ℕ) → i < n → j < n → old i ≡ true → old j ≡ true → was i ≡ was j → i ≡ j) where
  -- The loop of keeping starts with no table at any place.
  pub keep_start : {owner : ℕ → ℕ} → ((p : ℕ) → p < m → n ≤ owner p) → Keeping n m want old was 0 owner
  keep_start {owner} e = record {
    only = λ p h b. let x = e p h in absurd (omega arith);
    have = λ j h k v w. absurd
        (omega arith);
  }

  -- It passes over blocks that are not kept, up to block `j` ..
  pub keep_skip_to : {owner : ℕ → ℕ} (i j : ℕ) → i ≤ j → ((b : ℕ) → i ≤ b → b < j → (want b && old b) ≡ false)
      → Keeping n m want old was i owner → Keeping n m want old was j owner
  keep_skip_to i j le off k = record {
    only = λ p h b. let (x, y, z, u) = k.only p h b in (omega arith, y, z, u);
    have = λ b h lt v w. elim (dec_lt b i) [
      | yes q ↦ k.have b h q v w
      | no q ↦ absurd (true≢false (sym (rw (v, w) refl) ∙ off b (omega arith) lt))
    ];
  }

  -- .. or over one such block.
  pub keep_skip : {owner : ℕ → ℕ} (i : ℕ) → Keeping n m want old was i owner → (want i && old i) ≡ false
      → Keeping n m want old was (suc i) owner
  keep_skip i k e = keep_skip_to i (suc i) (omega arith) (λ b lo hi. let z : b ≡ i = omega arith in rw z e) k

  -- It gives a kept block the place that it had.
  pub keep_take : {owner : ℕ → ℕ} (after : ℕ → ℕ) (i : ℕ) → Keeping n m want old was i owner → i < n → want i ≡ true
      → old i ≡ true
      → after (was i) ≡ i → ((q : ℕ) → q ≢ was i → after q ≡ owner q) → Keeping n m want old was (suc i) after
  keep_take {owner} after i k h v w at off = record {
    only = λ p hp b. elim (ℕ_discrete p (was i)) [
      | yes q ↦ rw (q, at) (omega arith, v, w, refl)
      | no q ↦ (let (x, y, z, u) = k.only p hp (rw (off p q) at b) in rw (off p q) (omega arith, y, z, u))
    ];
    have = λ j hj b x y. elim (ℕ_discrete j i) [
      | yes q ↦ rw q at
      | no q ↦ off (was j) (λ z. q (one j i hj h y w z)) ∙ k.have j hj (omega arith) x y
    ];
  }

  module _ (low : (i : ℕ) → i < n → old i ≡ true → was i < m) where
    -- It ends where giving out starts.
    pub keep_done : {owner : ℕ → ℕ} → Keeping n m want old was n owner → Handing n m want old (vacant n owner) was 0 0
        owner
    keep_done {owner} k = hand_start n m want old (vacant n owner) was
        (record {
          only = λ p h b. (k.only p h b).1;
          kept = λ p h b o. (rw (lt-ltb (owner p) n b) refl, (k.only p h b).3);
          rank = λ p h b o. absurd (true≢false (sym (k.only p h b).2 ∙ o));
          none = λ p h b. rw (le-ltb (owner p) n b) refl;
        })
        (λ p h b. (k.only p h b).2)
        (λ j h v w. (was j, low j h w, k.have j h h v w))

    all_kept : (i : ℕ) → i ≤ n → (owner : ℕ → ℕ) × Keeping n m want old was i owner
    all_kept zero h = ((λ p. n), keep_start (λ p b. omega arith))
    all_kept (suc i) h =
        let (o, k) = all_kept i (omega arith) in
        by_cases (want i && old i)
        (λ e.
        let (v, w) = and_both (want i) (old i) e in
        (given_to o (was i) i, keep_take (given_to o (was i) i) i k h v w (given_at o (was i) i) (given_off o (was i) i)))
        (λ e. (o, keep_skip i k e))

  -- The next free place, or none.
  next_free : (free : ℕ → Bool) (c k : ℕ) →
      ((p : ℕ) × (c ≤ p) × (p < c + k) × (free p ≡ true) × ((q : ℕ) → c ≤ q → q < p → free q ≡ false))
      ⊎ ((q : ℕ) → c ≤ q → q < c + k → free q ≡ false)
  next_free free c zero = inr (λ q lo hi. absurd (omega arith))
  next_free free c (suc k) = go (next_free free c k)
    where
      go : ((p : ℕ) × (c ≤ p) × (p < c + k) × (free p ≡ true) × ((q : ℕ) → c ≤ q → q < p → free q ≡ false))
          ⊎ ((q : ℕ) → c ≤ q → q < c + k → free q ≡ false)
          → ((p : ℕ) × (c ≤ p) × (p < c + suc k) × (free p ≡ true) × ((q : ℕ) → c ≤ q → q < p → free q ≡ false))
          ⊎ ((q : ℕ) → c ≤ q → q < c + suc k → free q ≡ false)
      go (inl (p, lo, hi, f, g)) = inl (p, lo, omega arith, f, g)
      go (inr g) = by_cases (free (c + k))
          (λ e. inl (c + k, omega arith, omega arith, e, g))
          (λ e. inr (λ q lo hi. elim (ℕ_discrete q (c + k)) [ yes z ↦ rw z e | no z ↦ g q lo (omega arith) ]))

  module _ (free : ℕ → Bool) {first : ℕ → ℕ} (begin : Handing n m want old free was 0 0 first)
      (fits : count want n ≤ m) where
    served : (i : ℕ) → i ≤ n → (c : ℕ) × (owner : ℕ → ℕ) × Handing n m want old free was i c owner
    served zero h = (0, first, begin)
    served (suc i) h =
        let (c, o, s) = served i (omega arith) in
        by_cases (fresh want old i)
        (λ e. go c o s e (next_free free c (m - c)))
        (λ e. (c, o, hand_skip n m want old free was i c s e))
      where
        go : (c : ℕ) (o : ℕ → ℕ) → Handing n m want old free was i c o → fresh want old i ≡ true
            → ((p : ℕ) × (c ≤ p) × (p < c + (m - c)) × (free p ≡ true) × ((q : ℕ) → c ≤ q → q < p → free q ≡ false))
            ⊎ ((q : ℕ) → c ≤ q → q < c + (m - c) → free q ≡ false)
            → (c : ℕ) × (owner : ℕ → ℕ) × Handing n m want old free was (suc i) c owner
        go c o s e (inl (p, lo, hi, f, g)) = (
          suc p,
          given_to o p i,
          hand_take n m want old free was (given_to o p i) i c p s h e lo
              (let b = s.low in omega arith) f g (given_at o p i) (given_off o p i),
        )
        go c o s e (inr g) =
            let x = hand_full n m want old free was i c s h e (λ k lo hi. g k lo (let b = s.low in omega arith)) in
            absurd (omega arith)

  -- Where the tables wanted are no more than the places, they find theirs.
  pub owners : ((i : ℕ) → i < n → old i ≡ true → was i < m) → count want n ≤ m
      → (free : ℕ → Bool) × (owner : ℕ → ℕ) × Owned n m want old free was owner
  owners low fits =
      let (first, k) = all_kept low n (omega arith) in
      let (c, o, s) = served (vacant n first) (keep_done low k) fits n (omega arith) in
      (vacant n first, o, hand_done n m want old (vacant n first) was c s)
