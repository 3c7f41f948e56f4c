-- Laws of stretches of one right: there is one longest around a place, it ends where the right turns, and it is what
-- going from place to place finds. Assumes nothing.
use Prim.Native.Nat.{ℕ, zero, suc, ◌+◌, ◌-◌, ◌≤◌, ◌<◌}
use mathlib.Core.Path.{◌≡◌, sym, ap, ◌∙◌}
use mathlib.Core.Logic.{◌≢◌}
use native.Mathlib.Omega.{arith}
use native.Mathlib.Decide.{ℕ_discrete, dec_lt}
use borrow.Author.Tests.{eq-eqb, ne_eqb}
use Rattle.words.specs.Stretches.{Longest, first_like, last_like}

module _ (f : ℕ → ℕ) where
  -- Where the right does not turn, it is one.
  pub no_turn : (first n j : ℕ) → ((k : ℕ) → first ≤ k → k < first + n → f k ≡ f (suc k)) → first ≤ j
      → j ≤ first + n
      → f j ≡ f first
  no_turn first zero j e lo hi = ap f (omega arith)
  no_turn first (suc n) j e lo hi = elim (dec_lt j (first + suc n)) [
    | yes h ↦ no_turn first n j (λ k a b. e k a (omega arith)) lo (omega arith)
    | no h ↦
        let z : j ≡ suc (first + n) = omega arith in
        ap f z ∙ sym (e (first + n) (omega arith) (omega arith))
        ∙ no_turn first n (first + n) (λ k a b. e k a (omega arith)) (omega arith) (omega arith)
  ]

  -- From turn to turn is the longest stretch.
  pub turn_to_turn : (low high i first last : ℕ) → low ≤ first → first ≤ i → i ≤ last → last < high
      → ((k : ℕ) → first ≤ k → k < last → f k ≡ f (suc k))
      → (low < first → f (first - 1) ≢ f first) → (last + 1 < high → f last ≢ f (last + 1))
      → Longest f low high i first last
  turn_to_turn low high i first last a b c d same before after =
      let all : (j : ℕ) → first ≤ j → j ≤ last → f j ≡ f first =
      λ j lo hi. no_turn first (last - first) j (λ k x y. same k x (omega arith)) lo (omega arith) in
      record {
        low_end = a;
        from = b;
        upto = c;
        high_end = d;
        one = λ j lo hi. all j lo hi ∙ sym (all i b c);
        before = λ h e. before h (e ∙ all i b c);
        after = λ h e. after h (all last (omega arith) (omega arith) ∙ sym (all i b c) ∙ sym e);
      }

  -- There is one longest stretch.
  module _ (low high i : ℕ) {a b c d : ℕ} (x : Longest f low high i a b) (y : Longest f low high i c d) where
    pub one_first : a ≤ c
    one_first = elim (dec_lt c a) [
      | yes h ↦ absurd (x.before (omega (arith, y.low_end)) (y.one (a - 1) (omega arith)
          (omega (arith, x.from, y.upto))))
      | no h ↦ omega arith
    ]

    pub one_last : b ≤ d
    one_last = elim (dec_lt d b) [
      | yes h ↦ absurd (y.after (omega (arith, x.high_end)) (x.one (d + 1) (omega (arith, x.from, y.upto))
          (omega arith)))
      | no h ↦ omega arith
    ]

  pub one_longest : (low high i : ℕ) {a b c d : ℕ} → Longest f low high i a b → Longest f low high i c d
      → (a ≡ c) × (b ≡ d)
  one_longest low high i x y = (
    omega (arith, one_first low high i x y, one_first low high i y x),
    omega (arith, one_last low high i x y, one_last low high i y x),
  )

  -- What going down finds.
  pub first_low : (i : ℕ) → first_like f i ≤ i
  unfolding first_like
  first_low zero = omega arith
  first_low (suc i) = elim (ℕ_discrete (f i) (f (suc i))) [
    | yes e ↦ rw (eq-eqb (f i) (f (suc i)) e) (omega (arith, first_low i))
    | no e ↦ rw (ne_eqb (f i) (f (suc i)) e) (omega arith)
  ]

  pub first_same : (i k : ℕ) → first_like f i ≤ k → k < i → f k ≡ f (suc k)
  unfolding first_like
  first_same zero k lo hi = absurd (omega arith)
  first_same (suc i) k lo hi = elim (ℕ_discrete (f i) (f (suc i))) [
    | yes e ↦ elim (ℕ_discrete k i) [
      | yes z ↦ rw z e
      | no z ↦ first_same i k (rw (eq-eqb (f i) (f (suc i)) e) at lo) (omega arith)
    ]
    | no e ↦
        let lo' : suc i ≤ k = rw (ne_eqb (f i) (f (suc i)) e) at lo in
        absurd (omega arith)
  ]

  pub first_turns : (i : ℕ) → 0 < first_like f i → f (first_like f i - 1) ≢ f (first_like f i)
  unfolding first_like
  first_turns zero lo = absurd (omega arith)
  first_turns (suc i) lo = elim (ℕ_discrete (f i) (f (suc i))) [
    | yes e ↦
        let z = eq-eqb (f i) (f (suc i)) e in
        rw z (first_turns i (rw z at lo))
    | no e ↦ rw (ne_eqb (f i) (f (suc i)) e) (λ q. e (ap f (omega arith) ∙ q))
  ]

  -- What going up finds.
  pub last_high : (i n : ℕ) → (i ≤ last_like f i n) × (last_like f i n ≤ i + n)
  unfolding last_like
  last_high i zero = (omega arith, omega arith)
  last_high i (suc n) = elim (ℕ_discrete (f i) (f (suc i))) [
    | yes e ↦
        let (a, b) = last_high (suc i) n in
        rw (eq-eqb (f i) (f (suc i)) e) (omega arith, omega arith)
    | no e ↦ rw (ne_eqb (f i) (f (suc i)) e) (omega arith, omega arith)
  ]

  pub last_same : (i n k : ℕ) → i ≤ k → k < last_like f i n → f k ≡ f (suc k)
  unfolding last_like
  last_same i zero k lo hi = absurd (omega arith)
  last_same i (suc n) k lo hi = elim (ℕ_discrete (f i) (f (suc i))) [
    | yes e ↦ elim (ℕ_discrete k i) [
      | yes z ↦ rw z e
      | no z ↦ last_same (suc i) n k (omega arith) (rw (eq-eqb (f i) (f (suc i)) e) at hi)
    ]
    | no e ↦
        let hi' : k < i = rw (ne_eqb (f i) (f (suc i)) e) at hi in
        absurd (omega arith)
  ]

  pub last_turns : (i n : ℕ) → last_like f i n < i + n → f (last_like f i n) ≢ f (last_like f i n + 1)
  unfolding last_like
  last_turns i zero hi = absurd (omega arith)
  last_turns i (suc n) hi = elim (ℕ_discrete (f i) (f (suc i))) [
    | yes e ↦
        let z = eq-eqb (f i) (f (suc i)) e in
        rw z (last_turns (suc i) n (let y = rw z at hi in omega arith))
    | no e ↦ rw (ne_eqb (f i) (f (suc i)) e) (λ q. e (q ∙ ap f (omega arith)))
  ]

  -- Both together find the longest stretch among the first `n` places.
  pub like_longest : (n i : ℕ) → i < n → Longest f 0 n i (first_like f i) (last_like f i (n - 1 - i))
  like_longest n i h =
      let low = first_low i in
      let (lo, hi) = last_high i (n - 1 - i) in
      turn_to_turn 0 n i (first_like f i) (last_like f i (n - 1 - i)) (omega arith) low lo (omega arith)
      (λ k a b. elim (dec_lt k i) [
        | yes c ↦ first_same i k a c
        | no c ↦ last_same i (n - 1 - i) k (omega arith) b
      ])
      (first_turns i)
      (λ c. last_turns i (n - 1 - i) (omega arith))

  pub longest_like : (n i : ℕ) {first last : ℕ} → Longest f 0 n i first last → (first ≡ first_like f i)
      × (last ≡ last_like f i (n - 1 - i))
  longest_like n i x = one_longest 0 n i x (like_longest n i (omega (arith, x.upto, x.high_end)))

-- Only the rights inside count.
pub longest_alike : (f g : ℕ → ℕ) (low high i : ℕ) {first last : ℕ} → ((j : ℕ) → low ≤ j → j < high → f j ≡ g j)
    → Longest f low high i first last → Longest g low high i first last
longest_alike f g low high i {first} {last} e x =
    let a = x.low_end in
    let b = x.from in
    let c = x.upto in
    let d = x.high_end in
    let here = e i (omega arith) (omega arith) in
    record {
      low_end = a;
      from = b;
      upto = c;
      high_end = d;
      one = λ j lo hi. sym (e j (omega arith) (omega arith)) ∙ x.one j lo hi ∙ here;
      before = λ h q. x.before h (e (first - 1) (omega arith) (omega arith) ∙ q ∙ sym here);
      after = λ h q. x.after h (e (last + 1) (omega arith) (omega arith) ∙ q ∙ sym here);
    }

-- Around every place of the stretch it is the same.
pub longest_around : (f : ℕ → ℕ) (low high i j : ℕ) {first last : ℕ} → Longest f low high i first last → first ≤ j
    → j ≤ last
    → Longest f low high j first last
longest_around f low high i j x a b =
    let e = x.one j a b in
    record {
      low_end = x.low_end;
      from = a;
      upto = b;
      high_end = x.high_end;
      one = λ k lo hi. x.one k lo hi ∙ sym e;
      before = λ h q. x.before h (q ∙ e);
      after = λ h q. x.after h (q ∙ e);
    }
