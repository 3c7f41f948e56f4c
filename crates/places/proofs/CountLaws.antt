-- Laws of counting: one more number, two tests, and the pigeonhole law.
use Prim.Native.Nat.{ℕ, zero, suc, ◌+◌, ◌≤◌, ◌<◌}
use mathlib.Core.Path.{◌≡◌, refl, sym, ap, ◌∙◌}
use mathlib.Core.Logic.{◌≢◌}
use mathlib.Core.Bool.{Bool, true, false, ◌&&◌, not}
use native.Mathlib.Omega.{arith}
use native.Mathlib.Decide.{ℕ_discrete, dec_lt}
use lib.Dec.{eqb}
use borrow.Author.Tests.{eq-eqb, ne_eqb}
use Rattle.places.specs.Count.{count}
use Rattle.theory.proofs.Logic.{by_cases}

module _ (f : ℕ → Bool) where
  pub count_yes : (n : ℕ) → f n ≡ true → count f (suc n) ≡ suc (count f n)
  unfolding count
  count_yes n e = rw (e, count) (omega arith)

  pub count_no : (n : ℕ) → f n ≡ false → count f (suc n) ≡ count f n
  unfolding count
  count_no n e = rw (e, count) (omega arith)

  pub count_none : count f 0 ≡ 0
  unfolding count
  count_none = refl

  step_up : (n : ℕ) → count f n ≤ count f (suc n)
  step_up n = by_cases (f n) (λ e. let x = count_yes n e in omega arith) (λ e. let x = count_no n e in omega arith)

  pub count_mono : (i j : ℕ) → i ≤ j → count f i ≤ count f j
  count_mono i zero h = let e : i ≡ 0 = omega arith in rw e (omega arith)
  count_mono i (suc j) h = elim (ℕ_discrete i (suc j)) [
    | yes e ↦ rw e (omega arith)
    | no e ↦ (let x = count_mono i j (omega arith) in let y = step_up j in omega arith)
  ]

  pub count_less : (i j : ℕ) → i < j → f i ≡ true → count f i < count f j
  count_less i j h e = let x = count_yes i e in let y = count_mono (suc i) j h in omega arith

  pub count_flat : (i j : ℕ) → i ≤ j → ((k : ℕ) → i ≤ k → k < j → f k ≡ false) → count f j ≡ count f i
  count_flat i zero h all = let e : i ≡ 0 = omega arith in rw e refl
  count_flat i (suc j) h all = elim (ℕ_discrete i (suc j)) [
    | yes e ↦ rw e refl
    | no e ↦ count_no j (all j (omega arith) (omega arith)) ∙ count_flat i j (omega arith)
        (λ k lo hi. all k lo (omega arith))
  ]

  pub same_rank : (p q : ℕ) → f p ≡ true → f q ≡ true → count f p ≡ count f q → p ≡ q
  same_rank p q a b e = elim (ℕ_discrete p q) [
    | yes x ↦ x
    | no x ↦ elim (dec_lt p q) [
      | yes y ↦ (let z = count_less p q y a in absurd (omega arith))
      | no y ↦ (let z = count_less q p (omega arith) b in absurd (omega arith))
    ]
  ]

  -- The one with `k` before it.
  pub ranked : (n k : ℕ) → k < count f n → (i : ℕ) × (i < n) × (f i ≡ true) × (count f i ≡ k)
  ranked zero k h = let x = count_none in absurd (omega arith)
  ranked (suc n) k h = elim (dec_lt k (count f n)) [
    | yes b ↦ (let (i, lo, e, c) = ranked n k b in (i, omega arith, e, c))
    | no b ↦ by_cases (f n)
        (λ e. let x = count_yes n e in (n, omega arith, e, omega arith))
        (λ e. let x = count_no n e in absurd (omega arith))
  ]

  pub count_below : (n : ℕ) → count f n ≤ n
  count_below zero = let x = count_none in omega arith
  count_below (suc n) =
      let b = count_below n in
      by_cases (f n) (λ e. let x = count_yes n e in omega arith) (λ e. let x = count_no n e in omega arith)

-- Two tests that agree.
pub count_same : (f g : ℕ → Bool) (n : ℕ) → ((i : ℕ) → i < n → f i ≡ g i) → count f n ≡ count g n
count_same f g zero e = count_none f ∙ sym (count_none g)
count_same f g (suc n) e =
    let x = count_same f g n (λ i h. e i (omega arith)) in
    by_cases (f n)
    (λ y. count_yes f n y ∙ ap suc x ∙ sym (count_yes g n (sym (e n (omega arith)) ∙ y)))
    (λ y. count_no f n y ∙ x ∙ sym (count_no g n (sym (e n (omega arith)) ∙ y)))

pub count_all : (n : ℕ) → count (λ i. true) n ≡ n
count_all zero = count_none (λ i. true)
count_all (suc n) = count_yes (λ i. true) n refl ∙ ap suc (count_all n)

-- Those that pass a second test, and those that do not.
pub count_split : (f g : ℕ → Bool) (n : ℕ) → count f n ≡ count (λ i. f i && g i) n + count (λ i. f i && not (g i)) n
count_split f g zero = count_none f ∙ sym (sum (count_none (λ i. f i && g i)) (count_none (λ i. f i && not (g i))))
  where
    sum : {x y : ℕ} → x ≡ 0 → y ≡ 0 → x + y ≡ 0
    sum p q = omega arith
count_split f g (suc n) =
    let ih = count_split f g n in
    by_cases (f n)
    (λ a.
    let x = count_yes f n a in
    by_cases (g n)
    (λ b.
    let y = count_yes (λ i. f i && g i) n (rw (a, b)) in
    let z = count_no (λ i. f i && not (g i)) n (rw (a, b)) in
    omega arith)
    (λ b.
    let y = count_no (λ i. f i && g i) n (rw (a, b)) in
    let z = count_yes (λ i. f i && not (g i)) n (rw (a, b)) in
    omega arith))
    (λ a.
    let x = count_no f n a in
    let y = count_no (λ i. f i && g i) n (rw a) in
    let z = count_no (λ i. f i && not (g i)) n (rw a) in
    omega arith)

abbrev without : (ℕ → Bool) → ℕ → ℕ → Bool
without g x p = g p && not (eqb p x)

keep : (g : ℕ → Bool) (x p : ℕ) → p ≢ x → without g x p ≡ g p
keep g x p n = rw (ne_eqb p x n) (here (g p))
  where
    here : (b : Bool) → (b && true) ≡ b
    here true = refl
    here false = refl

drop : (g : ℕ → Bool) (x p : ℕ) → p ≡ x → without g x p ≡ false
drop g x p e = rw (eq-eqb p x e) (here (g p))
  where
    here : (b : Bool) → (b && false) ≡ false
    here true = refl
    here false = refl

count_without : (g : ℕ → Bool) (x m : ℕ) → x < m → g x ≡ true → count g m ≡ suc (count (without g x) m)
count_without g x zero h e = absurd (omega arith)
count_without g x (suc m) h e = elim (ℕ_discrete m x) [
  | yes q ↦
      count_yes g m (rw q e)
      ∙ ap suc (count_same g (without g x) m (λ i b. sym (keep g x i (λ z. absurd (omega arith)))))
      ∙ ap suc (sym (count_no (without g x) m (drop g x m q)))
  | no q ↦
      (let ih = count_without g x m (omega arith) e in
      by_cases (g m)
      (λ y. count_yes g m y ∙ ap suc ih ∙ ap suc (sym (count_yes (without g x) m (keep g x m q ∙ y))))
      (λ y. count_no g m y ∙ ih ∙ ap suc (sym (count_no (without g x) m (keep g x m q ∙ y)))))
]

-- The pigeonhole law: where each that passes `f` has one of its own that passes `g`, there are no more of the first.
pub count_into : (f : ℕ → Bool) (n : ℕ) (g : ℕ → Bool) (m : ℕ) (to : ℕ → ℕ)
    → ((i : ℕ) → i < n → f i ≡ true → (to i < m) × (g (to i) ≡ true))
    → ((i j : ℕ) → i < n → j < n → f i ≡ true → f j ≡ true → to i ≡ to j → i ≡ j)
    → count f n ≤ count g m
count_into f zero g m to in_g one = let x = count_none f in omega arith
count_into f (suc n) g m to in_g one = by_cases (f n)
    (λ e.
    let (b, c) = in_g n (omega arith) e in
    let x = count_without g (to n) m b c in
    let y = count_yes f n e in
    let z = count_into f n (without g (to n)) m to
    (λ i h q.
    let (u, v) = in_g i (omega arith) q in
    (u, keep g (to n) (to i) (λ o. absurd (away i h (one i n (omega arith) (omega arith) q e o))) ∙ v))
    (λ i j h k. one i j (omega arith) (omega arith)) in
    omega arith)
    (λ e.
    let y = count_no f n e in
    let z = count_into f n g m to (λ i h. in_g i (omega arith)) (λ i j h k. one i j (omega arith) (omega arith)) in
    omega arith)
  where
    away : (i : ℕ) → i < n → i ≡ n → ⊥
    away i h q = omega arith
