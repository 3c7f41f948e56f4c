-- What a check of some starts must find, and that one check after another finds it for both. For any form.
use Prim.Native.Nat.{ℕ, zero, suc, ◌+◌, ◌≤◌, ◌<◌}
use mathlib.Core.Path.{◌≡◌, refl, sym, ap, ◌∙◌}
use mathlib.Core.Logic.{◌⊎◌, inl, inr, ⊎_elim}
use mathlib.Core.Bool.{Bool, true, false, true≢false}
use native.Mathlib.Omega.{arith}
use Rattle.theory.specs.Form.{Form}
use Rattle.theory.specs.Pool.{Reach, start, step, Sound}
use Rattle.theory.specs.Check.{Finding, refused, met, and_then, each}
use Rattle.theory.specs.Lawful.{Lawful}
use Rattle.theory.proofs.ReachLaws.{reach_of, sound_of, reach_low}
use Rattle.theory.proofs.BlockLaws.{step_back}

pub not_refused : {u : ℕ → Bool} → refused ≡ met u → ⊥
not_refused e = let z : ◌≡◌ {A = ℕ} 0 1 = cc in omega arith

pub same_met : {s u : ℕ → Bool} → met s ≡ met u → s ≡ u
same_met e = cc

pub not_true_false : (b : Bool) → (b ≡ true → ⊥) → b ≡ false
not_true_false true f = absurd (f refl)
not_true_false false f = refl

met_then : (x : Finding) (f : (ℕ → Bool) → Finding) (u : ℕ → Bool) → and_then x f ≡ met u → (s : ℕ → Bool)
    × (x ≡ met s) × (f s ≡ met u)
met_then refused f u e = absurd (not_refused e)
met_then (met s) f u e = (s, refl, e)

-- The starts: one word, or `n` words from `t` on.
abbrev pub Only : ℕ → ℕ → ℕ → ℕ → Type 0
Only h k m j = (m ≡ h) × (j ≡ k)

abbrev pub Range : ℕ → ℕ → ℕ → ℕ → ℕ → Type 0
Range h t n m j = (i : ℕ) × (m ≡ h) × (j ≡ t + i) × (i < n)

module _ (F : Form) (P : ℕ → ℕ) where
  -- A word reached from the starts `S` leads to the table that begins at `x`.
  abbrev pub LedTo : (ℕ → ℕ → Type 0) → ℕ → Type 0
  LedTo S x = (m : ℕ) × (j : ℕ) × Reach F P S (suc m) j × (F.leads (suc m) (P j) ≡ true)
      × (F.target (suc m) (P j) ≡ x)

  -- What holds when the starts `S` were checked and found fine, with `s` met before and `u` after.
  pub record Checked (S : ℕ → ℕ → Type 0) (s u : ℕ → Bool) : Type 0 where
    pub sound : Sound F P S
    pub grows : (x : ℕ) → s x ≡ true → u x ≡ true
    pub fresh : (x : ℕ) → LedTo S x → s x ≡ false
    pub marks : (x : ℕ) → LedTo S x → u x ≡ true
    pub only : (x : ℕ) → u x ≡ true → (s x ≡ true) ⊎ LedTo S x

  -- The check `f` says fine exactly where the starts `S` are sound and lead to no table met before.
  pub record Checks (S : ℕ → ℕ → Type 0) (f : (ℕ → Bool) → Finding) : Type 0 where
    pub finds : (s u : ℕ → Bool) → f s ≡ met u → Checked S s u
    pub takes : (s : ℕ → Bool) → Sound F P S → ((x : ℕ) → LedTo S x → s x ≡ false) → f s ≡ refused → ⊥

  -- So it says fine of sound starts.
  pub checks_met : {S : ℕ → ℕ → Type 0} {f : (ℕ → Bool) → Finding} → Checks S f → (s : ℕ → Bool) → Sound F P S
      → ((x : ℕ) → LedTo S x → s x ≡ false) → (u : ℕ → Bool) × (f s ≡ met u)
  checks_met {S} {f} c s g new = go (f s) refl
    where
      go : (y : Finding) → f s ≡ y → (u : ℕ → Bool) × (f s ≡ met u)
      go refused e = absurd (c.takes s g new e)
      go (met u) e = (u, e)

  -- Two words that lead to one table stand at one height.
  pub led_height : Lawful F → {S : ℕ → ℕ → Type 0} → Sound F P S → {m n j i : ℕ} → Reach F P S (suc m) j
      → F.leads (suc m) (P j) ≡ true
      → Reach F P S (suc n) i → F.leads (suc n) (P i) ≡ true → F.target (suc m) (P j) ≡ F.target (suc n) (P i) → m
      ≡ n
  led_height L s {m} {n} {j} {i} r l q p e =
      sym (L.target_zone m (P j) 0 (s.good r) l (some m)) ∙ ap (λ x. F.zone (x + 0)) e ∙ L.target_zone n (P i) 0
      (s.good q) p (some n)
    where
      some : (h : ℕ) → 0 < F.size h
      some h = omega (arith, L.index_below h 0)

  -- Nothing to check.
  pub none_checks : {S : ℕ → ℕ → Type 0} → ((m j : ℕ) → S m j → ⊥) → Checks S met
  none_checks {S} away = record {
    finds = λ s u e. rw (← same_met e) (fine s);
    takes = λ s g new e. not_refused (sym e);
  }
    where
      empty : {m j : ℕ} → Reach F P S m j → ⊥
      empty (start {m} {j} x) = away m j x
      empty (step i r l b) = empty r

      fine : (s : ℕ → Bool) → Checked S s s
      fine s = record {
        sound = record { good = λ r. absurd (empty r); once = λ r l q p e. absurd (empty r) };
        grows = λ x y. y;
        fresh = λ x d. absurd (empty d.2);
        marks = λ x d. absurd (empty d.2);
        only = λ x y. inl y;
      }

  -- Two sets of starts of one height, with none in common, one after the other.
  module _ {S T U : ℕ → ℕ → Type 0} (part : (m j : ℕ) → U m j → S m j ⊎ T m j) (left : (m j : ℕ) → S m j → U m j)
      (rest : (m j : ℕ) → T m j → U m j) where
    reach_part : {m j : ℕ} → Reach F P U m j → Reach F P S m j ⊎ Reach F P T m j
    reach_part (start {m} {j} x) = ⊎_elim (λ y. inl (start y)) (λ y. inr (start y)) (part m j x)
    reach_part (step i r l b) = ⊎_elim (λ q. inl (step i q l b)) (λ q. inr (step i q l b)) (reach_part r)

    led_part : {x : ℕ} → LedTo U x → LedTo S x ⊎ LedTo T x
    led_part (m, j, r, l, e) = ⊎_elim (λ q. inl (m, j, q, l, e)) (λ q. inr (m, j, q, l, e)) (reach_part r)

    from_left : {m j : ℕ} → Reach F P S m j → Reach F P U m j
    from_left = reach_of F P (λ m j y. start (left m j y))

    from_rest : {m j : ℕ} → Reach F P T m j → Reach F P U m j
    from_rest = reach_of F P (λ m j y. start (rest m j y))

    join_once : {s u v : ℕ → Bool} → Checked S s u → Checked T u v → {m j k : ℕ}
        → Reach F P S (suc m) j ⊎ Reach F P T (suc m) j → F.leads (suc m) (P j) ≡ true
        → Reach F P S (suc m) k ⊎ Reach F P T (suc m) k → F.leads (suc m) (P k) ≡ true
        → F.target (suc m) (P j) ≡ F.target (suc m) (P k) → j ≡ k
    join_once a b (inl r) l (inl q) p e = a.sound.once r l q p e
    join_once a b (inr r) l (inr q) p e = b.sound.once r l q p e
    join_once a b {m} {j} {k} (inl r) l (inr q) p e =
        absurd (true≢false (sym (a.marks _ (m, j, r, l, e)) ∙ b.fresh _ (m, k, q, p, refl)))
    join_once a b {m} {j} {k} (inr r) l (inl q) p e =
        absurd (true≢false (sym (a.marks _ (m, k, q, p, sym e)) ∙ b.fresh _ (m, j, r, l, refl)))

    joined : {s u v : ℕ → Bool} → Checked S s u → Checked T u v → Checked U s v
    joined {s} {u} {v} a b = record {
      sound = record {
        good = λ r. ⊎_elim (λ q. a.sound.good q) (λ q. b.sound.good q) (reach_part r);
        once = λ r l q p e. join_once a b (reach_part r) l (reach_part q) p e;
      };
      grows = λ x h. b.grows x (a.grows x h);
      fresh = λ x d. ⊎_elim (λ y. a.fresh x y)
          (λ y. not_true_false (s x) (λ h. true≢false (sym (a.grows x h) ∙ b.fresh x y))) (led_part d);
      marks = λ x d. ⊎_elim (λ y. b.grows x (a.marks x y)) (λ y. b.marks x y) (led_part d);
      only = λ x h. ⊎_elim
          (λ y. ⊎_elim inl (λ (m, j, r, l, e). inr (m, j, from_left r, l, e)) (a.only x y))
          (λ (m, j, r, l, e). inr (m, j, from_rest r, l, e)) (b.only x h);
    }

    module _ (L : Lawful F) (h : ℕ) (flat : (m j : ℕ) → U m j → m ≡ h) (two : (m j : ℕ) → S m j → T m j → ⊥) where
      flat_low : {m j : ℕ} → Reach F P U m j → m ≤ h
      flat_low = reach_low F P h (λ m j x. let e = flat m j x in omega arith)

      -- No word is reached from both.
      no_common : Sound F P U → {m n j i : ℕ} → Reach F P S m j → Reach F P T n i → m ≡ n → j ≡ i → ⊥
      no_common g (start {m} {j} x) (start {m = n} {j = i} y) p q = two n i (rw (p, q) at x) y
      no_common g (start {m} {j} x) (step i r l b) p q =
          let e = flat m j (left m j x) in let z = flat_low (from_rest r) in omega arith
      no_common g (step i r l b) (start {m} {j} y) p q =
          let e = flat m j (rest m j y) in let z = flat_low (from_left r) in omega arith
      no_common g (step i r l b) (step o q k c) p e =
          no_common g r q (ap suc p) (step_back F L g i o (sym p) (from_left r) l b (from_rest q) k c e).0

      -- No table is led to from both.
      no_clash : Sound F P U → {x : ℕ} → LedTo S x → LedTo T x → ⊥
      no_clash g (m, j, r, l, e) (n, i, q, p, f) =
          let w : m ≡ n = led_height L g (from_left r) l (from_rest q) p (e ∙ sym f) in
          let z : n ≡ m = sym w in
          no_common g r q (ap suc w)
          (g.once (from_left r) l (rw z at (from_rest q)) (rw z at p) (e ∙ rw z at (sym f)))

      pub then_checks : {f g : (ℕ → Bool) → Finding} → Checks S f → Checks T g → Checks U (λ s. and_then (f s) g)
      then_checks {f} {g} a b = record {
        finds = λ s v e.
            let (u, p, q) = met_then (f s) g v e in
            joined (a.finds s u p) (b.finds u v q);
        takes = λ s o new e. go s o new (f s) refl e;
      }
        where
          go : (s : ℕ → Bool) → Sound F P U → ((x : ℕ) → LedTo U x → s x ≡ false) → (y : Finding) → f s ≡ y
              → and_then y g ≡ refused → ⊥
          go s o new refused p e = a.takes s (sound_of F P (λ m j y. start (left m j y)) o)
              (λ x (m, j, r, l, q). new x (m, j, from_left r, l, q)) p
          go s o new (met u) p e = b.takes u (sound_of F P (λ m j y. start (rest m j y)) o)
              (λ x d. not_true_false (u x) (λ y. ⊎_elim
              (λ z. let (m, j, r, l, q) = d in true≢false (sym z ∙ new x (m, j, from_rest r, l, q)))
              (λ z. no_clash o z d) ((a.finds s u p).only x y))) e

  -- A range of words, each checked in turn.
  module _ (L : Lawful F) (h : ℕ) (f : ℕ → (ℕ → Bool) → Finding) (ok : (k : ℕ) → Checks (Only h k) (f k)) where
    range_part : (t n m j : ℕ) → Range h t (suc n) m j → Only h t m j ⊎ Range h (t + 1) n m j
    range_part t n m j (zero, p, q, b) = inl (p, omega arith)
    range_part t n m j (suc i, p, q, b) = inr (i, p, omega arith, omega arith)

    pub each_checks : (n t : ℕ) → Checks (Range h t n) (each f t n)
    unfolding each
    each_checks zero t = none_checks (λ m j x. omega arith)
    each_checks (suc n) t =
        then_checks (range_part t n)
        (λ m j y. (0, y.0, omega arith, omega arith)) (λ m j y. (suc y.0, y.1, omega arith, omega arith))
        L h (λ m j x. x.1) (λ m j x y. omega arith) (ok t) (each_checks n (t + 1))
