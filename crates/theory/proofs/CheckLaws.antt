-- The check of entries, tables and roots says fine exactly where they are sound, and meets exactly the tables that
-- are led to. For any form.
use Prim.Native.Nat.{ℕ, zero, suc, ◌+◌, ◌≤◌, ◌<◌}
use mathlib.Core.Path.{◌≡◌, refl, sym, ◌∙◌}
use mathlib.Core.Logic.{◌⊎◌, inl, inr, ⊎_elim}
use mathlib.Core.Bool.{Bool, true, false, cond, ◌||◌, true≢false, false≢true}
use native.Mathlib.Omega.{arith}
use native.Mathlib.Decide.{ℕ_discrete}
use lib.Dec.{eqb}
use borrow.Author.Tests.{eq-eqb, ne_eqb, eqb-true}
use Rattle.theory.specs.Form.{Form}
use Rattle.theory.specs.Pool.{Reach, start, step, Sound, SoundPool, Roots, Table}
use Rattle.theory.specs.Check.{Finding, refused, met, mark, entry_check, table_check, roots_check}
use Rattle.theory.specs.Lawful.{Lawful}
use Rattle.theory.proofs.ReachLaws.{through, sound_of, table_low}
use Rattle.theory.proofs.Logic.{by_cases}
use Rattle.theory.proofs.CheckedLaws.{not_refused, same_met, Only, LedTo, Checked, Checks, checks_met}
use Rattle.theory.proofs.CheckedLaws.{led_height, none_checks, then_checks, each_checks}

or_right : (a b : Bool) → b ≡ true → (a || b) ≡ true
or_right true b e = refl
or_right false b e = e

or_left : (a b : Bool) → a ≡ true → (a || b) ≡ true
or_left true b e = refl
or_left false b e = absurd (false≢true e)

or_false : (a b : Bool) → (a || b) ≡ false → b ≡ false
or_false true b e = absurd (true≢false e)
or_false false b e = e

or_none : (a b : Bool) → a ≡ false → b ≡ false → (a || b) ≡ false
or_none true b e f = e
or_none false b e f = f

or_true : (a b : Bool) → (a || b) ≡ true → (a ≡ true) ⊎ (b ≡ true)
or_true true b e = inl refl
or_true false b e = inr e

-- Where a check that tests first says fine, and where it refuses.
met_if : (b : Bool) (x : Finding) (u : ℕ → Bool) → cond b x refused ≡ met u → (b ≡ true) × (x ≡ met u)
met_if true x u e = (refl, e)
met_if false x u e = absurd (not_refused e)

met_unless : (b : Bool) (x : Finding) (u : ℕ → Bool) → cond b refused x ≡ met u → (b ≡ false) × (x ≡ met u)
met_unless true x u e = absurd (not_refused e)
met_unless false x u e = (refl, e)

refused_if : (b : Bool) (x : Finding) → cond b x refused ≡ refused → (b ≡ false) ⊎ (x ≡ refused)
refused_if true x e = inr e
refused_if false x e = inl refl

refused_unless : (b : Bool) (x : Finding) → cond b refused x ≡ refused → (b ≡ true) ⊎ (x ≡ refused)
refused_unless true x e = inl refl
refused_unless false x e = inr e

-- The words of the first `n` roots.
abbrev pub RootsTo : Form → ℕ → ℕ → ℕ → Type 0
RootsTo F n m j = (d : ℕ) × (i : ℕ) × (m ≡ F.top) × (j ≡ F.root d + i) × (d < n) × (i < F.size F.top)

module _ (F : Form) (P : ℕ → ℕ) where
  -- An entry that leads nowhere.
  module _ (h k : ℕ) (s : ℕ → Bool) (g : F.good h (P k) ≡ true)
      (stop : (m : ℕ) → suc m ≡ h → F.leads (suc m) (P k) ≡ true → ⊥) where
    stays : {m j : ℕ} → Reach F P (Only h k) m j → (m ≡ h) × (j ≡ k)
    stays (start x) = x
    stays (step {m} {j} i r l b) = let x = stays r in absurd (stop m x.0 (rw x.1 at l))

    stays_led : {x : ℕ} → LedTo F P (Only h k) x → ⊥
    stays_led (m, j, r, l, e) = let x = stays r in stop m x.0 (rw x.1 at l)

    stays_good : {m j : ℕ} → Reach F P (Only h k) m j → F.good m (P j) ≡ true
    stays_good r = let x = stays r in rw (x.0, x.1) g

    stays_checked : Checked F P (Only h k) s s
    stays_checked = record {
      sound = record {
        good = λ r. stays_good r;
        once = λ {m} {j} {k} r l q p e. absurd
            (stays_led (m, j, r, l, refl));
      };
      grows = λ x y. y;
      fresh = λ x d. absurd (stays_led d);
      marks = λ x d. absurd (stays_led d);
      only = λ x y. inl y;
    }

  -- An entry that leads to a table.
  module _ (h k : ℕ) (s u : ℕ → Bool) (g : F.good (suc h) (P k) ≡ true) (l : F.leads (suc h) (P k) ≡ true)
      (new : s (F.target (suc h) (P k)) ≡ false)
      (c : Checked F P (Table F h (F.target (suc h) (P k))) (mark s (F.target (suc h) (P k))) u) where
    abbrev t : ℕ
    t = F.target (suc h) (P k)

    abbrev Under : ℕ → ℕ → Type 0
    Under = Table F h t

    goes : {m j : ℕ} → Reach F P (Only (suc h) k) m j → ((m ≡ suc h) × (j ≡ k)) ⊎ Reach F P Under m j
    goes (start x) = inl x
    goes (step {m} {j} i r p b) = ⊎_elim
        (λ x. let hm : m ≡ h = omega arith in
        inr (start (i, hm, rw (x.1, hm), rw hm at b)))
        (λ q. inr (step i q p b)) (goes r)

    goes_good : {m j : ℕ} → Reach F P (Only (suc h) k) m j → F.good m (P j) ≡ true
    goes_good r = ⊎_elim (λ x. rw (x.0, x.1) g) (λ q. c.sound.good q) (goes r)

    goes_led : {x : ℕ} → LedTo F P (Only (suc h) k) x → (x ≡ t) ⊎ LedTo F P Under x
    goes_led (m, j, r, p, e) = ⊎_elim (λ y. inl (sym e ∙ rw (y.0, y.1))) (λ q. inr (m, j, q, p, e)) (goes r)

    led_goes : {x : ℕ} → LedTo F P Under x → LedTo F P (Only (suc h) k) x
    led_goes (m, j, r, p, e) = (m, j, through F (start (refl, refl)) l r, p, e)

    led_here : {x : ℕ} → x ≡ t → LedTo F P (Only (suc h) k) x
    led_here e = (h, k, start (refl, refl), l, sym e)

    goes_once : {m i j : ℕ} → ((suc m ≡ suc h) × (i ≡ k)) ⊎ Reach F P Under (suc m) i → F.leads (suc m) (P i) ≡ true
        → ((suc m ≡ suc h) × (j ≡ k)) ⊎ Reach F P Under (suc m) j → F.leads (suc m) (P j) ≡ true
        → F.target (suc m) (P i) ≡ F.target (suc m) (P j) → i ≡ j
    goes_once (inl x) p (inl y) q e = x.1 ∙ sym y.1
    goes_once (inl x) p (inr y) q e = let b = table_low F P h t y in absurd (omega arith)
    goes_once (inr x) p (inl y) q e = let b = table_low F P h t x in absurd (omega arith)
    goes_once (inr x) p (inr y) q e = c.sound.once x p y q e

    led_checked : Checked F P (Only (suc h) k) s u
    led_checked = record {
      sound = record { good = λ r. goes_good r; once = λ r p q n e. goes_once (goes r) p (goes q) n e };
      grows = λ x y. c.grows x (or_right (eqb x t) (s x) y);
      fresh = λ x d. ⊎_elim (λ e. rw e new) (λ y. or_false (eqb x t) (s x) (c.fresh x y)) (goes_led d);
      marks = λ x d. ⊎_elim (λ e. c.grows x (or_left (eqb x t) (s x) (eq-eqb x t e))) (λ y. c.marks x y) (goes_led d);
      only = λ x y. ⊎_elim
          (λ z. ⊎_elim (λ e. inr (led_here (eqb-true x t e))) inl (or_true (eqb x t) (s x) z))
          (λ z. inr (led_goes z)) (c.only x y);
    }

  module _ (L : Lawful F) where
    -- Below an entry that leads, nothing leads to the entry's own table.
    under_new : (h k : ℕ) (s : ℕ → Bool) → Sound F P (Only (suc h) k) → F.leads (suc h) (P k) ≡ true
        → ((x : ℕ) → LedTo F P (Only (suc h) k) x → s x ≡ false)
        → (x : ℕ) → LedTo F P (Table F h (F.target (suc h) (P k))) x → mark s (F.target (suc h) (P k)) x ≡ false
    under_new h k s g l new x (m, j, r, q, e) = or_none (eqb x (F.target (suc h) (P k))) (s x)
        (ne_eqb x (F.target (suc h) (P k)) (λ y.
        let z : m ≡ h = led_height F P L g (through F (start (refl, refl)) l r) q (start (refl, refl)) l (e ∙ y) in
        let b = table_low F P h (F.target (suc h) (P k)) r in
        omega arith))
        (new x (m, j, through F (start (refl, refl)) l r, q, e))

    -- An entry above the last height, where the tables below it are checked.
    module _ (h k : ℕ) (below : (t : ℕ) → Checks F P (Table F h t) (table_check F P h t)) where
      entry_finds : (s u : ℕ → Bool) → entry_check F P (suc h) k s ≡ met u → Checked F P (Only (suc h) k) s u
      unfolding entry_check
      entry_finds s u e =
          let (g, x) = met_if (F.good (suc h) (P k)) _ u e in
          by_cases (F.leads (suc h) (P k))
          (λ l.
          let (n, y) = met_unless (s (F.target (suc h) (P k))) _ u (rw l at x) in
          led_checked h k s u g l n ((below _).finds _ u y))
          (λ l. rw (← same_met (rw l at x)) (stays_checked (suc h) k s g (λ m p n. true≢false (sym n ∙ rw p l))))

      entry_takes : (s : ℕ → Bool) → Sound F P (Only (suc h) k) → ((x : ℕ) → LedTo F P (Only (suc h) k) x → s x ≡ false)
          → entry_check F P (suc h) k s ≡ refused → ⊥
      unfolding entry_check
      entry_takes s g new e = ⊎_elim
          (λ b. true≢false (sym (g.good (start (refl, refl))) ∙ b))
          (λ x. by_cases (F.leads (suc h) (P k))
          (λ l. ⊎_elim
          (λ b. true≢false (sym b ∙ new _ (h, k, start (refl, refl), l, refl)))
          (λ y. (below _).takes _
          (sound_of F P (λ m j z. rw (z.1, z.2) (step z.0 (start (refl, refl)) l z.3)) g)
          (under_new h k s g l new) y)
          (refused_unless (s (F.target (suc h) (P k))) _ (rw l at x)))
          (λ l. not_refused (sym (rw l at x))))
          (refused_if (F.good (suc h) (P k)) _ e)

    -- The check of an entry, of a table, and of the roots finds what it must.
    pub entry_checks : (h k : ℕ) → Checks F P (Only h k) (entry_check F P h k)
    unfolding entry_check
    entry_checks zero k = record {
      finds = λ s u e.
          let (g, x) = met_if (F.good zero (P k)) (met s) u e in
          rw (← same_met x) (stays_checked zero k s g (λ m p l. omega arith));
      takes = λ s g new e. ⊎_elim
          (λ b. true≢false (sym (g.good (start (refl, refl))) ∙ b)) (λ x. not_refused (sym x))
          (refused_if (F.good zero (P k)) (met s) e);
    }
    entry_checks (suc h) k =
        let below : (t : ℕ) → Checks F P (Table F h t) (table_check F P h t) =
        λ t. each_checks F P L h (entry_check F P h) (λ i. entry_checks h i) (F.size h) t in
        record { finds = entry_finds h k below; takes = entry_takes h k below }

    pub table_checks : (h t : ℕ) → Checks F P (Table F h t) (table_check F P h t)
    table_checks h t = each_checks F P L h (entry_check F P h) (λ i. entry_checks h i) (F.size h) t

    roots_part : (n m j : ℕ) → RootsTo F (suc n) m j → RootsTo F n m j ⊎ Table F F.top (F.root n) m j
    roots_part n m j (d, i, p, q, b, c) = elim (ℕ_discrete d n) [
      | yes e ↦ inr (i, p, rw e at q, c)
      | no e ↦ inl (d, i, p, q, omega arith, c)
    ]

    pub roots_checks : (n : ℕ) → n ≤ F.domains → Checks F P (RootsTo F n) (roots_check F P n)
    unfolding roots_check
    roots_checks zero b = none_checks F P (λ m j x. omega arith)
    roots_checks (suc n) b =
        then_checks F P (roots_part n)
        (λ m j (d, i, p, q, o, c). (d, i, p, q, omega arith, c)) (λ m j (i, p, q, c). (n, i, p, q, omega arith, c))
        L F.top (λ m j x. x.2)
        (λ m j (d, i, p, q, o, c) (e, r, w, z).
        let x : d ≡ n = L.root_apart d i n e (omega arith) c b z (sym q ∙ w) in omega arith)
        (roots_checks n (omega arith)) (table_checks F.top (F.root n))

-- What the check of all roots found: the pool is sound, and `u` are exactly the tables that it leads to.
pub record CheckedPool (F : Form) (P : ℕ → ℕ) (u : ℕ → Bool) : Type 0 where
  pub sound : SoundPool F P
  pub marks : (x : ℕ) → LedTo F P (Roots F) x → u x ≡ true
  pub only : (x : ℕ) → u x ≡ true → LedTo F P (Roots F) x

module _ (F : Form) (L : Lawful F) (P : ℕ → ℕ) where
  pub roots_check_sound : (u : ℕ → Bool) → roots_check F P F.domains (λ x. false) ≡ met u → CheckedPool F P u
  roots_check_sound u e =
      let c = (roots_checks F P L F.domains (omega arith)).finds (λ x. false) u e in
      record {
        sound = c.sound;
        marks = c.marks;
        only = λ x h. ⊎_elim (λ y. absurd (false≢true y)) (λ y. y)
            (c.only x h);
      }

  pub roots_check_refused : roots_check F P F.domains (λ x. false) ≡ refused → SoundPool F P → ⊥
  roots_check_refused e s = (roots_checks F P L F.domains (omega arith)).takes (λ x. false) s (λ x d. refl) e

  pub sound_roots_check : SoundPool F P → (u : ℕ → Bool) × (roots_check F P F.domains (λ x. false) ≡ met u)
  sound_roots_check s = checks_met F P (roots_checks F P L F.domains (omega arith)) (λ x. false) s (λ x d. refl)
