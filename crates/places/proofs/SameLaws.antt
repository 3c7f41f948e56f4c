-- Laws of the words that a walk visits both in the old pool and in the finished one: they are kept, and where the
-- rights of their block do not change, neither do they. For any form.
use Prim.Native.Nat.{ℕ, zero, suc, ◌+◌, ◌<◌}
use mathlib.Core.Path.{◌≡◌, refl, sym, ap, ◌∙◌}
use mathlib.Core.Bool.{true, false}
use Rattle.theory.specs.Form.{Form}
use native.Mathlib.Omega.{arith}
use Rattle.theory.specs.Pool.{SoundPool, Visits, here, next, entry, right_of}
use Rattle.theory.specs.Settled.{Together, Says, Settled}
use Rattle.theory.specs.Finished.{Finished}
use Rattle.theory.specs.Lawful.{Lawful, Exact, Wanting}
use Rattle.theory.specs.Stores.{Kept, top, down}
use Rattle.theory.proofs.ReachLaws.{visits_down, visited_reach}
use Rattle.theory.proofs.Logic.{by_cases}
use Rattle.theory.proofs.SettledLaws.{says_at}

-- For what an entry says, only the rights of its block count.
pub says_block : (F : Form) (h : ℕ) (R T : ℕ → ℕ) (a w : ℕ) → ((b : ℕ) → b < F.span → Together F h a b → R b ≡ T b)
    → Says F h R a w
    → Says F h T a w
says_block F h R T a w e x = record { good = x.good; rights = x.rights; each = λ b lo t. x.each b lo t ∙ e b lo t }

module _ (F : Form) (L : Lawful F) (E : Exact F) (W : Wanting F) {P Q : ℕ → ℕ} {R : ℕ → ℕ → ℕ} (p : Settled F P)
    (f : Finished F P R Q)
    (d a : ℕ) (bd : d < F.domains) (ba : a < F.span) where
  -- The rights of the block around `a` are to stay.
  abbrev Stay : ℕ → Type 0
  Stay h = (b : ℕ) → b < F.span → Together F h a b → R d b ≡ right_of F P d b

  -- What says a block in one pool says it by the rights of the other.
  old_says : (h k : ℕ) → Stay h → Visits F P a F.top (entry F d a) h k → F.leads h (P k) ≡ false
      → Says F h (right_of F Q d) a (P k)
  old_says h k e v l = says_block F h (right_of F P d) (right_of F Q d) a (P k)
      (λ b lo t. sym (f.rights d b bd lo ∙ e b lo t))
      (says_at F L P p.sound d a h k bd v l)

  new_says : (h k : ℕ) → Stay h → Visits F Q a F.top (entry F d a) h k → F.leads h (Q k) ≡ false
      → Says F h (right_of F P d) a (Q k)
  new_says h k e w l = says_block F h (right_of F Q d) (right_of F P d) a (Q k) (λ b lo t. f.rights d b bd lo ∙ e b lo t)
      (says_at F L Q f.settled.sound d a h k bd w l)

  both_say : (h k : ℕ) → Stay h → Visits F P a F.top (entry F d a) h k → Visits F Q a F.top (entry F d a) h k
      → F.leads h (P k) ≡ false → F.leads h (Q k) ≡ false → Q k ≡ P k
  both_say h k e v w l n =
      E.says_exact h a (Q k) (P k) (right_of F P d) ba (new_says h k e w n) (says_at F L P p.sound d a h k bd v l)

  pub same_word : (h k : ℕ) → Stay h → Visits F P a F.top (entry F d a) h k → Visits F Q a F.top (entry F d a) h
      k → Q k ≡ P k
  same_word zero k e v w = both_say zero k e v w (E.last (P k)) (E.last (Q k))
  same_word (suc h) k e v w = by_cases (F.leads (suc h) (P k))
      (λ l. by_cases (F.leads (suc h) (Q k))
      (λ n. E.target_exact h (Q k) (P k) (f.settled.sound.good (visited_reach F L d a bd w)) n
      (p.sound.good (visited_reach F L d a bd v)) l
      (sym (f.keeps bd ba (k, v, l, refl) (k, w, n, refl))))
      (λ n. absurd (W.unsaid (suc h) a (Q k) (right_of F P d) ba
      (p.wanted bd ba (visits_down F P a v) (F.target (suc h) (P k), (k, v, l, refl))) (new_says (suc h) k e w n))))
      (λ l. by_cases (F.leads (suc h) (Q k))
      (λ n. absurd (W.unsaid (suc h) a (P k) (right_of F Q d) ba
      (f.settled.wanted bd ba (visits_down F Q a w) (F.target (suc h) (Q k), (k, w, n, refl)))
      (old_says (suc h) k e v l)))
      (λ n. both_say (suc h) k e v w l n))

module _ (F : Form) (L : Lawful F) (E : Exact F) {P Q : ℕ → ℕ} {R : ℕ → ℕ → ℕ} (sP : SoundPool F P)
    (f : Finished F P R Q)
    (d a : ℕ) (bd : d < F.domains) (ba : a < F.span) where
  -- At one height, a walk visits the same word in both pools, and it is a kept one.
  both_visit : {m n j i : ℕ} → Visits F P a F.top (entry F d a) m j → Visits F Q a F.top (entry F d a) n i → m ≡ n
      → (j ≡ i) × Kept F P Q m j
  both_visit here here e = (refl, top (d, F.index F.top a, refl, refl, bd, L.index_below F.top a))
  both_visit here (next w l) e = let z = visits_down F Q a w in absurd (omega arith)
  both_visit (next v l) here e = let z = visits_down F P a v in absurd (omega arith)
  both_visit (next {m} {j} v l) (next {m = n} {j = i} w q) e =
      let (x, k) = both_visit v w (ap suc e) in
      go x k (rw (← e) at w) (rw (← e) at q)
    where
      go : j ≡ i → Kept F P Q (suc m) j → Visits F Q a F.top (entry F d a) (suc m) i → F.leads (suc m) (Q i) ≡ true
          → (F.target (suc m) (P j) + F.index m a ≡ F.target (suc n) (Q i) + F.index n a)
          × Kept F P Q m (F.target (suc m) (P j) + F.index m a)
      go x k w q =
          let t : F.target (suc m) (P j) ≡ F.target (suc m) (Q i) = f.keeps bd ba (j, v, l, refl) (i, w, q, refl) in
          let y : P j ≡ Q i = E.target_exact m (P j) (Q i) (sP.good (visited_reach F L d a bd v)) l
          (f.settled.sound.good (visited_reach F L d a bd w)) q t in
          (rw (← e) (ap (λ z. z + F.index m a) t), down (F.index m a) k (y ∙ ap Q (sym x)) l (L.index_below m a))

  pub both_kept : {m j i : ℕ} → Visits F P a F.top (entry F d a) m j → Visits F Q a F.top (entry F d a) m i
      → (j ≡ i) × Kept F P Q m j
  both_kept v w = both_visit v w refl
