-- A pool between two sound pools: at each of the three stages of stores it is sound, and each right is the old one or
-- the new one. For any form.
use Prim.Native.Nat.{ℕ, zero, suc, ◌+◌, ◌<◌}
use mathlib.Core.Path.{◌≡◌, refl, sym, ap, ◌∙◌}
use mathlib.Core.Logic.{◌≢◌, ◌⊎◌, inl, inr, ⊎_elim}
use mathlib.Core.Bool.{true}
use native.Mathlib.Decide.{ℕ_discrete}
use mathlib.Core.List.{List}
use lib.ListN.{length, set}
use Rattle.theory.specs.Form.{Form}
use Rattle.theory.specs.Pool.{words, Reach, start, step, SoundPool, right, Roots, Table, entry, right_of}
use Rattle.theory.specs.Lawful.{Lawful}
use Rattle.theory.specs.Stores.{Kept, top, down, Cut, Giving, Filling, Linking, Stage, giving, filling}
use Rattle.theory.specs.Stores.{linking, Next, give, fill, link, Ready}
use Rattle.theory.proofs.ReachLaws.{through}
use Rattle.theory.proofs.Logic.{by_cases}
use Rattle.theory.proofs.RightLaws.{right_last, right_down, right_says, right_same}
use Rattle.theory.proofs.StoreLaws.{Store, store_set}
use Rattle.theory.proofs.KeptLaws.{kept_reach, kept_swap, kept_zone, hangs_not_kept}

-- `X` has on each kept word the old or the new one, and below a word that is to change, or has changed, the table
-- that this word leads to.
pub record Mixed (F : Form) (P Q X : ℕ → ℕ) : Type 0 where
  pub kept : {m j : ℕ} → Kept F P Q m j → X j ≡ P j ⊎ X j ≡ Q j
  pub old : {h k m j : ℕ} → Kept F P Q (suc h) k → P k ≢ Q k → X k ≡ P k → F.leads (suc h) (P k) ≡ true
      → Reach F P (Table F h (F.target (suc h) (P k))) m j → X j ≡ P j
  pub new : {h k m j : ℕ} → Kept F P Q (suc h) k → P k ≢ Q k → X k ≡ Q k → F.leads (suc h) (Q k) ≡ true
      → Reach F Q (Table F h (F.target (suc h) (Q k))) m j → X j ≡ Q j

pub mixed_swap : (F : Form) {P Q X : ℕ → ℕ} → Mixed F P Q X → Mixed F Q P X
mixed_swap F x = record {
  kept = λ c. ⊎_elim inr inl (x.kept (kept_swap F c));
  old = λ c d e l r. x.new (kept_swap F c) (λ q. d (sym q)) e l r;
  new = λ c d e l r. x.old (kept_swap F c) (λ q. d (sym q)) e l r;
}

-- The right below a word that has its old value is the old one.
half : (F : Form) → Lawful F → {P Q X : ℕ → ℕ} → Mixed F P Q X → (m j a : ℕ) → Kept F P Q m j → P j ≢ Q j
    → X j ≡ P j → right F X m j a ≡ right F P m j a
half F L {P} {Q} {X} x zero j a c d e = right_last F X j a ∙ ap (λ w. F.says zero w a) e ∙ sym (right_last F P j a)
half F L {P} {Q} {X} x (suc m) j a c d e = by_cases (F.leads (suc m) (P j))
    (λ l. right_down F X m j a (rw e l)
    ∙ ap (λ w. right F X m (F.target (suc m) w + F.index m a) a) e
    ∙ right_same F L P X (Table F m (F.target (suc m) (P j))) (λ n i r. x.old c d e l r) m _ a
    (start (F.index m a, refl, refl, L.index_below m a))
    ∙ sym (right_down F P m j a l))
    (λ l. right_says F X (suc m) j a (rw e l) ∙ ap (λ w. F.says (suc m) w a) e ∙ sym (right_says F P (suc m) j a l))

abbrev Either : Form → (P Q X : ℕ → ℕ) → ℕ → ℕ → ℕ → Type 0
Either F P Q X m j a = (right F X m j a ≡ right F P m j a) ⊎ (right F X m j a ≡ right F Q m j a)

-- The kept word is to change: one of the two halves.
either : (F : Form) → Lawful F → {P Q X : ℕ → ℕ} → Mixed F P Q X → (m j a : ℕ) → Kept F P Q m j → P j ≢ Q j
    → Either F P Q X m j a
either F L x m j a c d =
    ⊎_elim (λ e. inl (half F L x m j a c d e))
    (λ e. inr (half F L (mixed_swap F x) m j a (kept_swap F c) (λ q. d (sym q)) e)) (x.kept c)

-- The kept word is the same in both pools, so it is in `X`.
pub agreed : (F : Form) {P Q X : ℕ → ℕ} → Mixed F P Q X → {m j : ℕ} → Kept F P Q m j → P j ≡ Q j → X j ≡ P j
agreed F x c e = ⊎_elim (λ q. q) (λ q. q ∙ sym e) (x.kept c)

-- Two pools with one word that leads: their rights there are those below.
pass : (F : Form) (P X : ℕ → ℕ) (m j a : ℕ) (w : ℕ) → X j ≡ w → P j ≡ w → F.leads (suc m) w ≡ true
    → right F X m (F.target (suc m) w + F.index m a) a ≡ right F P m (F.target (suc m) w + F.index m a) a
    → right F X (suc m) j a ≡ right F P (suc m) j a
pass F P X m j a w e f l q =
    right_down F X m j a (rw e l) ∙ ap (λ y. right F X m (F.target (suc m) y + F.index m a) a) e ∙ q
    ∙ sym (right_down F P m j a (rw f l) ∙ ap (λ y. right F P m (F.target (suc m) y + F.index m a) a) f)

either_step : (F : Form) (P Q X : ℕ → ℕ) (m j a : ℕ) → P j ≡ Q j → X j ≡ P j
    → (F.leads (suc m) (P j) ≡ true → Either F P Q X m (F.target (suc m) (P j) + F.index m a) a)
    → Either F P Q X (suc m) j a
either_step F P Q X m j a e f ih = by_cases (F.leads (suc m) (P j))
    (λ l. ⊎_elim (λ q. inl (pass F P X m j a (P j) f refl l q)) (λ q. inr (pass F Q X m j a (P j) f (sym e) l q))
    (ih l))
    (λ l. inl (right_says F X (suc m) j a (rw f l) ∙ ap (λ w. F.says (suc m) w a) f
    ∙ sym (right_says F P (suc m) j a l)))

-- Each right is the old one or the new one.
pub mixed_right : (F : Form) → Lawful F → {P Q X : ℕ → ℕ} → Mixed F P Q X → (m j a : ℕ) → Kept F P Q m j
    → (right F X m j a ≡ right F P m j a) ⊎ (right F X m j a ≡ right F Q m j a)
mixed_right F L {P} {Q} {X} x zero j a c = elim (ℕ_discrete (P j) (Q j)) [
  | yes e ↦ inl (right_last F X j a ∙ ap (λ w. F.says zero w a) (agreed F x c e) ∙ sym (right_last F P j a))
  | no d ↦ either F L x zero j a c d
]
mixed_right F L {P} {Q} {X} x (suc m) j a c = elim (ℕ_discrete (P j) (Q j)) [
  | yes e ↦ either_step F P Q X m j a e (agreed F x c e)
      (λ l. mixed_right F L x m _ a (down (F.index m a) c e l (L.index_below m a)))
  | no d ↦ either F L x (suc m) j a c d
]

-- Where each kept word that leads is still the old one, all that is reached is reached in the old pool.
module _ (F : Form) {P Q X : ℕ → ℕ} (x : Mixed F P Q X) (sP : SoundPool F P) (sQ : SoundPool F Q)
    (links : (m j : ℕ) → Kept F P Q (suc m) j → F.leads (suc m) (X j) ≡ true → X j ≡ P j) where
  -- Below an old word that is to change.
  abbrev Hangs : ℕ → ℕ → Type 0
  Hangs m j = (h : ℕ) × (k : ℕ) × Kept F P Q (suc h) k × (P k ≢ Q k) × (X k ≡ P k) × (F.leads (suc h) (P k) ≡ true)
      × Reach F P (Table F h (F.target (suc h) (P k))) m j

  mixed_reach : {m j : ℕ} → Reach F X (Roots F) m j → Kept F P Q m j ⊎ Hangs m j
  mixed_reach (start r) = inl (top r)
  mixed_reach (step {m} {j} i r l b) = go (mixed_reach r)
    where
      go : Kept F P Q (suc m) j ⊎ Hangs (suc m) j → Kept F P Q m (F.target (suc m) (X j) + i)
          ⊎ Hangs m (F.target (suc m) (X j) + i)
      go (inl c) =
          let e : X j ≡ P j = links m j c l in
          let lP : F.leads (suc m) (P j) ≡ true = rw e at l in
          rw e (elim (ℕ_discrete (P j) (Q j)) [
            | yes q ↦ inl (down i c q lP b)
            | no d ↦ inr (m, j, c, d, e, lP, start (i, refl, refl, b))
          ])
      go (inr (h, k, c, d, e, p, q)) =
          let f : X j ≡ P j = x.old c d e p q in
          rw f (inr (h, k, c, d, e, p, step i q (rw f at l) b))

  mixed_old : {m j : ℕ} → Kept F P Q m j ⊎ Hangs m j → Reach F P (Roots F) m j
  mixed_old (inl c) = kept_reach F c
  mixed_old (inr (h, k, c, d, e, p, q)) = through F (kept_reach F c) p q

  mixed_word : {m j : ℕ} → Kept F P Q (suc m) j ⊎ Hangs (suc m) j → F.leads (suc m) (X j) ≡ true → X j ≡ P j
  mixed_word {m} {j} (inl c) l = links m j c l
  mixed_word (inr (h, k, c, d, e, p, q)) l = x.old c d e p q

  mixed_good : {m j : ℕ} → Kept F P Q m j ⊎ Hangs m j → F.good m (X j) ≡ true
  mixed_good (inl c) = ⊎_elim (λ e. rw e (sP.good (kept_reach F c)))
      (λ e. rw e (sQ.good (kept_reach F (kept_swap F c)))) (x.kept c)
  mixed_good (inr (h, k, c, d, e, p, q)) = rw (x.old c d e p q) (sP.good (through F (kept_reach F c) p q))

  pub mixed_sound : SoundPool F X
  mixed_sound = record {
    good = λ r. mixed_good (mixed_reach r);
    once = λ {m} {j} {k} r l q p e.
        let ej : X j ≡ P j = mixed_word (mixed_reach r) l in
        let ek : X k ≡ P k = mixed_word (mixed_reach q) p in
        sP.once (mixed_old (mixed_reach r)) (rw ej at l) (mixed_old (mixed_reach q)) (rw ek at p) (rw (ej, ek) at e);
  }

module _ (F : Form) (L : Lawful F) {P Q X : ℕ → ℕ} (sP : SoundPool F P) (sQ : SoundPool F Q)
    (keeps : (m j : ℕ) → Kept F P Q m j → F.leads m (P j) ≡ true → F.leads m (Q j) ≡ true → P j ≡ Q j) where
  pub stage_mixed : Stage F P Q X → Mixed F P Q X
  stage_mixed (giving g) = record {
    kept = λ {m} {j} c. ⊎_elim inl (λ q. inr q.0) (g.kept m j c);
    old = λ {j = j} c d e l r. g.rest j (hangs_not_kept F L sP c l d r);
    new = λ {h} {k} c d e l r. absurd (⊎_elim (λ q. d (sym q ∙ e)) (λ q. d (keeps (suc h) k c q.1 l))
        (g.kept (suc h) k c));
  }
  stage_mixed (filling g) = record {
    kept = λ {m} {j} c. by_cases (F.leads m (P j)) (λ l. inr (g.gave m j c l)) (λ l. inl (g.kept m j c l));
    old = λ {h} {k} c d e l r. absurd (d (sym e ∙ g.gave (suc h) k c l));
    new = λ {h} {k} c d e l r.
        absurd (by_cases (F.leads (suc h) (P k)) (λ p. d (keeps (suc h) k c p l))
        (λ p. d (sym (g.kept (suc h) k c p) ∙ e)));
  }
  stage_mixed (linking g) = record {
    kept = λ {m} {j} c. g.kept m j c;
    old = λ {h} {k} c d e l r. absurd (d (sym e ∙ g.gave (suc h) k c l));
    new = λ {j = j} c d e l r. g.rest j (λ n q. hangs_not_kept F L sQ (kept_swap F c) l (λ p. d (sym p)) r n
        (kept_swap F q));
  }

  pub stage_sound : Stage F P Q X → SoundPool F X
  stage_sound (giving g) = mixed_sound F (stage_mixed (giving g)) sP sQ
      (λ m j c l. ⊎_elim (λ q. q) (λ q. q.0 ∙ sym (keeps (suc m) j c q.1 (rw q.0 at l))) (g.kept (suc m) j c))
  stage_sound (filling g) = mixed_sound F (stage_mixed (filling g)) sP sQ
      (λ m j c l. by_cases (F.leads (suc m) (P j))
      (λ p. g.gave (suc m) j c p ∙ sym (keeps (suc m) j c p (rw (g.gave (suc m) j c p) at l)))
      (λ p. g.kept (suc m) j c p))
  stage_sound (linking g) = mixed_sound F (mixed_swap F (stage_mixed (linking g))) sQ sP
      (λ m j c l. ⊎_elim (λ q. g.gave (suc m) j (kept_swap F c) (rw q at l)) (λ q. q)
      (g.kept (suc m) j (kept_swap F c)))

  pub stage_right : Stage F P Q X → (d a : ℕ) → d < F.domains → (right_of F X d a ≡ right_of F P d a)
      ⊎ (right_of F X d a ≡ right_of F Q d a)
  stage_right g d a h = mixed_right F L (stage_mixed g) F.top (entry F d a) a
      (top (d, F.index F.top a, refl, refl, h, L.index_below F.top a))

  -- A pool at a stage is one that a cut leaves.
  pub stage_cut : Stage F P Q X → Cut F P Q X
  stage_cut g = record { sound = stage_sound g; rights = λ d a bd ba. stage_right g d a bd }

-- One store of a finished word leaves the pool at its stage.
module _ (F : Form) (L : Lawful F) (P Q : ℕ → ℕ) {X Y : ℕ → ℕ} (sP : SoundPool F P) {k : ℕ} (st : Store X Y k (Q k))
  where
    kept_height : {m n j : ℕ} → Kept F P Q m k → Kept F P Q n j → j ≡ k → n ≡ m
    kept_height c d e = sym (kept_zone F L sP d) ∙ ap F.zone e ∙ kept_zone F L sP c

    stored : {j : ℕ} → j ≡ k → Y j ≡ Q j
    stored e = ap Y e ∙ st.at ∙ ap Q (sym e)

    pub give_store : (m : ℕ) → Kept F P Q m k → F.leads m (P k) ≡ true → Giving F P Q X → Giving F P Q Y
    give_store m c l g = record {
      kept = λ n j d. elim (ℕ_discrete j k) [
        | yes e ↦ inr (stored e, rw (kept_height c d e, e) l)
        | no o ↦ rw (st.off j o) (g.kept n j d)
      ];
      rest = λ j away. st.off j (λ e. away m (rw e c)) ∙ g.rest j away;
    }

    pub fill_store : ((n : ℕ) → Kept F P Q n k → ⊥) → Filling F P Q X → Filling F P Q Y
    fill_store away g = record {
      gave = λ m j c l. st.off j (λ e. away m (rw e at c)) ∙ g.gave m j c l;
      kept = λ m j c l. st.off j (λ e. away m (rw e at c)) ∙ g.kept m j c l;
    }

    pub link_store : (m : ℕ) → Kept F P Q m k → Linking F P Q X → Linking F P Q Y
    link_store m c g = record {
      kept = λ n j d. elim (ℕ_discrete j k) [ yes e ↦ inr (stored e) | no o ↦ rw (st.off j o) (g.kept n j d) ];
      gave = λ n j d l. elim (ℕ_discrete j k) [ yes e ↦ stored e | no o ↦ st.off j o ∙ g.gave n j d l ];
      rest = λ j away. st.off j (λ e. away m (rw e c)) ∙ g.rest j away;
    }

    pub next_stage : Next F P Q X k → Stage F P Q Y
    next_stage (give m c l g) = giving (give_store m c l g)
    next_stage (fill away g) = filling (fill_store away g)
    next_stage (link m c g) = linking (link_store m c g)

-- The old pool is at the first stage, and the finished one at the last.
pub giving_old : (F : Form) (P Q : ℕ → ℕ) → Giving F P Q P
giving_old F P Q = record { kept = λ m j c. inl refl; rest = λ j away. refl }

pub linking_finished : (F : Form) (P Q : ℕ → ℕ) → Linking F P Q Q
linking_finished F P Q = record { kept = λ m j c. inr refl; gave = λ m j c l. refl; rest = λ j away. refl }

-- A word that may be stored now shows a pool at a stage.
pub next_now : (F : Form) (P Q : ℕ → ℕ) {X : ℕ → ℕ} {k : ℕ} → Next F P Q X k → Stage F P Q X
next_now F P Q (give m c l g) = giving g
next_now F P Q (fill away g) = filling g
next_now F P Q (link m c g) = linking g

-- A store that is ready leaves what a cut leaves ..
pub store_cut : (F : Form) → Lawful F → (P Q : ℕ → ℕ) {X Y : ℕ → ℕ} {k : ℕ} → Ready F P Q X k → Store X Y k (Q k)
    → Cut F P Q Y
store_cut F L P Q r st = stage_cut F L r.old r.finished r.keeps (next_stage F L P Q r.old st r.next)

-- .. and so does one to a lent memory.
pub put_cut : (F : Form) → Lawful F → (x : List ℕ) (k v : ℕ) → k < length x → (P Q : ℕ → ℕ) → Ready F P Q (words x) k
    → v ≡ Q k
    → Cut F P Q (words (set x k v))
put_cut F L x k v h P Q r e = rw e (store_cut F L P Q r (store_set x k (Q k) h))
