-- Laws of one store to a sound pool: to a word that is not reached, of rights, and of a word that leads. For any form.
use Prim.Native.Nat.{ℕ, suc, ◌+◌, ◌≤◌, ◌<◌}
use mathlib.Core.Path.{◌≡◌, refl, sym, ap, ◌∙◌}
use mathlib.Core.Logic.{◌≢◌, ◌⊎◌, inl, inr}
use mathlib.Core.Bool.{true, false, true≢false}
use mathlib.Core.List.{List}
use native.Mathlib.Omega.{arith}
use native.Mathlib.Decide.{ℕ_discrete}
use lib.ListN.{length, set}
use lib.Seq.{get_or-set_same, get_or-set_other}
use Rattle.theory.specs.Form.{Form}
use Rattle.theory.specs.Pool.{words, Reach, start, step, Sound, SoundPool, Visits, here, next, right, Roots}
use Rattle.theory.specs.Pool.{Table, entry, right_of}
use Rattle.theory.specs.Settled.{Together}
use Rattle.theory.specs.Lawful.{Lawful}
use Rattle.theory.proofs.ReachLaws.{visits_reach, visited_reach, entry_reach, sound_same, table_low, Zoned}
use Rattle.theory.proofs.ReachLaws.{roots_zoned, zone_of}
use Rattle.theory.proofs.RightLaws.{right_down, right_says, right_visits, right_along, right_same}
use Rattle.theory.proofs.BlockLaws.{one_block, together_visits}

-- The pool `Q` is the pool `P` with `v` stored at word `k`.
pub record Store (P Q : ℕ → ℕ) (k v : ℕ) : Type 0 where
  pub at : Q k ≡ v
  pub off : (j : ℕ) → j ≢ k → Q j ≡ P j

-- A store to a lent memory is one.
pub store_set : (p : List ℕ) (k v : ℕ) → k < length p → Store (words p) (words (set p k v)) k v
store_set p k v h = record { at = get_or-set_same p k v 0 h; off = λ j n. get_or-set_other p k j v 0 n }

-- 1. A store to a word that is not reached.
module _ (F : Form) (L : Lawful F) {P Q : ℕ → ℕ} (S : ℕ → ℕ → Type 0) {k v : ℕ} (st : Store P Q k v)
    (away : (m : ℕ) → Reach F P S m k → ⊥) where
  away_same : (m j : ℕ) → Reach F P S m j → Q j ≡ P j
  away_same m j r = st.off j (λ e. away m (rw e at r))

  pub sound_store_unreached : Sound F P S → Sound F Q S
  sound_store_unreached s = sound_same F P Q S away_same s

  pub right_store_unreached : (h j a : ℕ) → Reach F P S h j → right F Q h j a ≡ right F P h j a
  right_store_unreached = right_same F L P Q S away_same

-- 2. A store of a good word to a word that is reached.
module _ (F : Form) (L : Lawful F) {P Q : ℕ → ℕ} {S : ℕ → ℕ → Type 0} (z : Zoned F S) (s : Sound F P S)
    {k v h : ℕ} (st : Store P Q k v) (rk : Reach F P S h k) (g : F.good h v ≡ true) where
  -- The stored word is met at one height alone.
  same_height : {m j : ℕ} → Reach F P S m j → j ≡ k → m ≡ h
  same_height r e = sym (zone_of F L z s r) ∙ ap F.zone e ∙ zone_of F L z s rk

  good_after : {m j : ℕ} → Reach F P S m j → F.good m (Q j) ≡ true
  good_after {m} {j} r = elim (ℕ_discrete j k) [
    | yes e ↦ rw (e, st.at, same_height r e) g
    | no n ↦ rw (st.off j n) (s.good r)
  ]

  -- The words above the stored one stay: a walk that comes to it still does.
  pub visits_store : {a i n m j : ℕ} → Reach F P S i n → h ≤ m → Visits F P a i n m j → Visits F Q a i n m j
  visits_store r b here = here
  visits_store {a} r b (next {m} {j} w l) =
      let e : Q j ≡ P j = st.off j (λ e. let q : suc m ≡ h = same_height (visits_reach F P a L r w) e in
      omega arith) in
      rw (← e) (next (visits_store r (omega arith) w) (rw e l))

  -- A walk that does not come to it keeps its right.
  pub right_store_elsewhere : (a i n : ℕ) → Reach F P S i n → (Visits F P a i n h k → ⊥) → right F Q i n a
      ≡ right F P i n a
  right_store_elsewhere a i n r off = right_along F P Q a i n (λ m j w. st.off j (λ e.
      off (rw (e, same_height (visits_reach F P a L r w) e) at w)))

  -- The stored word does not lead: the pool is sound, and walks that come to the word have the right that it says.
  module _ (l : F.leads h v ≡ false) where
    leads_off : {m j : ℕ} → Reach F P S (suc m) j → F.leads (suc m) (Q j) ≡ true → j ≢ k
    leads_off r q e = true≢false (sym q ∙ rw (e, st.at, same_height r e) l)

    reach_before : {m j : ℕ} → Reach F Q S m j → Reach F P S m j
    reach_before (start x) = start x
    reach_before (step {m} {j} i r q b) =
        let p : Reach F P S (suc m) j = reach_before r in
        let e : Q j ≡ P j = st.off j (leads_off p q) in
        rw e (step i p (rw e at q) b)

    pub sound_store_rights : Sound F Q S
    sound_store_rights = record {
      good = λ r. good_after (reach_before r);
      once = λ {m} {j = i} {k = j} r p q n e.
          let ei : Q i ≡ P i = st.off i (leads_off (reach_before r) p) in
          let ej : Q j ≡ P j = st.off j (leads_off (reach_before q) n) in
          s.once (reach_before r) (rw ei at p) (reach_before q) (rw ej at n) (rw (ei, ej) at e);
    }

    pub right_store_rights : (a i n : ℕ) → Reach F P S i n → Visits F P a i n h k → right F Q i n a ≡ F.says h v a
    right_store_rights a i n r w =
        right_visits F Q (visits_store r (omega arith) w) ∙ right_says F Q h k a (rw st.at l)
        ∙ ap (λ x. F.says h x a) st.at

-- 3. A store of a word that leads to a sound table none of which is reached.
module _ (F : Form) (L : Lawful F) {P Q : ℕ → ℕ} {S : ℕ → ℕ → Type 0} (z : Zoned F S) (s : Sound F P S)
    {k v h : ℕ} (st : Store P Q k v) (rk : Reach F P S (suc h) k) (g : F.good (suc h) v ≡ true)
    (l : F.leads (suc h) v ≡ true)
    (s' : Sound F P (Table F h (F.target (suc h) v)))
    (new : (m j : ℕ) → Reach F P S m j → Reach F P (Table F h (F.target (suc h) v)) m j → ⊥) where
  abbrev New : ℕ → ℕ → Type 0
  New = Reach F P (Table F h (F.target (suc h) v))

  new_zoned : Zoned F (Table F h (F.target (suc h) v))
  new_zoned m j x = rw (x.1, x.2) (L.target_zone h v x.0 g l x.3)

  -- A word of the new table is no reached one, so it is not the stored one.
  new_off : {m j : ℕ} → New m j → Q j ≡ P j
  new_off {m} {j} r = st.off j (λ e.
      let q : m ≡ suc h = sym (zone_of F L new_zoned s' r) ∙ ap F.zone e ∙ zone_of F L z s rk in
      let b : m ≤ h = table_low F P h (F.target (suc h) v) r in
      omega arith)

  reach_after : {m j : ℕ} → Reach F Q S m j → Reach F P S m j ⊎ New m j
  reach_after (start x) = inl (start x)
  reach_after (step {m} {j} i r q b) = go (reach_after r)
    where
      low : suc m ≡ suc h → m ≡ h
      low e = omega arith

      go : Reach F P S (suc m) j ⊎ New (suc m) j → Reach F P S m (F.target (suc m) (Q j) + i)
          ⊎ New m (F.target (suc m) (Q j) + i)
      go (inl p) = elim (ℕ_discrete j k) [
        | yes e ↦
            (let hm : m ≡ h = low (same_height F L z s st rk g p e) in
            let x : F.target (suc m) (Q j) + i ≡ F.target (suc h) v + i = rw (e, st.at, hm) in
            inr (start (i, hm, x, rw hm at b)))
        | no n ↦ inl (rw (st.off j n) (step i p (rw (st.off j n) at q) b))
      ]
      go (inr p) = inr (rw (new_off p) (step i p (rw (new_off p) at q) b))

  -- A reached word that leads in the old pool does not lead to the new table, nor into it.
  no_share : {m i j : ℕ} → Reach F P S (suc m) i → F.leads (suc m) (P i) ≡ true → New (suc m) j
      → F.leads (suc m) (P j) ≡ true
      → F.target (suc m) (P i) ≡ F.target (suc m) (P j) → ⊥
  no_share {m} {i} {j} r p q n e =
      new m (F.target (suc m) (P i) + F.index m 0) (step (F.index m 0) r p (L.index_below m 0))
      (rw e (step (F.index m 0) q n (L.index_below m 0)))

  no_link : {j : ℕ} → Reach F P S (suc h) j → F.leads (suc h) (P j) ≡ true → F.target (suc h) (P j)
      ≡ F.target (suc h) v → ⊥
  no_link {j} r p e =
      new h (F.target (suc h) (P j) + F.index h 0) (step (F.index h 0) r p (L.index_below h 0))
      (start (F.index h 0, refl, rw e, L.index_below h 0))

  -- Two reached words that lead to one table, the first of them the stored one or not.
  one_old : {m i j : ℕ} → Dec (i ≡ k) → Reach F P S (suc m) i → F.leads (suc m) (Q i) ≡ true → New (suc m) j
      → F.leads (suc m) (Q j) ≡ true → F.target (suc m) (Q i) ≡ F.target (suc m) (Q j) → ⊥
  one_old {m} (yes e) r p q n x =
      let hm : suc m ≡ suc h = same_height F L z s st rk g r e in
      let b : suc m ≤ h = table_low F P h (F.target (suc h) v) q in
      omega arith
  one_old {i = i} {j = j} (no f) r p q n x =
      let ei : Q i ≡ P i = st.off i f in
      let ej : Q j ≡ P j = new_off q in
      no_share r (rw ei at p) q (rw ej at n) (rw (ei, ej) at x)

  stored_old : {m i j : ℕ} → i ≡ k → j ≢ k → Reach F P S (suc m) i → Reach F P S (suc m) j → F.leads (suc m) (Q j)
      ≡ true
      → F.target (suc m) (Q j) ≡ F.target (suc m) (Q i) → ⊥
  stored_old {m} {i} {j} e f r q n x =
      let hm : suc m ≡ suc h = same_height F L z s st rk g r e in
      let ej : Q j ≡ P j = st.off j f in
      no_link (rw hm at q) (rw (ej, hm) at n) (rw (ej, e, st.at, hm) at x)

  both_old : {m i j : ℕ} → Dec (i ≡ k) → Dec (j ≡ k) → Reach F P S (suc m) i → F.leads (suc m) (Q i) ≡ true
      → Reach F P S (suc m) j → F.leads (suc m) (Q j) ≡ true → F.target (suc m) (Q i) ≡ F.target (suc m) (Q j) → i
      ≡ j
  both_old (yes e) (yes f) r p q n x = e ∙ sym f
  both_old (yes e) (no f) r p q n x = absurd (stored_old e f r q n (sym x))
  both_old (no e) (yes f) r p q n x = absurd (stored_old f e q r p x)
  both_old {i = i} {j = j} (no e) (no f) r p q n x =
      let ei : Q i ≡ P i = st.off i e in
      let ej : Q j ≡ P j = st.off j f in
      s.once r (rw ei at p) q (rw ej at n) (rw (ei, ej) at x)

  once_after : {m i j : ℕ} → Reach F P S (suc m) i ⊎ New (suc m) i → F.leads (suc m) (Q i) ≡ true
      → Reach F P S (suc m) j ⊎ New (suc m) j → F.leads (suc m) (Q j) ≡ true
      → F.target (suc m) (Q i) ≡ F.target (suc m) (Q j) → i ≡ j
  once_after {i = i} {j = j} (inl r) p (inl q) n x = both_old (ℕ_discrete i k) (ℕ_discrete j k) r p q n x
  once_after {i = i} (inl r) p (inr q) n x = absurd (one_old (ℕ_discrete i k) r p q n x)
  once_after {j = j} (inr r) p (inl q) n x = absurd (one_old (ℕ_discrete j k) q n r p (sym x))
  once_after {i = i} {j = j} (inr r) p (inr q) n x =
      s'.once r (rw (new_off r) at p) q (rw (new_off q) at n) (rw (new_off r, new_off q) at x)

  good_linked : {m j : ℕ} → Reach F P S m j ⊎ New m j → F.good m (Q j) ≡ true
  good_linked (inl r) = good_after F L z s st rk g r
  good_linked (inr r) = rw (new_off r) (s'.good r)

  pub sound_store_link : Sound F Q S
  sound_store_link = record {
    good = λ r. good_linked (reach_after r);
    once = λ r p q n e. once_after (reach_after r) p (reach_after q) n e;
  }

  -- The right of a walk through the stored word is the one that the new table gave already.
  pub right_store_link : (a i n : ℕ) → Reach F P S i n → Visits F P a i n (suc h) k
      → right F Q i n a ≡ right F P h (F.target (suc h) v + F.index h a) a
  right_store_link a i n r w =
      right_visits F Q (visits_store F L z s st rk g r (omega arith) w)
      ∙ right_down F Q h k a (rw st.at l)
      ∙ ap (λ x. right F Q h (F.target (suc h) x + F.index h a) a) st.at
      ∙ right_same F L P Q (Table F h (F.target (suc h) v)) (λ m j x. new_off x) h _ a
      (start (F.index h a, refl, refl, L.index_below h a))

-- 4. The same for a lent memory, by domain and address: a word that is not reached ..
module _ (F : Form) (L : Lawful F) (p : List ℕ) (k v : ℕ) (b : k < length p)
    (away : (m : ℕ) → Reach F (words p) (Roots F) m k → ⊥) where
  pub unreached_sound : SoundPool F (words p) → SoundPool F (words (set p k v))
  unreached_sound s = sound_store_unreached F L (Roots F) (store_set p k v b) away s

  pub unreached_right : (d a : ℕ) → d < F.domains → right_of F (words (set p k v)) d a ≡ right_of F (words p) d a
  unreached_right d a h =
      right_store_unreached F L (Roots F) (store_set p k v b) away F.top (entry F d a) a (entry_reach F L d a h)

-- .. a good word, stored where domain `e` comes at height `h` on its walk for `b` ..
module _ (F : Form) (L : Lawful F) (p : List ℕ) (k v h e b : ℕ) (bk : k < length p) (be : e < F.domains)
    (s : SoundPool F (words p))
    (w : Visits F (words p) b F.top (entry F e b) h k) (g : F.good h v ≡ true) where
  meets : Reach F (words p) (Roots F) h k
  meets = visited_reach F L e b be w

  -- Other domains, and addresses of other blocks, keep their rights, whatever good word is stored.
  pub outside_right : (d a : ℕ) → d < F.domains → (d ≡ e → Together F h a b → ⊥)
      → right_of F (words (set p k v)) d a ≡ right_of F (words p) d a
  outside_right d a bd off =
      right_store_elsewhere F L (roots_zoned F L) s (store_set p k v bk) meets g a F.top (entry F d a)
      (entry_reach F L d a bd)
      (λ x. let y = one_block F L s bd be x w refl refl in off y.0 y.1)

  -- The word does not lead: inside its block the rights are those that it says.
  module _ (l : F.leads h v ≡ false) where
    pub rights_sound : SoundPool F (words (set p k v))
    rights_sound = sound_store_rights F L (roots_zoned F L) s (store_set p k v bk) meets g l

    pub rights_inside : (a : ℕ) → Together F h b a → right_of F (words (set p k v)) e a ≡ F.says h v a
    rights_inside a t =
        right_store_rights F L (roots_zoned F L) s (store_set p k v bk) meets g l a F.top (entry F e a)
        (entry_reach F L e a be)
        (together_visits F e b a w t)

-- .. and a good word that leads to a sound table none of which is reached: inside its block the rights are those of
-- the table.
module _ (F : Form) (L : Lawful F) (p : List ℕ) (k v h e b : ℕ) (bk : k < length p) (be : e < F.domains)
    (s : SoundPool F (words p))
    (w : Visits F (words p) b F.top (entry F e b) (suc h) k) (g : F.good (suc h) v ≡ true)
    (l : F.leads (suc h) v ≡ true)
    (s' : Sound F (words p) (Table F h (F.target (suc h) v)))
    (new : (m j : ℕ) → Reach F (words p) (Roots F) m j → Reach F (words p) (Table F h (F.target (suc h) v)) m j → ⊥)
  where
    pub link_sound : SoundPool F (words (set p k v))
    link_sound = sound_store_link F L (roots_zoned F L) s (store_set p k v bk) (visited_reach F L e b be w) g l s' new

    pub link_inside : (a : ℕ) → Together F (suc h) b a
        → right_of F (words (set p k v)) e a ≡ right F (words p) h (F.target (suc h) v + F.index h a) a
    link_inside a t =
        right_store_link F L (roots_zoned F L) s (store_set p k v bk) (visited_reach F L e b be w) g l s' new a F.top
        (entry F e a)
        (entry_reach F L e a be) (together_visits F e b a w t)
