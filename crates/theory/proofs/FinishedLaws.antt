-- There is one finished pool, and it depends on the rights of addresses alone. For any form.
use Prim.Native.Nat.{ℕ, zero, suc, ◌≤◌, ◌<◌}
use mathlib.Core.Path.{◌≡◌, refl, sym, fun_ext, ◌∙◌}
use mathlib.Core.Logic.{◌≢◌, ◌⊎◌, inl, inr}
use mathlib.Core.Bool.{true, false, true≢false}
use native.Mathlib.Omega.{arith}
use native.Mathlib.Decide.{ℕ_discrete, dec_lt}
use Rattle.theory.specs.Form.{Form}
use Rattle.theory.specs.Pool.{Reach, SoundPool, Visits, here, next, Roots, entry, right_of, Led}
use Rattle.theory.specs.Settled.{Settled}
use Rattle.theory.specs.Finished.{New, Stays, Place, Before, Finished}
use Rattle.theory.specs.Lawful.{Lawful, Exact, Wanting}
use Rattle.theory.proofs.ReachLaws.{visited_reach}
use Rattle.theory.proofs.Logic.{by_cases}
use Rattle.theory.proofs.BlockLaws.{one_word, one_table, one_owner, led_together, met_by}
use Rattle.theory.proofs.SettledLaws.{same_shape, says_at, says_same}

pub stable : (m n : ℕ) → ((m ≢ n) → ⊥) → m ≡ n
stable m n f = elim (ℕ_discrete m n) [ yes e ↦ e | no d ↦ absurd (f d) ]

-- Of two addresses of two domains, one comes first, or they are the same.
pub in_order : (d a e b : ℕ) → Before d a e b ⊎ (((d ≡ e) × (a ≡ b)) ⊎ Before e b d a)
in_order d a e b = elim (ℕ_discrete d e) [
  | yes p ↦ elim (ℕ_discrete a b) [
    | yes q ↦ inr (inl (p, q))
    | no q ↦ elim (dec_lt a b) [ yes r ↦ inl (inr (p, r)) | no r ↦ inr (inr (inr (sym p, omega arith))) ]
  ]
  | no p ↦ elim (dec_lt d e) [ yes r ↦ inl (inl r) | no r ↦ inr (inr (inl (omega arith))) ]
]

-- Where a good word leads there is a place.
pub led_place : (F : Form) → Lawful F → {Q : ℕ → ℕ} → SoundPool F Q → (d a h : ℕ) {t : ℕ} → d < F.domains
    → Led F Q d a h t → Place F h t
led_place F L {Q} s d a h bd (k, v, l, e) = (Q k, s.good (visited_reach F L d a bd v), l, e)

module _ (F : Form) (L : Lawful F) (W : Wanting F) (P : ℕ → ℕ) (R : ℕ → ℕ → ℕ) where
  -- Of two finished pools, one leads where the other does.
  led_other : {Q T : ℕ → ℕ} → Finished F P R Q → Finished F P R T → (d a h : ℕ) {t : ℕ} → d < F.domains → a < F.span
      → Led F Q d a h t
      → (s : ℕ) × Led F T d a h s
  led_other q f d a h {t} bd ba x =
      same_shape F W q.settled f.settled d a h bd ba (λ b lo. q.rights d b bd lo ∙ sym (f.rights d b bd lo))
      (t, x)

  new_other : {Q T : ℕ → ℕ} → Finished F P R Q → Finished F P R T → (d a h : ℕ) {t : ℕ} → New F P Q d a h t → (s : ℕ)
      × New F P T d a h s
  new_other q f d a h (bd, ba, x, no_old) = let y = led_other q f d a h bd ba x in (y.0, (bd, ba, y.1, no_old))

  -- The new tables at places below `x` are the same ones.
  abbrev SameBelow : (Q T : ℕ → ℕ) → ℕ → ℕ → Type 0
  SameBelow Q T h x = (y d a : ℕ) → y < x → (New F P Q d a h y → New F P T d a h y)
      × (New F P T d a h y → New F P Q d a h y)

  -- No table of both stands where a new one does.
  new_free : {Q T : ℕ → ℕ} → Finished F P R Q → Finished F P R T → (d a h x : ℕ) → New F P Q d a h x → Stays F P T h x
      → ⊥
  new_free {Q} {T} q f d a h x (bd, ba, n, no_old) (e, b, be, bb, o, m) =
      let y = led_other f q e b h be bb m in
      let z : x ≡ y.0 = q.keeps be bb o y.1 in
      let w = one_owner F L q.settled.sound e b d a h x be bd (rw (← z) at y.1) n in
      no_old x (led_together F P d b a h w.1 (rw w.0 at o))

  module _ {Q T : ℕ → ℕ} (q : Finished F P R Q) (f : Finished F P R T) (h x : ℕ) (ih : SameBelow Q T h x) (d a : ℕ)
      (n : New F P Q d a h x) where
    -- It stands no lower in the other pool ..
    not_lower : (y : ℕ) → New F P T d a h y → y < x → ⊥
    not_lower y m b = let z : x ≡ y = one_table F Q d a h n.2 ((ih y d a b).1 m).2 in omega arith

    -- .. and no higher.
    not_higher : (y : ℕ) → New F P T d a h y → x < y → ⊥
    not_higher y m up =
        let o = f.lowest x m (led_place F L q.settled.sound d a h n.0 n.2) up (new_free q f d a h x n) in
        higher o.0 o.1 o.2 (in_order d a o.0 o.1)
      where
        clash : (e b : ℕ) → New F P T e b h x → (z : ℕ) → New F P Q e b h z → z ≤ x → ⊥
        clash e b w z v lo = elim (ℕ_discrete z x) [
          | yes p ↦
              (let o = one_owner F L q.settled.sound e b d a h x v.0 n.0 (rw p at v.2) n.2 in
              let r : x ≡ y = one_table F T d a h (led_together F T d b a h o.1 (rw o.0 at w.2)) m.2 in
              omega arith)
          | no p ↦ (let r : x ≡ z = one_table F T e b h w.2 ((ih z e b (omega arith)).0 v).2 in omega arith)
        ]

        higher : (e b : ℕ) → New F P T e b h x → Before d a e b ⊎ (((d ≡ e) × (a ≡ b)) ⊎ Before e b d a) → ⊥
        higher e b w (inl p) = let z : y ≤ x = f.order m w p in omega arith
        higher e b w (inr (inl (p, r))) = let z : x ≡ y = one_table F T e b h w.2 (rw (p, r) at m.2) in
            omega arith
        higher e b w (inr (inr p)) = let v = new_other f q e b h w in clash e b w v.0 v.1 (q.order v.1 n p)

    -- So it stands at the same place.
    same_place : New F P T d a h x
    same_place =
        let m = new_other q f d a h n in
        let e : m.0 ≡ x = stable m.0 x (λ o. elim (dec_lt m.0 x) [
          | yes b ↦ not_lower m.0 m.1 b
          | no b ↦ not_higher m.0 m.1 (omega arith)
        ]) in
        rw e at m.1

  same_swap : {Q T : ℕ → ℕ} (h x : ℕ) → SameBelow Q T h x → SameBelow T Q h x
  same_swap h x s y d a b = ((s y d a b).1, (s y d a b).0)

  same_below : {Q T : ℕ → ℕ} → Finished F P R Q → Finished F P R T → (h x : ℕ) → SameBelow Q T h x
  same_below q f h zero y d a b = absurd (omega arith)
  same_below {Q} {T} q f h (suc x) y d a b =
      let ih : SameBelow Q T h y = λ z e c lo. same_below q f h x z e c (omega arith) in
      (λ n. same_place q f h y ih d a n, λ n. same_place f q h y (same_swap h y ih) d a n)

  -- Where one finished pool leads to a table, the other leads to the same one.
  pub same_led : {Q T : ℕ → ℕ} → Finished F P R Q → Finished F P R T → (d a h t : ℕ) → d < F.domains → a < F.span
      → Led F Q d a h t → Led F T d a h t
  same_led {Q} {T} q f d a h t bd ba x =
      let y = led_other q f d a h bd ba x in
      let e : y.0 ≡ t = stable y.0 t (λ o.
      let no_old : (s : ℕ) → Led F P d a h s → ⊥ = λ s z. o (sym (f.keeps bd ba z y.1) ∙ q.keeps bd ba z x) in
      o (one_table F T d a h y.1 ((same_below q f h (suc t) t d a (omega arith)).0 (bd, ba, x, no_old)).2)) in
      rw e at y.1

  same_visits : {Q T : ℕ → ℕ} → Finished F P R Q → Finished F P R T → (d a : ℕ) {m j : ℕ} → d < F.domains → a < F.span
      → Visits F Q a F.top (entry F d a) m j → Visits F T a F.top (entry F d a) m j
  same_visits q f d a bd ba here = here
  same_visits {Q} {T} q f d a bd ba (next {m} {j} v l) =
      let x = same_led q f d a m (F.target (suc m) (Q j)) bd ba (j, v, l, refl) in
      rw (← x.3) (next x.1 x.2)

  module _ (E : Exact F) {Q T : ℕ → ℕ} (q : Finished F P R Q) (f : Finished F P R T) (d a : ℕ) (bd : d < F.domains)
      (ba : a < F.span) where
    good_at : {X : ℕ → ℕ} → Finished F P R X → {m j : ℕ} → Visits F X a F.top (entry F d a) m j → F.good m (X j)
        ≡ true
    good_at {X} x v = x.settled.sound.good (visited_reach F L d a bd v)

    -- Both words decide.
    both_say : {m j : ℕ} → Visits F Q a F.top (entry F d a) m j → F.leads m (Q j) ≡ false → F.leads m (T j)
        ≡ false → Q j ≡ T j
    both_say {m} {j} v l n =
        let w = same_visits q f d a bd ba v in
        let x = says_at F L Q q.settled.sound d a m j bd v l in
        let y = says_at F L T f.settled.sound d a m j bd w n in
        E.says_exact m a (Q j) (T j) (right_of F Q d) ba x
        (says_same F m (right_of F T d) (right_of F Q d) a (T j)
        (λ b lo. f.rights d b bd lo ∙ sym (q.rights d b bd lo)) y)

    same_word : (m j : ℕ) → Visits F Q a F.top (entry F d a) m j → Q j ≡ T j
    same_word zero j v = both_say v (E.last (Q j)) (E.last (T j))
    same_word (suc m) j v =
        let w = same_visits q f d a bd ba v in
        by_cases (F.leads (suc m) (Q j))
        (λ l.
        let (k, u, n, e) = same_led q f d a m (F.target (suc m) (Q j)) bd ba (j, v, l, refl) in
        let o : k ≡ j = one_word F T u w refl in
        E.target_exact m (Q j) (T j) (good_at q v) l (good_at f w) (rw o at n) (sym (rw o at e)))
        (λ l. by_cases (F.leads (suc m) (T j))
        (λ n.
        let (k, u, p, e) = same_led f q d a m (F.target (suc m) (T j)) bd ba (j, w, n, refl) in
        let o : k ≡ j = one_word F Q u v refl in
        absurd (true≢false (sym (rw o at p) ∙ l)))
        (λ n. both_say v l n))

  same_reached : Exact F → {Q T : ℕ → ℕ} → Finished F P R Q → Finished F P R T → {m j : ℕ} → Reach F Q (Roots F) m j
      → Q j ≡ T j
  same_reached E q f {m} {j} r = let (d, a, bd, ba, v) = met_by F E r in same_word E q f d a bd ba m j v

  -- There is one finished pool.
  pub one_finished : Exact F → {Q T : ℕ → ℕ} → Finished F P R Q → Finished F P R T → (j : ℕ) → Q j ≡ T j
  one_finished E {Q} {T} q f j = stable (Q j) (T j) (λ o.
      o (q.idle j (λ m r. o (same_reached E q f r)) ∙ sym (f.idle j (λ m r. o (sym (same_reached E f q r))))))

-- Only the rights of addresses count for what is finished.
pub finished_same : (F : Form) (P : ℕ → ℕ) (R S : ℕ → ℕ → ℕ) {Q : ℕ → ℕ}
    → ((d a : ℕ) → d < F.domains → a < F.span → R d a ≡ S d a) → Finished F P R Q → Finished F P S Q
finished_same F P R S e f = record {
  settled = f.settled;
  rights = λ d a bd ba. f.rights d a bd ba ∙ e d a bd ba;
  keeps = f.keeps;
  order = f.order;
  lowest = f.lowest;
  idle = f.idle;
}

-- Pools that are equal word by word are finished alike.
pub finished_words : (F : Form) (P : ℕ → ℕ) (R : ℕ → ℕ → ℕ) {Q T : ℕ → ℕ} → ((j : ℕ) → Q j ≡ T j)
    → Finished F P R Q → Finished F P R T
finished_words F P R e f = rw (fun_ext e) at f

-- A settled pool is finished already, for its own rights.
pub settled_finished : (F : Form) {P : ℕ → ℕ} → Settled F P → Finished F P (right_of F P) P
settled_finished F {P} s = record {
  settled = s;
  rights = λ d a bd ba. refl;
  keeps = λ {d} {a} {h} bd ba x y. one_table F P d a h x y;
  order = λ {s = s} (bd, ba, x, un) n o. absurd (un s x);
  lowest = λ {t = t} x (bd, ba, y, un) p lt free. absurd (un t y);
  idle = λ j un. refl;
}
