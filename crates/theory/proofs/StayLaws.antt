-- The finished pool stays the same while the stores are made: what a pool on the way is to become is what the old
-- pool was to become, and a word that may be stored on the way from the old pool is the first that may be stored from
-- where we are. For any form.
use Prim.Native.Nat.{ℕ, suc, ◌+◌, ◌<◌}
use mathlib.Core.Path.{◌≡◌, refl, sym, ap, ◌∙◌}
use mathlib.Core.Logic.{◌≢◌, ◌⊎◌, inl, inr, ⊎_elim}
use mathlib.Core.Bool.{true, true≢false}
use native.Mathlib.Omega.{arith}
use native.Mathlib.Decide.{ℕ_discrete}
use Rattle.theory.specs.Form.{Form}
use Rattle.theory.specs.Pool.{Reach, start, step, SoundPool, Visits, here, next, Table, entry, Led}
use Rattle.theory.specs.Lawful.{Lawful, Exact}
use Rattle.theory.specs.Finished.{Finished, New, Stays, Place}
use Rattle.theory.specs.Stores.{Kept, top, down, Filling, Next, give, fill, link}
use Rattle.theory.proofs.Logic.{by_cases}
use Rattle.theory.proofs.ReachLaws.{visits_down}
use Rattle.theory.proofs.BlockLaws.{one_table}
use Rattle.theory.proofs.KeptLaws.{kept_swap, kept_zone}
use Rattle.theory.proofs.BetweenLaws.{Mixed, mixed_swap, agreed, stage_mixed, stage_sound, next_now, giving_old}
use Rattle.theory.proofs.FinishedLaws.{stable}
use Rattle.theory.proofs.ReadyLaws.{finished_links}

-- Where the walk of an address comes in a pool between two others.
module _ (F : Form) (L : Lawful F) {P Q X : ℕ → ℕ} (x : Mixed F P Q X) (a d : ℕ) (bd : d < F.domains) where
  -- Below a kept word that has its value in `P` and is to change.
  abbrev Under : (P Q : ℕ → ℕ) → ℕ → ℕ → Type 0
  Under P Q m j = (h : ℕ) × (k : ℕ) × Kept F P Q (suc h) k × (P k ≢ Q k) × (X k ≡ P k) × (F.leads (suc h) (P k) ≡ true)
      × Reach F P (Table F h (F.target (suc h) (P k))) m j × Visits F P a F.top (entry F d a) m j

  data Comes : ℕ → ℕ → Type 0 where
    both : {m j : ℕ} → Kept F P Q m j → Visits F P a F.top (entry F d a) m j → Visits F Q a F.top (entry F d a)
        m j → Comes m j
    old : {m j : ℕ} → Under P Q m j → Comes m j
    new : {m j : ℕ} → Under Q P m j → Comes m j

  under_step : (P Q : ℕ → ℕ) → Mixed F P Q X → (m j : ℕ) → Under P Q (suc m) j → F.leads (suc m) (X j) ≡ true
      → Under P Q m (F.target (suc m) (X j) + F.index m a)
  under_step P Q y m j (h, k, c, n, e, l, r, v) q =
      let f : X j ≡ P j = y.old c n e l r in
      rw f (h, k, c, n, e, l, step (F.index m a) r (rw f at q) (L.index_below m a), next v (rw f at q))

  under_start : (P Q : ℕ → ℕ) (m j : ℕ) → Kept F P Q (suc m) j → P j ≢ Q j → X j ≡ P j → F.leads (suc m) (X j) ≡ true
      → Visits F P a F.top (entry F d a) (suc m) j → Under P Q m (F.target (suc m) (X j) + F.index m a)
  under_start P Q m j c n e q v =
      let l : F.leads (suc m) (P j) ≡ true = rw e at q in
      rw e (m, j, c, n, e, l, start (F.index m a, refl, refl, L.index_below m a), next v l)

  comes : {m j : ℕ} → Visits F X a F.top (entry F d a) m j → Comes m j
  comes here = both (top (d, F.index F.top a, refl, refl, bd, L.index_below F.top a)) here here
  comes (next {m} {j} v l) = go (comes v)
    where
      go : Comes (suc m) j → Comes m (F.target (suc m) (X j) + F.index m a)
      go (both c p q) = elim (ℕ_discrete (P j) (Q j)) [
        | yes e ↦ (let f : X j ≡ P j = agreed F x c e in
            let lP : F.leads (suc m) (P j) ≡ true = rw f at l in
            rw f (both (down (F.index m a) c e lP (L.index_below m a)) (next p lP)
            (rw (← e) at (next q (rw e at lP)))))
        | no n ↦ ⊎_elim
            (λ e. old (under_start P Q m j c n e l p))
            (λ e. new (under_start Q P m j (kept_swap F c) (λ z. n (sym z)) e l q))
            (x.kept c)
      ]
      go (old u) = old (under_step P Q x m j u l)
      go (new u) = new (under_step Q P (mixed_swap F x) m j u l)

  -- A table to which it leads is one of the old pool or of the finished one.
  pub led_between : {h s : ℕ} → Led F X d a h s → Led F P d a h s ⊎ Led F Q d a h s
  led_between {h} {s} (k, v, l, e) = go (comes v)
    where
      go : Comes (suc h) k → Led F P d a h s ⊎ Led F Q d a h s
      go (both c p q) = ⊎_elim (λ f. inl (k, p, rw f at l, rw f at e)) (λ f. inr (k, q, rw f at l, rw f at e))
          (x.kept c)
      go (old (i, n, c, z, f, g, r, p)) = let y = x.old c z f g r in inl (k, p, rw y at l, rw y at e)
      go (new (i, n, c, z, f, g, r, q)) = let y = (mixed_swap F x).old c z f g r in inr (k, q, rw y at l, rw y at e)

module _ (F : Form) (L : Lawful F) (E : Exact F) {P Q : ℕ → ℕ} {R : ℕ → ℕ → ℕ} (sP : SoundPool F P)
    (f : Finished F P R Q) where
  links : (m j : ℕ) → Kept F P Q m j → F.leads m (P j) ≡ true → F.leads m (Q j) ≡ true → P j ≡ Q j
  links = finished_links F L E sP f

  module _ {X : ℕ → ℕ} (x : Mixed F P Q X) where
    -- Where both pools come on the walk of an address, so does `X`, by kept words.
    meets : (d a : ℕ) → d < F.domains → {m n i j : ℕ} → Visits F P a F.top (entry F d a) m i
        → Visits F Q a F.top (entry F d a) n j → m ≡ n
        → Kept F P Q m i × (i ≡ j) × Visits F X a F.top (entry F d a) m i
    meets d a bd here here e = (top (d, F.index F.top a, refl, refl, bd, L.index_below F.top a), refl, here)
    meets d a bd here (next w l) e = let z = visits_down F Q a w in absurd (omega arith)
    meets d a bd (next v l) here e = let z = visits_down F P a v in absurd (omega arith)
    meets d a bd (next {m} {j = i} v l) (next {m = n} {j = j} w q) e =
        let (c, o, y) = meets d a bd v w (ap suc e) in
        let q' : F.leads (suc m) (Q i) ≡ true = rw (o, e) q in
        let z : P i ≡ Q i = links (suc m) i c l q' in
        let u : X i ≡ P i = agreed F x c z in (
          down (F.index m a) c z l (L.index_below m a),
          ap (λ t. F.target (suc m) t + F.index m a) z ∙ rw (o, e) refl,
          rw u at (next y (rw u l)),
        )

    pub led_stays : (d a : ℕ) → d < F.domains → {h s : ℕ} → Led F P d a h s → Led F Q d a h s → Led F X d a h s
    led_stays d a bd {h} {s} (i, v, l, p) (j, w, n, q) =
        let (c, o, y) = meets d a bd v w refl in
        let z : P i ≡ Q i = links (suc h) i c l (rw o n) in
        let u : X i ≡ P i = agreed F x c z in
        (i, y, rw u l, rw u p)

    new_old : {d a h t : ℕ} → New F X Q d a h t → New F P Q d a h t
    new_old {d} {a} {h} {t} (bd, ba, q, none) =
        (bd, ba, q, λ s p. none t (led_stays d a bd (rw (f.keeps bd ba p q) at p) q))

    stays_old : {h t : ℕ} → Stays F P Q h t → Stays F X Q h t
    stays_old (d, a, bd, ba, p, q) = (d, a, bd, ba, led_stays d a bd p q, q)

    -- What `X` is to become is what `P` was to become.
    pub finished_stays : ((j : ℕ) → (X j ≡ P j) ⊎ (X j ≡ Q j)) → Finished F X R Q
    finished_stays each = record {
      settled = f.settled;
      rights = f.rights;
      keeps = λ {d} {a} {h} bd ba o n. ⊎_elim (λ p. f.keeps bd ba p n) (λ q. one_table F Q d a h q n)
          (led_between F L x a d bd o);
      order = λ m n o. f.order (new_old m) (new_old n) o;
      lowest = λ {d} {a} {h} y m at lt free. low y m at lt free;
      idle = λ j away. ⊎_elim (λ e. f.idle j away ∙ sym e) (λ e. sym e) (each j);
    }
      where
        low : {d a h t : ℕ} (y : ℕ) → New F X Q d a h t → Place F h y → y < t → (Stays F X Q h y → ⊥) → (e : ℕ)
            × (b : ℕ) × New F X Q e b h y
        low {h = h} y m at lt free =
            let (e, b, (be, bb, q, none)) = f.lowest y (new_old m) at lt (λ s. free (stays_old s)) in (
              e,
              b,
              (
                be,
                bb,
                q,
                λ s o. ⊎_elim
                    (λ p. none s p)
                    (λ n. let z : s ≡ y = one_table F Q e b h n q in free (e, b, be, bb, rw z at o, q))
                    (led_between F L x b e be o),
              ),
            )

    -- Kept from the old pool, kept from here.
    kept_on : {m j : ℕ} → Kept F P Q m j → Kept F X Q m j
    kept_on (top r) = top r
    kept_on (down {m} {j} i c e l b) =
        let u : X j ≡ P j = agreed F x c e in
        rw (← u) (down i (kept_on c) (u ∙ e) (rw u l) b)

  -- The other way, while tables are filled.
  kept_back : {X : ℕ → ℕ} → Mixed F P Q X → Filling F P Q X → {m j : ℕ} → Kept F X Q m j → Kept F P Q m j
  kept_back x g (top r) = top r
  kept_back {X} x g (down {m} {j} i c e l b) =
      let k : Kept F P Q (suc m) j = kept_back x g c in
      let z : P j ≡ Q j = by_cases (F.leads (suc m) (P j))
      (λ p. links (suc m) j k p (rw e at l))
      (λ p. absurd (true≢false (sym l ∙ rw (g.kept (suc m) j k p) p))) in
      let u : X j ≡ P j = agreed F x k z in
      rw u (down i k z (rw u at l) b)

  -- What may be stored on the way from the old pool may be stored first from here.
  pub next_here : {X : ℕ → ℕ} {k : ℕ} → X k ≢ Q k → Next F P Q X k → Next F X Q X k
  next_here {X} {k} n s = go s
    where
      x : Mixed F P Q X
      x = stage_mixed F L sP f.settled.sound links (next_now F P Q s)

      go : Next F P Q X k → Next F X Q X k
      go (give m c l g) =
          let e : X k ≡ P k = ⊎_elim (λ z. z) (λ z. absurd (n z)) (x.kept c) in
          give m (kept_on x c) (rw e l) (giving_old F X Q)
      go (fill away g) = fill (λ m c. away m (kept_back x g c)) (record {
        gave = λ m j c l. by_cases (F.leads m (P j))
            (λ p. g.gave m j (kept_back x g c) p)
            (λ p. absurd (true≢false (sym l ∙ rw (g.kept m j (kept_back x g c) p) p)));
        kept = λ m j c l. refl;
      })
      go (link m c g) = link m (kept_on x c) (record {
        kept = λ i j b. inl refl;
        gave = λ i j b l. stable (X j) (Q j) (λ z. z (g.rest j (λ i' b'. z (⊎_elim
            (λ e. g.gave i' j b' (let h : i' ≡ i = sym (kept_zone F L sP b') ∙ same_zone i j b in rw h (rw e at l)))
            (λ e. e)
            (g.kept i' j b')))));
        rest = λ j away. g.rest j (λ i b. away i (kept_on x b));
      })
        where
          same_zone : (i j : ℕ) → Kept F X Q i j → F.zone j ≡ i
          same_zone i j b = kept_zone F L (stage_sound F L sP f.settled.sound links (next_now F P Q s)) b
