-- Laws of blocks: in a sound pool a word is met by the walks of one domain and one block of addresses alone. For any
-- form.
use Prim.Native.Nat.{ℕ, zero, suc, ◌+◌, ◌-◌, ◌≤◌, ◌<◌}
use mathlib.Core.Path.{◌≡◌, refl, sym, ap, ◌∙◌}
use mathlib.Core.Bool.{true}
use native.Mathlib.Omega.{arith}
use native.Mathlib.Decide.{ℕ_discrete}
use Rattle.theory.specs.Form.{Form}
use Rattle.theory.specs.Pool.{Reach, start, step, Sound, SoundPool, Visits, here, next, Roots, entry, Led}
use Rattle.theory.specs.Settled.{Together}
use Rattle.theory.specs.Lawful.{Lawful, Exact}
use Rattle.theory.proofs.ReachLaws.{visits_down, visited_reach}

-- To lie in one block is an equivalence, and a block lies in the block above it.
module _ (F : Form) where
  pub together_refl : (h a : ℕ) → Together F h a a
  together_refl h a i lo hi = refl

  pub together_sym : (h a b : ℕ) → Together F h a b → Together F h b a
  together_sym h a b t i lo hi = sym (t i lo hi)

  pub together_trans : (h a b c : ℕ) → Together F h a b → Together F h b c → Together F h a c
  together_trans h a b c t u i lo hi = t i lo hi ∙ u i lo hi

  pub together_above : (h n a b : ℕ) → h ≤ n → Together F h a b → Together F n a b
  together_above h n a b le t i lo hi = t i (omega arith) hi

  pub together_below : (h a b : ℕ) → Together F (suc h) a b → F.index h a ≡ F.index h b → Together F h a b
  together_below h a b t e i lo hi = elim (ℕ_discrete i h) [
    | yes x ↦ rw x e
    | no x ↦ t i (omega arith) hi
  ]

  pub together_entry : (d h a b : ℕ) → h ≤ F.top → Together F h a b → entry F d a ≡ entry F d b
  together_entry d h a b le t = ap (λ i. F.root d + i) (t F.top le (omega arith))

  together_dec_from : (n h a b : ℕ) → h + n ≡ suc F.top → Dec (Together F h a b)
  together_dec_from zero h a b e = yes (λ i lo hi. absurd (omega arith))
  together_dec_from (suc n) h a b e = elim (ℕ_discrete (F.index h a) (F.index h b)) [
    | yes p ↦ elim (together_dec_from n (suc h) a b (omega arith)) [
      | yes t ↦ yes (together_below h a b t p)
      | no t ↦ no (λ u. t (together_above h (suc h) a b (omega arith) u))
    ]
    | no p ↦ no (λ u. p (u h (omega arith) (omega arith)))
  ]

  pub together_dec : (h a b : ℕ) → h ≤ F.top → Dec (Together F h a b)
  together_dec h a b le = together_dec_from (suc F.top - h) h a b (omega arith)

-- One step down: the same word below comes from the same word above, by the same entry.
pub step_back : (F : Form) → Lawful F → {P : ℕ → ℕ} {S : ℕ → ℕ → Type 0} → Sound F P S → {m n j k : ℕ} (i o : ℕ)
    → n ≡ m → Reach F P S (suc m) j → F.leads (suc m) (P j) ≡ true → i < F.size m
    → Reach F P S (suc n) k → F.leads (suc n) (P k) ≡ true → o < F.size n
    → F.target (suc m) (P j) + i ≡ F.target (suc n) (P k) + o → (j ≡ k) × (i ≡ o)
step_back F L {P} {S} s {m} {n} {j} {k} i o w r l b q p c e = go (rw w at q) (rw w at p) (rw w at c) (rw w at e)
  where
    go : Reach F P S (suc m) k → F.leads (suc m) (P k) ≡ true → o < F.size m
        → F.target (suc m) (P j) + i ≡ F.target (suc m) (P k) + o → (j ≡ k) × (i ≡ o)
    go q p c e =
        let t : F.target (suc m) (P j) ≡ F.target (suc m) (P k) = L.target_apart m (P j) i (P k) o (s.good r) l
        (s.good q) p b c e in
        (s.once r l q p t, omega arith)

module _ (F : Form) (L : Lawful F) {P : ℕ → ℕ} (s : SoundPool F P) {d e a b : ℕ} (bd : d < F.domains)
    (be : e < F.domains) where
  -- Two walks that come to one word are of one domain and one block.
  pub one_block : {m n j k : ℕ} → Visits F P a F.top (entry F d a) m j → Visits F P b F.top (entry F e b) n k
      → m ≡ n → j ≡ k
      → (d ≡ e) × Together F m a b
  one_block here here p q =
      let i = F.index F.top a in
      let j = F.index F.top b in
      let h : d ≡ e = L.root_apart d i e j bd (L.index_below F.top a) be (L.index_below F.top b) q in
      let r : F.root d ≡ F.root e = ap F.root h in
      (h, λ n lo hi. let t : n ≡ F.top = omega arith in rw t (omega arith))
  one_block here (next w l) p q = let t = visits_down F P b w in absurd (omega arith)
  one_block (next v l) here p q = let t = visits_down F P a v in absurd (omega arith)
  one_block (next {m} {j} v l) (next {m = n} {j = k} w r) p q =
      let x : (j ≡ k) × (F.index m a ≡ F.index n b) =
      step_back F L s (F.index m a) (F.index n b) (sym p)
      (visited_reach F L d a bd v) l (L.index_below m a) (visited_reach F L e b be w) r (L.index_below n b) q in
      let y = one_block v w (ap suc p) x.0 in
      (y.0, together_below F m a b y.1 (x.1 ∙ ap (λ i. F.index i b) (sym p)))

-- The other way round: of two addresses in one block, the walks come to the same word.
pub together_visits : (F : Form) {P : ℕ → ℕ} (d a b : ℕ) {m j : ℕ} → Visits F P a F.top (entry F d a) m j
    → Together F m a b
    → Visits F P b F.top (entry F d b) m j
together_visits F d a b here t = rw (t F.top (omega arith) (omega arith)) here
together_visits F {P} d a b (next {m} {j} v l) t =
    let x = visits_down F P a v in
    rw (t m (omega arith) (omega arith)) (next (together_visits F d a b v (λ i lo hi. t i (omega arith) hi)) l)

module _ (F : Form) (P : ℕ → ℕ) where
  -- A walk comes to one word at each height ..
  pub one_word : {a h k m j n i : ℕ} → Visits F P a h k m j → Visits F P a h k n i → m ≡ n → j ≡ i
  one_word here here e = refl
  one_word {a} here (next w l) e = let z = visits_down F P a w in absurd (omega arith)
  one_word {a} (next v l) here e = let z = visits_down F P a v in absurd (omega arith)
  one_word {a} (next {m = m} {j = j} v l) (next {m = n} {j = i} w q) e =
      let x : j ≡ i = one_word v w (ap suc e) in
      rw (x, e)

  -- .. and is led to one table.
  pub one_table : (d a h : ℕ) {s t : ℕ} → Led F P d a h s → Led F P d a h t → s ≡ t
  one_table d a h (k, v, l, e) (j, w, q, f) = sym e ∙ rw (one_word v w refl) f

  pub led_together : (d a b h : ℕ) {t : ℕ} → Together F (suc h) a b → Led F P d a h t → Led F P d b h t
  led_together d a b h t (k, v, l, e) = (k, together_visits F d a b v t, l, e)

  pub led_low : (d a h : ℕ) {t : ℕ} → Led F P d a h t → h < F.top
  led_low d a h (k, v, l, e) = visits_down F P a v

-- Two walks led to one table are of one domain and block.
pub one_owner : (F : Form) → Lawful F → {P : ℕ → ℕ} → SoundPool F P → (d a e b h t : ℕ) → d < F.domains
    → e < F.domains
    → Led F P d a h t → Led F P e b h t → (d ≡ e) × Together F (suc h) a b
one_owner F L {P} s d a e b h t bd be (k, v, l, p) (j, w, q, r) =
    one_block F L s bd be v w refl (s.once (visited_reach F L d a bd v) l (visited_reach F L e b be w) q (p ∙ sym r))

-- Word `j`, as an entry of height `m`, is met on the walk of an address.
abbrev pub Met : Form → (ℕ → ℕ) → ℕ → ℕ → Type 0
Met F P m j = (d : ℕ) × (a : ℕ) × (d < F.domains) × (a < F.span) × Visits F P a F.top (entry F d a) m j

-- What is reached is met.
pub met_by : (F : Form) → Exact F → {P : ℕ → ℕ} {m j : ℕ} → Reach F P (Roots F) m j → Met F P m j
met_by F E {P} {m} {j} (start x) =
    let (b, lo, _, i) = E.at_index F.top 0 x.1 E.some x.5 in
    let e : F.root x.0 + F.index F.top b ≡ j = rw i (sym x.3) in
    let v : Visits F P b F.top (entry F x.0 b) F.top (entry F x.0 b) = here in
    (x.0, b, x.4, lo, rw (x.2, ← e) v)
met_by F E {P} (step {m} {j} i r l c) =
    let (d, a, bd, ba, v) = met_by F E r in
    let (b, lo, t, e) = E.at_index m a i ba c in
    turn d b bd lo e (next (together_visits F d a b v t) l)
  where
    turn : (d b : ℕ) → d < F.domains → b < F.span → F.index m b ≡ i
        → Visits F P b F.top (entry F d b) m (F.target (suc m) (P j) + F.index m b)
        → Met F P m (F.target (suc m) (P j) + i)
    turn d b bd lo e v = (d, b, bd, lo, rw e at v)
