-- Laws of the walk that a program makes: which word decides, in any pool and in a sound one, and for which addresses.
-- For any form.
use Prim.Native.Nat.{ℕ, zero, suc, ◌+◌, ◌≤◌, ◌<◌}
use mathlib.Core.Path.{◌≡◌, refl, sym, ◌∙◌}
use mathlib.Core.Bool.{true, false}
use native.Mathlib.Omega.{arith}
use Rattle.theory.specs.Form.{Form}
use Rattle.theory.specs.Pool.{Reach, step, Sound, Visits, here, next, right, entry, right_of}
use Rattle.theory.specs.Walk.{bad, decides, walk}
use Rattle.theory.specs.Settled.{Together, Says}
use Rattle.theory.specs.Lawful.{Lawful}
use Rattle.theory.proofs.ReachLaws.{visits_down, visits_reach, visits_on}
use Rattle.theory.proofs.Logic.{by_cases}
use Rattle.theory.proofs.RightLaws.{right_says, right_visits}
use Rattle.theory.proofs.BlockLaws.{together_entry}

pub not_bad : {m j : ℕ} → bad ≡ decides m j → ⊥
not_bad e = let z : ◌≡◌ {A = ℕ} 0 1 = cc in omega arith

pub same_end : {h k m j : ℕ} → decides h k ≡ decides m j → (h ≡ m) × (k ≡ j)
same_end e = (cc, cc)

-- The word `j` of the height `m` decides for `a`, from word `k` of the height `h` on: the walk comes there, and it is
-- good and does not lead.
pub record Decided (F : Form) (P : ℕ → ℕ) (a h k m j : ℕ) : Type 0 where
  pub visits : Visits F P a h k m j
  pub good : F.good m (P j) ≡ true
  pub stops : F.leads m (P j) ≡ false

-- The clauses of `walk`.
module _ (F : Form) (P : ℕ → ℕ) (a : ℕ) where
  pub walk_refused : (h k : ℕ) → F.good h (P k) ≡ false → walk F P a h k ≡ bad
  unfolding walk
  walk_refused zero k e = rw (e, walk)
  walk_refused (suc h) k e = rw (e, walk)

  pub walk_last : (k : ℕ) → F.good zero (P k) ≡ true → walk F P a zero k ≡ decides zero k
  unfolding walk
  walk_last k e = rw (e, walk)

  pub walk_stops : (h k : ℕ) → F.good h (P k) ≡ true → F.leads h (P k) ≡ false → walk F P a h k ≡ decides h k
  unfolding walk
  walk_stops zero k e l = rw (e, walk)
  walk_stops (suc h) k e l = rw (e, l, walk)

  pub walk_down : (h k : ℕ) → F.good (suc h) (P k) ≡ true → F.leads (suc h) (P k) ≡ true
      → walk F P a (suc h) k ≡ walk F P a h (F.target (suc h) (P k) + F.index h a)
  unfolding walk
  walk_down h k e l = rw (e, l, walk)

  decided_here : {h k m j : ℕ} → F.good h (P k) ≡ true → F.leads h (P k) ≡ false → decides h k ≡ decides m j
      → Decided F P a h k m j
  decided_here g l e =
      let (p, q) = same_end e in
      rw (← p, ← q) (record { visits = here; good = g; stops = l })

  decided_below : {h k m j : ℕ} → F.leads (suc h) (P k) ≡ true
      → Decided F P a h (F.target (suc h) (P k) + F.index h a) m j
      → Decided F P a (suc h) k m j
  decided_below l d = record { visits = visits_on F P a (next here l) d.visits; good = d.good; stops = d.stops }

  -- Where a walk comes to by good words, there it goes on.
  pub walk_visits : {h k m j : ℕ} → ((n i : ℕ) → m < n → Visits F P a h k n i → F.good n (P i) ≡ true)
      → Visits F P a h k m j
      → walk F P a h k ≡ walk F P a m j
  walk_visits g here = refl
  walk_visits g (next {m} {j} v l) = walk_visits (λ n i lo w. g n i (omega arith) w) v
      ∙ walk_down m j (g (suc m) j (omega arith) v) l

  -- A walk that meets a bad word comes to one.
  pub bad_visits : (h k : ℕ) → walk F P a h k ≡ bad → (m : ℕ) × (j : ℕ) × Visits F P a h k m j
      × (F.good m (P j) ≡ false)
  bad_visits zero k e = by_cases (F.good zero (P k))
      (λ g. absurd (not_bad (sym e ∙ walk_last k g)))
      (λ g. (zero, k, here, g))
  bad_visits (suc h) k e = by_cases (F.good (suc h) (P k))
      (λ g. by_cases (F.leads (suc h) (P k))
      (λ l. let (m, j, v, b) = bad_visits h _ (sym (walk_down h k g l) ∙ e) in
      (m, j, visits_on F P a (next here l) v, b))
      (λ l. absurd (not_bad (sym e ∙ walk_stops (suc h) k g l))))
      (λ g. (suc h, k, here, g))

  module _ (last : (w : ℕ) → F.leads zero w ≡ false) where
    -- What decides is visited, good, and does not lead.
    pub walk_decides : {m j : ℕ} (h k : ℕ) → walk F P a h k ≡ decides m j → Decided F P a h k m j
    walk_decides zero k e = by_cases (F.good zero (P k))
        (λ g. decided_here g (last (P k)) (sym (walk_last k g) ∙ e))
        (λ g. absurd (not_bad (sym (walk_refused zero k g) ∙ e)))
    walk_decides (suc h) k e = by_cases (F.good (suc h) (P k))
        (λ g. by_cases (F.leads (suc h) (P k))
        (λ l. decided_below l (walk_decides h _ (sym (walk_down h k g l) ∙ e)))
        (λ l. decided_here g l (sym (walk_stops (suc h) k g l) ∙ e)))
        (λ g. absurd (not_bad (sym (walk_refused (suc h) k g) ∙ e)))

    pub decides_low : {m j : ℕ} (h k : ℕ) → walk F P a h k ≡ decides m j → m ≤ h
    decides_low h k e = visits_down F P a (walk_decides h k e).visits

    -- .. and gives the right.
    pub decides_right : {m j : ℕ} (h k : ℕ) → walk F P a h k ≡ decides m j → right F P h k a ≡ F.says m (P j) a
    decides_right {m} {j} h k e = let d = walk_decides h k e in right_visits F P d.visits ∙ right_says F P m j a
        d.stops

  -- In a sound pool no walk is bad: some word decides ..
  module _ (L : Lawful F) {S : ℕ → ℕ → Type 0} (s : Sound F P S) where
    pub sound_decides : (h k : ℕ) → Reach F P S h k → (m : ℕ) × (j : ℕ) × (walk F P a h k ≡ decides m j)
    sound_decides zero k r = (zero, k, walk_last k (s.good r))
    sound_decides (suc h) k r = by_cases (F.leads (suc h) (P k))
        (λ l.
        let (m, j, e) = sound_decides h _ (step (F.index h a) r l (L.index_below h a)) in
        (m, j, walk_down h k (s.good r) l ∙ e))
        (λ l. (suc h, k, walk_stops (suc h) k (s.good r) l))

    -- .. namely the visited one that does not lead.
    pub visits_decides : {h k m j : ℕ} → Reach F P S h k → Visits F P a h k m j → F.leads m (P j) ≡ false
        → walk F P a h k ≡ decides m j
    visits_decides {m = m} {j = j} r v l =
        walk_visits (λ n i lo w. s.good (visits_reach F P a L r w)) v
        ∙ walk_stops m j (s.good (visits_reach F P a L r v)) l

-- Two addresses of the deciding block have the same end.
module _ (F : Form) (P : ℕ → ℕ) (a b : ℕ) (last : (w : ℕ) → F.leads zero w ≡ false) {m j : ℕ} where
  same_decides : (h k : ℕ) → ((i : ℕ) → m ≤ i → i < h → F.index i a ≡ F.index i b) → walk F P a h k ≡ decides m j
      → walk F P b h k ≡ decides m j
  same_decides zero k t e = by_cases (F.good zero (P k))
      (λ g. walk_last F P b k g ∙ sym (walk_last F P a k g) ∙ e)
      (λ g. absurd (not_bad (sym (walk_refused F P a zero k g) ∙ e)))
  same_decides (suc h) k t e = by_cases (F.good (suc h) (P k))
      (λ g. by_cases (F.leads (suc h) (P k))
      (λ l.
      let d = sym (walk_down F P a h k g l) ∙ e in
      let lo = decides_low F P a last h _ d in
      walk_down F P b h k g l ∙ rw (← t h lo (omega arith)) (same_decides h _ (λ i up hi. t i up (omega arith)) d))
      (λ l. walk_stops F P b (suc h) k g l ∙ sym (walk_stops F P a (suc h) k g l) ∙ e))
      (λ g. absurd (not_bad (sym (walk_refused F P a (suc h) k g) ∙ e)))

  pub together_decides : (d : ℕ) → walk F P a F.top (entry F d a) ≡ decides m j → Together F m a b
      → walk F P b F.top (entry F d b) ≡ decides m j
  together_decides d e t =
      let lo = decides_low F P a last F.top (entry F d a) e in
      rw (← together_entry F d m a b lo t) (same_decides F.top (entry F d a) (λ i up hi. t i up (omega arith)) e)

-- The deciding entry gives the right of every address of its whole block, in any pool.
pub decides_says : (F : Form) → ((w : ℕ) → F.leads zero w ≡ false) → (P : ℕ → ℕ) (d a : ℕ) {m j : ℕ}
    → walk F P a F.top (entry F d a) ≡ decides m j → Says F m (right_of F P d) a (P j)
decides_says F last P d a {m} {j} e =
    let x = walk_decides F P a last F.top (entry F d a) e in
    record {
      good = x.good;
      rights = x.stops;
      each = λ b lo t. sym (decides_right F P b last F.top (entry F d b) (together_decides F P a b last d e t));
    }
