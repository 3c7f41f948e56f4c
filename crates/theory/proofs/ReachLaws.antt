-- Laws of what is reached and what a walk comes to: how deep, in which zone, and in two pools that agree. For any form.
use Prim.Native.Nat.{ℕ, suc, ◌≤◌, ◌<◌}
use mathlib.Core.Path.{◌≡◌, refl}
use mathlib.Core.Bool.{true}
use native.Mathlib.Omega.{arith}
use Rattle.theory.specs.Form.{Form}
use Rattle.theory.specs.Pool.{Reach, start, step, Sound, SoundPool, Visits, here, next, Roots, Table, entry}
use Rattle.theory.specs.Lawful.{Lawful}

-- A walk only goes down, and all that it comes to is reached.
module _ (F : Form) (P : ℕ → ℕ) (a : ℕ) where
  pub visits_down : {h k m j : ℕ} → Visits F P a h k m j → m ≤ h
  visits_down here = omega arith
  visits_down (next v l) = let b = visits_down v in omega arith

  pub visits_reach : {h k m j : ℕ} {S : ℕ → ℕ → Type 0} → Lawful F → Reach F P S h k → Visits F P a h k m j
      → Reach F P S m j
  visits_reach L r here = r
  visits_reach L r (next {m} v l) = step (F.index m a) (visits_reach L r v) l (L.index_below m a)

  -- One walk goes on where another ends.
  pub visits_on : {h k m j n i : ℕ} → Visits F P a h k m j → Visits F P a m j n i → Visits F P a h k n i
  visits_on v here = v
  visits_on v (next w l) = next (visits_on v w) l

pub entry_reach : (F : Form) → Lawful F → {P : ℕ → ℕ} (d a : ℕ) → d < F.domains → Reach F P (Roots F) F.top
    (entry F d a)
entry_reach F L d a b = start (d, F.index F.top a, refl, refl, b, L.index_below F.top a)

-- What the walk of a domain comes to is reached.
pub visited_reach : (F : Form) → Lawful F → {P : ℕ → ℕ} (d a : ℕ) {m j : ℕ} → d < F.domains
    → Visits F P a F.top (entry F d a) m j → Reach F P (Roots F) m j
visited_reach F L {P} d a b v = visits_reach F P a L (entry_reach F L d a b) v

-- What is reached from starts that are reached is reached.
pub reach_of : (F : Form) (P : ℕ → ℕ) {S T : ℕ → ℕ → Type 0} → ((m j : ℕ) → S m j → Reach F P T m j) → {m j : ℕ}
    → Reach F P S m j → Reach F P T m j
reach_of F P f (start {m} {j} x) = f m j x
reach_of F P f (step i r l b) = step i (reach_of F P f r) l b

pub sound_of : (F : Form) (P : ℕ → ℕ) {S T : ℕ → ℕ → Type 0} → ((m j : ℕ) → S m j → Reach F P T m j) → Sound F P T
    → Sound F P S
sound_of F P f s = record {
  good = λ r. s.good (reach_of F P f r);
  once = λ r l q p e. s.once (reach_of F P f r) l (reach_of F P f q) p e;
}

-- What is reached from starts of no more than a height is no higher.
pub reach_low : (F : Form) (P : ℕ → ℕ) {S : ℕ → ℕ → Type 0} (h : ℕ) → ((m j : ℕ) → S m j → m ≤ h) → {m j : ℕ}
    → Reach F P S m j → m ≤ h
reach_low F P h low (start {m} {j} x) = low m j x
reach_low F P h low (step i r l b) = let q = reach_low F P h low r in omega arith

pub table_low : (F : Form) (P : ℕ → ℕ) (h t : ℕ) {m j : ℕ} → Reach F P (Table F h t) m j → m ≤ h
table_low F P h t = reach_low F P h (λ m j x. omega arith)

-- What is reached from the table of a reached word is reached.
pub through : (F : Form) {P : ℕ → ℕ} {S : ℕ → ℕ → Type 0} {h k : ℕ} → Reach F P S (suc h) k → F.leads (suc h) (P k)
    ≡ true → {m j : ℕ}
    → Reach F P (Table F h (F.target (suc h) (P k))) m j → Reach F P S m j
through F {P} r l = reach_of F P (λ m j x. rw (x.1, x.2) (step x.0 r l x.3))

-- Starts that lie in the zone of their height.
abbrev pub Zoned : Form → (ℕ → ℕ → Type 0) → Type 0
Zoned F S = (m j : ℕ) → S m j → F.zone j ≡ m

pub roots_zoned : (F : Form) → Lawful F → Zoned F (Roots F)
roots_zoned F L m j x = rw (x.2, x.3) (L.root_zone x.0 x.1 x.4 x.5)

-- What is reached lies in the zone of its height.
pub zone_of : (F : Form) → Lawful F → {P : ℕ → ℕ} {S : ℕ → ℕ → Type 0} → Zoned F S → Sound F P S → {m j : ℕ}
    → Reach F P S m j → F.zone j ≡ m
zone_of F L z s (start {m} {j} x) = z m j x
zone_of F L {P} z s (step {m} {j} i r l b) = L.target_zone m (P j) i (s.good r) l b

pub reach_zone : (F : Form) → Lawful F → {P : ℕ → ℕ} → SoundPool F P → {m j : ℕ} → Reach F P (Roots F) m j → F.zone j
    ≡ m
reach_zone F L s r = zone_of F L (roots_zoned F L) s r

-- Where two pools agree on what is reached in the first, the second reaches the same.
module _ (F : Form) (P Q : ℕ → ℕ) (S : ℕ → ℕ → Type 0) (agree : (m j : ℕ) → Reach F P S m j → Q j ≡ P j) where
  same : {m j : ℕ} → Reach F P S m j → Q j ≡ P j
  same {m} {j} r = agree m j r

  pub reach_back : {m j : ℕ} → Reach F Q S m j → Reach F P S m j
  reach_back (start s) = start s
  reach_back (step {m} {j} i r l b) =
      let q : Reach F P S (suc m) j = reach_back r in
      rw (same q) (step i q (rw (same q) at l) b)

  pub reach_on : {m j : ℕ} → Reach F P S m j → Reach F Q S m j
  reach_on (start s) = start s
  reach_on (step {m} {j} i r l b) = rw (← same r) (step i (reach_on r) (rw (same r) l) b)

  pub sound_same : Sound F P S → Sound F Q S
  sound_same s = record {
    good = λ {m} {j} r. rw (same (reach_back r)) (s.good (reach_back r));
    once = λ {m} {j} {k} r l q n e.
        s.once (reach_back r) (rw (same (reach_back r)) at l) (reach_back q) (rw (same (reach_back q)) at n)
        (rw (same (reach_back r), same (reach_back q)) at e);
  }
