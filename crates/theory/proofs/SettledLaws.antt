-- Laws of settled pools: a sound pool is settled exactly where no entry that leads could be said; equal rights, equal
-- shape. For any form.
use Prim.Native.Nat.{ℕ, zero, suc, ◌+◌, ◌-◌, ◌<◌}
use mathlib.Core.Path.{◌≡◌, refl, sym, ◌∙◌}
use mathlib.Core.Logic.{⊎_elim}
use mathlib.Core.Bool.{true, false}
use native.Mathlib.Omega.{arith}
use Rattle.theory.specs.Form.{Form}
use Rattle.theory.specs.Pool.{SoundPool, Visits, here, next, entry, right_of}
use Rattle.theory.specs.Settled.{Says, HasTable, Settled}
use Rattle.theory.specs.Lawful.{Lawful, Wanting}
use Rattle.theory.proofs.ReachLaws.{visits_down, visited_reach}
use Rattle.theory.proofs.Logic.{by_cases}
use Rattle.theory.proofs.RightLaws.{right_says, right_visits}
use Rattle.theory.proofs.BlockLaws.{together_visits, led_low}

-- In a sound pool, a visited word that does not lead says the rights of its whole block.
pub says_at : (F : Form) → Lawful F → (P : ℕ → ℕ) → SoundPool F P → (d a m j : ℕ) → d < F.domains
    → Visits F P a F.top (entry F d a) m j → F.leads m (P j) ≡ false → Says F m (right_of F P d) a (P j)
says_at F L P s d a m j bd v l = record {
  good = s.good (visited_reach F L d a bd v);
  rights = l;
  each = λ b lo t. sym (right_visits F P (together_visits F d a b v t) ∙ right_says F P m j b l);
}

-- Only the rights of addresses count for what an entry says.
pub says_same : (F : Form) (h : ℕ) (R T : ℕ → ℕ) (a w : ℕ) → ((b : ℕ) → b < F.span → R b ≡ T b) → Says F h R a w
    → Says F h T a w
says_same F h R T a w e x = record { good = x.good; rights = x.rights; each = λ b lo t. x.each b lo t ∙ e b lo }

-- No entry that leads stands where one that does not could say the rights of its block.
abbrev pub Unsaid : (F : Form) → (ℕ → ℕ) → Type 0
Unsaid F P = (d a h k w : ℕ) → d < F.domains → a < F.span → Visits F P a F.top (entry F d a) (suc h) k
    → F.leads (suc h) (P k) ≡ true → Says F (suc h) (right_of F P d) a w → ⊥

module _ (F : Form) (W : Wanting F) {P : ℕ → ℕ} where
  pub settled_unsaid : Settled F P → Unsaid F P
  settled_unsaid s d a h k w bd ba v l x =
      W.unsaid (suc h) a w (right_of F P d) ba
      (s.wanted bd ba (visits_down F P a v) (F.target (suc h) (P k), (k, v, l, refl))) x

  -- In a sound pool, a block that wants a table has one: the words above it lead, since nothing could be said there.
  module _ (L : Lawful F) (s : SoundPool F P) (d a : ℕ) (bd : d < F.domains) (ba : a < F.span) where
    wants_leads : (h k : ℕ) → F.Wants (suc h) (right_of F P d) a → Visits F P a F.top (entry F d a) (suc h) k
        → F.leads (suc h) (P k) ≡ true
    wants_leads h k x v = by_cases (F.leads (suc h) (P k))
        (λ l. l)
        (λ l. absurd (W.unsaid (suc h) a (P k) (right_of F P d) ba x (says_at F L P s d a (suc h) k bd v l)))

    wants_visits : (n h : ℕ) → suc h + n ≡ F.top → F.Wants (suc h) (right_of F P d) a
        → (k : ℕ) × Visits F P a F.top (entry F d a) (suc h) k
    wants_visits zero h e x = let t : suc h ≡ F.top = omega arith in (entry F d a, rw t here)
    wants_visits (suc n) h e x =
        let u = W.up h a (right_of F P d) ba (omega arith) x in
        let (k, v) = wants_visits n (suc h) (omega arith) u in
        (F.target (suc (suc h)) (P k) + F.index (suc h) a, next v (wants_leads (suc h) k u v))

    pub wants_table : (h : ℕ) → h < F.top → F.Wants (suc h) (right_of F P d) a → HasTable F P d a h
    wants_table h hi x =
        let (k, v) = wants_visits (F.top - suc h) h (omega arith) x in
        (F.target (suc h) (P k), (k, v, wants_leads h k x v, refl))

  pub unsaid_settled : Lawful F → SoundPool F P → Unsaid F P → Settled F P
  unsaid_settled L s u = record {
    sound = s;
    wanted = λ {d} {a} {h} bd ba hi (t, (k, v, l, e)).
        ⊎_elim (λ x. x) (λ (w, x). absurd (u d a h k w bd ba v l x)) (W.decided P d a (suc h) bd ba hi);
    there = λ {d} {a} {h} bd ba hi x. wants_table L s d a bd ba h hi x;
  }

-- Two settled pools with the same rights have tables for the same blocks.
pub same_shape : (F : Form) → Wanting F → {P Q : ℕ → ℕ} → Settled F P → Settled F Q → (d a h : ℕ) → d < F.domains
    → a < F.span
    → ((b : ℕ) → b < F.span → right_of F P d b ≡ right_of F Q d b) → HasTable F P d a h → HasTable F Q d a h
same_shape F W {P} {Q} p q d a h bd ba same (t, x) =
    let hi = led_low F P d a h x in
    q.there bd ba hi (W.same (suc h) a (right_of F P d) (right_of F Q d) same (p.wanted bd ba hi (t, x)))
