-- A finished pool is ready to be stored, word by word. For any form.
use Prim.Native.Nat.{ℕ, zero, suc, ◌+◌, ◌<◌}
use mathlib.Core.Path.{◌≡◌, refl, sym, ◌∙◌}
use mathlib.Core.Bool.{true, true≢false}
use Rattle.theory.specs.Form.{Form}
use Rattle.theory.specs.Pool.{SoundPool, Visits, here, next, entry}
use Rattle.theory.specs.Finished.{Finished}
use Rattle.theory.specs.Lawful.{Lawful, Exact}
use Rattle.theory.specs.Stores.{Kept, top, down, Next, Ready}
use Rattle.theory.proofs.ReachLaws.{visited_reach}
use Rattle.theory.proofs.BlockLaws.{together_visits}

-- Word `j`, as an entry of height `m`, is met in both pools on the walk of an address.
abbrev pub MetInBoth : Form → (P Q : ℕ → ℕ) → ℕ → ℕ → Type 0
MetInBoth F P Q m j = (d : ℕ) × (a : ℕ) × (d < F.domains) × (a < F.span)
    × Visits F P a F.top (entry F d a) m j × Visits F Q a F.top (entry F d a) m j

-- A kept word is.
pub kept_met : (F : Form) → Exact F → {P Q : ℕ → ℕ} {m j : ℕ} → Kept F P Q m j → MetInBoth F P Q m j
kept_met F E {P} {Q} {m} {j} (top x) =
    let (b, lo, _, i) = E.at_index F.top 0 x.1 E.some x.5 in
    let e : entry F x.0 b ≡ j = rw i (sym x.3) in
    let v : Visits F P b F.top (entry F x.0 b) F.top (entry F x.0 b) = here in
    let w : Visits F Q b F.top (entry F x.0 b) F.top (entry F x.0 b) = here in
    (x.0, b, x.4, lo, rw (x.2, ← e) v, rw (x.2, ← e) w)
kept_met F E {P} {Q} (down {m} {j} i k e l b) =
    let (d, a, bd, ba, v, w) = kept_met F E k in
    let (c, lo, t, o) = E.at_index m a i ba b in
    turn d c bd lo o (next (together_visits F d a c v t) l)
    (rw (← e) at (next (together_visits F d a c w t) (rw e at l)))
  where
    turn : (d b : ℕ) → d < F.domains → b < F.span → F.index m b ≡ i
        → Visits F P b F.top (entry F d b) m (F.target (suc m) (P j) + F.index m b)
        → Visits F Q b F.top (entry F d b) m (F.target (suc m) (P j) + F.index m b)
        → MetInBoth F P Q m (F.target (suc m) (P j) + i)
    turn d b bd bb o v w = (d, b, bd, bb, rw o at v, rw o at w)

module _ (F : Form) (L : Lawful F) (E : Exact F) {P Q : ℕ → ℕ} {R : ℕ → ℕ → ℕ} (sP : SoundPool F P)
    (f : Finished F P R Q) where
  -- A kept word that leads in both pools is the same in both: the table that it leads to keeps its place.
  pub finished_links : (m j : ℕ) → Kept F P Q m j → F.leads m (P j) ≡ true → F.leads m (Q j) ≡ true → P j ≡ Q j
  finished_links zero j k l n = absurd (true≢false (sym l ∙ E.last (P j)))
  finished_links (suc m) j k l n =
      let (d, a, bd, ba, v, w) = kept_met F E k in
      E.target_exact m (P j) (Q j) (sP.good (visited_reach F L d a bd v)) l
      (f.settled.sound.good (visited_reach F L d a bd w)) n
      (f.keeps bd ba (j, v, l, refl) (j, w, n, refl))

  pub finished_ready : {X : ℕ → ℕ} (k : ℕ) → Next F P Q X k → Ready F P Q X k
  finished_ready k n = record { old = sP; finished = f.settled.sound; keeps = finished_links; next = n }
