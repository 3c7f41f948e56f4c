-- The stores that lead from the pool `P` to the finished pool `Q`, and what a cut between two of them leaves. For any
-- form. Of the words that differ come first those of kept tables that lead in `P` and in `Q` no more, then all that
-- lie in no kept table, then the other words of kept tables.
use Rattle.std.specs.Prelude.{ℕ, suc, ◌+◌, ◌<◌, ◌≡◌, ◌⊎◌, true, false}
use Rattle.theory.specs.Form.{Form}
use Rattle.theory.specs.Pool.{SoundPool, Roots, right_of}

-- Word `j`, as an entry of height `m`, is of a root or of a table that both pools reach by the same words.
pub data Kept (F : Form) (P Q : ℕ → ℕ) : ℕ → ℕ → Type 0 where
  top : {m j : ℕ} → Roots F m j → Kept F P Q m j
  down : {m j : ℕ} (i : ℕ) → Kept F P Q (suc m) j → P j ≡ Q j → F.leads (suc m) (P j) ≡ true → i < F.size m
      → Kept F P Q m (F.target (suc m) (P j) + i)

-- What a cut leaves: a sound pool in which every right is the old one or the new one.
pub record Cut (F : Form) (P Q X : ℕ → ℕ) : Type 0 where
  pub sound : SoundPool F X
  pub rights : (d a : ℕ) → d < F.domains → a < F.span → (right_of F X d a ≡ right_of F P d a)
      ⊎ (right_of F X d a ≡ right_of F Q d a)

module _ (F : Form) (P Q X : ℕ → ℕ) where
  -- The stage of giving up: in kept tables only words that led have their new value, and all else is as it was.
  pub record Giving : Type 0 where
    pub kept : (m j : ℕ) → Kept F P Q m j → (X j ≡ P j) ⊎ ((X j ≡ Q j) × (F.leads m (P j) ≡ true))
    pub rest : (j : ℕ) → ((m : ℕ) → Kept F P Q m j → ⊥) → X j ≡ P j

  -- The stage of filling: in kept tables exactly the words that led have their new value; what no kept table has may
  -- be anything.
  pub record Filling : Type 0 where
    pub gave : (m j : ℕ) → Kept F P Q m j → F.leads m (P j) ≡ true → X j ≡ Q j
    pub kept : (m j : ℕ) → Kept F P Q m j → F.leads m (P j) ≡ false → X j ≡ P j

  -- The stage of linking: what no kept table has is as it will be.
  pub record Linking : Type 0 where
    pub kept : (m j : ℕ) → Kept F P Q m j → (X j ≡ P j) ⊎ (X j ≡ Q j)
    pub gave : (m j : ℕ) → Kept F P Q m j → F.leads m (P j) ≡ true → X j ≡ Q j
    pub rest : (j : ℕ) → ((m : ℕ) → Kept F P Q m j → ⊥) → X j ≡ Q j

  -- The pool `X` is at one of the three stages.
  pub data Stage : Type 0 where
    giving : Giving → Stage
    filling : Filling → Stage
    linking : Linking → Stage

  -- Word `k` may be stored now: `X` is at a stage, and `k` is a word of that stage.
  pub data Next (k : ℕ) : Type 0 where
    give : (m : ℕ) → Kept F P Q m k → F.leads m (P k) ≡ true → Giving → Next k
    fill : ((m : ℕ) → Kept F P Q m k → ⊥) → Filling → Next k
    link : (m : ℕ) → Kept F P Q m k → Linking → Next k

  -- A store of `Q k` at word `k` is safe: both ends are sound, tables that stay keep their place, and `k` may be
  -- stored now.
  pub record Ready (k : ℕ) : Type 0 where
    pub old : SoundPool F P
    pub finished : SoundPool F Q
    pub keeps : (m j : ℕ) → Kept F P Q m j → F.leads m (P j) ≡ true → F.leads m (Q j) ≡ true → P j ≡ Q j
    pub next : Next k
