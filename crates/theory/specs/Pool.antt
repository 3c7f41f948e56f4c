-- What a pool of tables means: what is reached, what it is to be sound, and which right an address has. For any form.
-- A pool is a function from a word's number to the word.
use Rattle.std.specs.Prelude.{ℕ, zero, suc, ◌+◌, ◌<◌, ◌≡◌, true, cond, List, get_or}
use Rattle.theory.specs.Form.{Form}

-- The words of a lent memory; past its end there is nothing but 0.
abbrev pub words : List ℕ → ℕ → ℕ
words p i = get_or p i 0

module _ (F : Form) (P : ℕ → ℕ) where
  -- Word `j`, as an entry of height `m`, is reached from a start of `S`.
  pub data Reach (S : ℕ → ℕ → Type 0) : ℕ → ℕ → Type 0 where
    start : {m j : ℕ} → S m j → Reach S m j
    step : {m j : ℕ} (i : ℕ) → Reach S (suc m) j → F.leads (suc m) (P j) ≡ true → i < F.size m
        → Reach S m (F.target (suc m) (P j) + i)

  -- Every reached word is good (a pointer names the first word of a place one level down), and no table is reached
  -- twice.
  pub record Sound (S : ℕ → ℕ → Type 0) : Type 0 where
    pub good : {m j : ℕ} → Reach S m j → F.good m (P j) ≡ true
    pub once : {m j k : ℕ} → Reach S (suc m) j → F.leads (suc m) (P j) ≡ true → Reach S (suc m) k
        → F.leads (suc m) (P k) ≡ true
        → F.target (suc m) (P j) ≡ F.target (suc m) (P k) → j ≡ k

  -- The walk of the address `a` that stands at word `k` of height `h` comes to word `j` of height `m`.
  pub data Visits (a h k : ℕ) : ℕ → ℕ → Type 0 where
    here : Visits a h k h k
    next : {m j : ℕ} → Visits a h k (suc m) j → F.leads (suc m) (P j) ≡ true
        → Visits a h k m (F.target (suc m) (P j) + F.index m a)

  -- The right that the walk of `a` finds from word `k` of a height on.
  unfoldable pub right : ℕ → ℕ → ℕ → ℕ
  right zero k a = F.says zero (P k) a
  right (suc h) k a =
      cond (F.leads (suc h) (P k)) (right h (F.target (suc h) (P k) + F.index h a) a) (F.says (suc h) (P k) a)

module _ (F : Form) where
  -- The words of all roots.
  abbrev pub Roots : ℕ → ℕ → Type 0
  Roots m j = (d : ℕ) × (i : ℕ) × (m ≡ F.top) × (j ≡ F.root d + i) × (d < F.domains) × (i < F.size F.top)

  -- The words of the table of height `h` that begins at `t`.
  abbrev pub Table : ℕ → ℕ → ℕ → ℕ → Type 0
  Table h t m j = (i : ℕ) × (m ≡ h) × (j ≡ t + i) × (i < F.size h)

  -- The root word of domain `d` that the address `a` goes by.
  abbrev pub entry : ℕ → ℕ → ℕ
  entry d a = F.root d + F.index F.top a

  -- The right of domain `d` at the address `a`.
  abbrev pub right_of : (ℕ → ℕ) → ℕ → ℕ → ℕ
  right_of P d a = right F P F.top (entry d a) a

  -- The pool is sound: so is all that its roots reach.
  abbrev pub SoundPool : (ℕ → ℕ) → Type 0
  SoundPool P = Sound F P Roots

  -- On its walk for `a`, domain `d` is led to a table of height `h` that begins at `t`.
  abbrev pub Led : (ℕ → ℕ) → ℕ → ℕ → ℕ → ℕ → Type 0
  Led P d a h t =
      (k : ℕ) × Visits F P a F.top (entry d a) (suc h) k × (F.leads (suc h) (P k) ≡ true)
      × (F.target (suc h) (P k) ≡ t)
