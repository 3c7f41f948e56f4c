-- The finished pool of a change or a tidying: from the pool `P`, to the rights `R`. For any form.
use Rattle.std.specs.Prelude.{ℕ, suc, ◌≤◌, ◌<◌, ◌≡◌, ◌⊎◌, true}
use Rattle.theory.specs.Form.{Form}
use Rattle.theory.specs.Pool.{Reach, Roots, Led, right_of}
use Rattle.theory.specs.Settled.{Settled}

-- For the block around `a`, domain `d` has in `Q` a table of height `h` at `t`, and had none in `P`.
abbrev pub New : Form → (P Q : ℕ → ℕ) → ℕ → ℕ → ℕ → ℕ → Type 0
New F P Q d a h t = (d < F.domains) × (a < F.span) × Led F Q d a h t × ((s : ℕ) → Led F P d a h s → ⊥)

-- A table of height `h` that both pools have begins at `t`.
abbrev pub Stays : Form → (P Q : ℕ → ℕ) → ℕ → ℕ → Type 0
Stays F P Q h t = (d : ℕ) × (a : ℕ) × (d < F.domains) × (a < F.span) × Led F P d a h t × Led F Q d a h t

-- A place for a table of height `h` begins at `t`: a good entry may lead there.
abbrev pub Place : Form → ℕ → ℕ → Type 0
Place F h t = (w : ℕ) × (F.good (suc h) w ≡ true) × (F.leads (suc h) w ≡ true) × (F.target (suc h) w ≡ t)

-- In order of domain and address, `a` in domain `d` comes before `b` in domain `e`.
abbrev pub Before : ℕ → ℕ → ℕ → ℕ → Type 0
Before d a e b = (d < e) ⊎ ((d ≡ e) × (a < b))

pub record Finished (F : Form) (P : ℕ → ℕ) (R : ℕ → ℕ → ℕ) (Q : ℕ → ℕ) : Type 0 where
  -- The finished pool is settled,
  pub settled : Settled F Q
  -- and has the rights.
  pub rights : (d a : ℕ) → d < F.domains → a < F.span → right_of F Q d a ≡ R d a
  -- A table still wanted keeps its place.
  pub keeps : {d a h s t : ℕ} → d < F.domains → a < F.span → Led F P d a h s → Led F Q d a h t → s ≡ t
  -- New tables, in order of domain and address,
  pub order : {d a e b h s t : ℕ} → New F P Q d a h s → New F P Q e b h t → Before d a e b → s ≤ t
  -- take the lowest places that no kept table occupies.
  pub lowest : {d a h t : ℕ} (x : ℕ) → New F P Q d a h t → Place F h x → x < t → (Stays F P Q h x → ⊥)
      → (e : ℕ) × (b : ℕ) × New F P Q e b h x
  -- A place not in use afterwards holds what it held before.
  pub idle : (j : ℕ) → ((m : ℕ) → Reach F Q (Roots F) m j → ⊥) → Q j ≡ P j
