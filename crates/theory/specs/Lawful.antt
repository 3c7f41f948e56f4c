-- What the theory needs of a form, and all that it needs. Each form that is used is proved to have it.
use Rattle.std.specs.Prelude.{ℕ, zero, suc, ◌+◌, ◌≤◌, ◌<◌, ◌≡◌, ◌⊎◌, true, false}
use Rattle.theory.specs.Form.{Form}
use Rattle.theory.specs.Pool.{right_of}
use Rattle.theory.specs.Settled.{Together, Says}

-- Tables stand apart: roots in their zone, the places of each height in theirs, and no two overlap.
pub record Lawful (F : Form) : Type 0 where
  pub index_below : (h a : ℕ) → F.index h a < F.size h
  pub root_zone : (d i : ℕ) → d < F.domains → i < F.size F.top → F.zone (F.root d + i) ≡ F.top
  pub root_apart : (d i e j : ℕ) → d < F.domains → i < F.size F.top → e < F.domains → j < F.size F.top
      → F.root d + i ≡ F.root e + j → d ≡ e
  pub target_zone : (h w i : ℕ) → F.good (suc h) w ≡ true → F.leads (suc h) w ≡ true → i < F.size h
      → F.zone (F.target (suc h) w + i) ≡ h
  pub target_apart : (h w i x j : ℕ) → F.good (suc h) w ≡ true → F.leads (suc h) w ≡ true → F.good (suc h) x ≡ true
      → F.leads (suc h) x ≡ true → i < F.size h → j < F.size h → F.target (suc h) w + i ≡ F.target (suc h) x + j
      → F.target (suc h) w ≡ F.target (suc h) x

-- Rights and places settle the words: an entry is known by what it says or by where it leads, and each entry has
-- addresses.
pub record Exact (F : Form) : Type 0 where
  pub some : 0 < F.span
  pub last : (w : ℕ) → F.leads zero w ≡ false
  pub target_exact : (h w x : ℕ) → F.good (suc h) w ≡ true → F.leads (suc h) w ≡ true → F.good (suc h) x ≡ true
      → F.leads (suc h) x ≡ true → F.target (suc h) w ≡ F.target (suc h) x → w ≡ x
  pub says_exact : (h a w x : ℕ) (R : ℕ → ℕ) → a < F.span → Says F h R a w → Says F h R a x → w ≡ x
  pub at_index : (h a i : ℕ) → a < F.span → i < F.size h
      → (b : ℕ) × (b < F.span) × Together F (suc h) a b × (F.index h b ≡ i)

-- A block wants a table exactly where no entry can say its rights.
pub record Wanting (F : Form) : Type 0 where
  -- Only the rights of addresses count.
  pub same : (h a : ℕ) (R T : ℕ → ℕ) → ((b : ℕ) → b < F.span → R b ≡ T b) → F.Wants h R a → F.Wants h T a
  -- What wants a table lies in a block that wants one.
  pub up : (h a : ℕ) (R : ℕ → ℕ) → a < F.span → suc h < F.top → F.Wants (suc h) R a → F.Wants (suc (suc h)) R a
  -- What wants a table cannot be said ..
  pub unsaid : (h a w : ℕ) (R : ℕ → ℕ) → a < F.span → F.Wants h R a → Says F h R a w → ⊥
  -- .. and what wants none can, for the rights of any pool.
  pub decided : (P : ℕ → ℕ) (d a h : ℕ) → d < F.domains → a < F.span → h ≤ F.top
      → F.Wants h (right_of F P d) a ⊎ ((w : ℕ) × Says F h (right_of F P d) a w)
