-- The form of a table's entries: all that the theory knows of levels, widths and words.
-- A level is counted from below, by its height: a leaf has height 0, a root the height `top`.
use Rattle.std.specs.Prelude.{ℕ, Bool}

pub record Form : Type 1 where
  -- The height of a root.
  pub top : ℕ
  -- How many domains there are, each with a root.
  pub domains : ℕ
  -- Every address is below this number.
  pub span : ℕ
  -- The pool word where the root of a domain begins.
  pub root : ℕ → ℕ
  -- How many entries a table of a height has.
  pub size : ℕ → ℕ
  -- Which entry of a table of a height an address goes by.
  pub index : ℕ → ℕ → ℕ
  -- Whether a word is good as an entry of a height.
  pub good : ℕ → ℕ → Bool
  -- Whether a word, as an entry of a height, leads to a table one height below.
  pub leads : ℕ → ℕ → Bool
  -- The pool word where the table begins to which an entry of a height leads.
  pub target : ℕ → ℕ → ℕ
  -- The right that an entry of a height, which does not lead, gives to an address.
  pub says : ℕ → ℕ → ℕ → ℕ
  -- `Wants h R a`: with the rights `R`, the block of an entry of height `h` around the address `a` cannot do without
  -- a table.
  pub Wants : ℕ → (ℕ → ℕ) → ℕ → Type 0
  -- The height whose tables a pool word may belong to.
  pub zone : ℕ → ℕ
