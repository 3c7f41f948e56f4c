-- A pool that holds the rights `R`, with a table for each block that wants one, at the place that `place` gives it.
-- For any form.
use Prim.Native.Nat.{ℕ, zero, suc, ◌+◌, ◌≤◌, ◌<◌}
use mathlib.Core.Path.{◌≡◌}
use mathlib.Core.Bool.{Bool, true, false}
use Rattle.theory.specs.Form.{Form}
use Rattle.theory.specs.Pool.{Led}
use Rattle.theory.specs.Settled.{Together, Says}
use Rattle.theory.specs.Finished.{Place, Before}

-- `want h d a`: a test whether the block of height `h` around `a` wants a table, for domain `d`.
module _ (F : Form) (want : ℕ → ℕ → ℕ → Bool) where
  -- The test tells exactly the blocks that want a table, for the rights `R`.
  pub record TellsWants (R : ℕ → ℕ → ℕ) : Type 0 where
    pub last : (d a : ℕ) → d < F.domains → a < F.span → want zero d a ≡ false
    pub is : (h d a : ℕ) → d < F.domains → a < F.span → h < F.top → F.Wants (suc h) (R d) a → want (suc h) d a
        ≡ true
    pub are : (h d a : ℕ) → d < F.domains → a < F.span → h < F.top → want (suc h) d a ≡ true
        → F.Wants (suc h) (R d) a

  -- The walk comes down to height `h`: every block above wants a table.
  abbrev pub Gets : ℕ → ℕ → ℕ → Type 0
  Gets h d a = (i : ℕ) → h < i → i ≤ F.top → want i d a ≡ true

  -- `place h d a`: where the table of height `h` for the block around `a` begins, for domain `d`.
  module _ (place : ℕ → ℕ → ℕ → ℕ) where
    -- The word of height `h` on the walk.
    abbrev pub spot : ℕ → ℕ → ℕ → ℕ
    spot h d a = place h d a + F.index h a

    -- Roots are where they are, a table is for a whole block, and no two tables stand at one place.
    pub record Placing : Type 0 where
      pub root : (d a : ℕ) → d < F.domains → a < F.span → place F.top d a ≡ F.root d
      pub block : (h d a b : ℕ) → d < F.domains → a < F.span → b < F.span → Together F (suc h) a b → place h d a
          ≡ place h d b
      pub apart : (h d a e b : ℕ) → d < F.domains → a < F.span → e < F.domains → b < F.span → h < F.top
          → Gets h d a → Gets h e b
          → place h d a ≡ place h e b → (d ≡ e) × Together F (suc h) a b

    -- Each word that walks come to leads to its table, or says the rights of its block.
    pub record Encodes (R : ℕ → ℕ → ℕ) (Q : ℕ → ℕ) : Type 0 where
      pub leads : (h d a : ℕ) → d < F.domains → a < F.span → h < F.top → Gets h d a
          → (F.good (suc h) (Q (spot (suc h) d a)) ≡ true) × (F.leads (suc h) (Q (spot (suc h) d a)) ≡ true)
          × (F.target (suc h) (Q (spot (suc h) d a)) ≡ place h d a)
      pub says : (h d a : ℕ) → d < F.domains → a < F.span → h ≤ F.top → Gets h d a → want h d a ≡ false
          → Says F h (R d) a (Q (spot h d a))

    -- A table is wanted now, and the old pool `P` has none.
    abbrev pub Fresh : (ℕ → ℕ) → ℕ → ℕ → ℕ → Type 0
    Fresh P h d a = Gets h d a × ((s : ℕ) → Led F P d a h s → ⊥)

    -- The rules for places, and for idle words, from the old pool `P`.
    pub record Follows (P Q : ℕ → ℕ) : Type 0 where
      pub keeps : (h d a s : ℕ) → d < F.domains → a < F.span → Gets h d a → Led F P d a h s → place h d a ≡ s
      pub order : (h d a e b : ℕ) → d < F.domains → a < F.span → e < F.domains → b < F.span → h < F.top
          → Fresh P h d a → Fresh P h e b
          → Before d a e b → place h d a ≤ place h e b
      -- Below a new table no place is left over.
      pub lowest : (h d a x : ℕ) → d < F.domains → a < F.span → h < F.top → Fresh P h d a → Place F h x
          → x < place h d a
          → (e : ℕ) × (b : ℕ) × (e < F.domains) × (b < F.span) × Gets h e b × (place h e b ≡ x)
      pub idle : (j : ℕ)
          → ((h d a : ℕ) → d < F.domains → a < F.span → h ≤ F.top → Gets h d a → j ≡ spot h d a → ⊥)
          → Q j ≡ P j
