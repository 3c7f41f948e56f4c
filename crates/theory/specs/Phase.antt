-- The order of the stores of a change, word by word. For any form.
use Rattle.std.specs.Prelude.{ℕ, ◌≡◌, Bool, true, cond, ◌&&◌, ◌||◌, eqb, ltb}
use Rattle.theory.specs.Form.{Form}
use Rattle.theory.specs.Stores.{Kept}

-- The phase of word `j`: 1 for a kept word that leads in the old pool, 2 for one that is not kept, 3 for the other
-- kept ones.
abbrev pub phase : Form → (ℕ → ℕ) → (ℕ → Bool) → ℕ → ℕ
phase F P kept j = cond (kept j) (cond (F.leads (F.zone j) (P j)) 1 3) 2

-- The pool when the phases before `c`, and of phase `c` the words below `k`, are done.
abbrev pub midway : (P Q phases : ℕ → ℕ) → ℕ → ℕ → ℕ → ℕ
midway P Q phases c k j = cond (ltb (phases j) c || (eqb (phases j) c && ltb j k)) (Q j) (P j)

-- The test tells exactly the kept words.
pub record Tells (F : Form) (P Q : ℕ → ℕ) (kept : ℕ → Bool) : Type 0 where
  pub is : (m j : ℕ) → Kept F P Q m j → kept j ≡ true
  pub are : (j : ℕ) → kept j ≡ true → Kept F P Q (F.zone j) j
