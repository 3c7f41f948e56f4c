-- Blocks, what an entry can say of one, and settled pools. For any form.
use Rattle.std.specs.Prelude.{ℕ, suc, ◌≤◌, ◌<◌, ◌≡◌, true, false}
use Rattle.theory.specs.Form.{Form}
use Rattle.theory.specs.Pool.{SoundPool, Led, right_of}

-- The addresses `a` and `b` lie in one block of an entry of height `h`: they go by the same entries from the root
-- down to there.
abbrev pub Together : Form → ℕ → ℕ → ℕ → Type 0
Together F h a b = (i : ℕ) → h ≤ i → i ≤ F.top → F.index i a ≡ F.index i b

-- The entry `w`, which does not lead, gives the rights `R` to the whole block of height `h` around `a`.
pub record Says (F : Form) (h : ℕ) (R : ℕ → ℕ) (a w : ℕ) : Type 0 where
  pub good : F.good h w ≡ true
  pub rights : F.leads h w ≡ false
  pub each : (b : ℕ) → b < F.span → Together F h a b → F.says h w b ≡ R b

-- Domain `d` has a table of height `h` for the block around `a`.
abbrev pub HasTable : Form → (ℕ → ℕ) → ℕ → ℕ → ℕ → Type 0
HasTable F P d a h = (t : ℕ) × Led F P d a h t

-- Sound, and there is a table exactly for each block that wants one.
pub record Settled (F : Form) (P : ℕ → ℕ) : Type 0 where
  pub sound : SoundPool F P
  pub wanted : {d a h : ℕ} → d < F.domains → a < F.span → h < F.top → HasTable F P d a h
      → F.Wants (suc h) (right_of F P d) a
  pub there : {d a h : ℕ} → d < F.domains → a < F.span → h < F.top → F.Wants (suc h) (right_of F P d) a
      → HasTable F P d a h
