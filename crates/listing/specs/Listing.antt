-- What the listing answers and leaves, for every input, in the paper's order of refusals.
use Rattle.std.specs.Prelude.{ℕ, ◌*◌, List, length, Result, Ok, Err}
use Rattle.refusals.specs.declared.Refusal.{Refusal}
use Rattle.refusals.specs.declared.Refusal.TheVariants.{NoShape, NotSound}
use Rattle.refusals.specs.Refusals.{number}
use Rattle.theory.specs.Pool.{words, SoundPool, right_of}
use Rattle.table.specs.declared.Shape.{Shape}
use Rattle.table.specs.Shape.{Fits}
use Rattle.table.specs.Map.{form_of}
use Rattle.listing.specs.declared.Run.{Run}
use Rattle.listing.specs.Runs.{memory_words, AllRuns, shown}

-- The paper's numbers for what comes back.
pub record Numbers : Type 0 where
  pub refusal : ℕ
  pub count : ℕ

-- A refusal is its number with a count of zero.
abbrev pub numbers : Result ℕ Refusal → Numbers
numbers (Ok n) = record { refusal = 0; count = n }
numbers (Err k) = record { refusal = number k; count = 0 }

-- The right of memory word `w` for domain `d`.
abbrev pub word_right : Shape → List ℕ → ℕ → ℕ → ℕ
word_right s p d w = right_of (form_of s) (words p) d (4 * w)

-- The listing of the pool `p`, from run number `from` on, into the lent words `old`: its answer, and what the lent
-- words are afterwards.
pub data Lists (p : List ℕ) (s : Shape) (from : ℕ) (old : List ℕ) : Result ℕ Refusal → List ℕ → Type 0 where
  no_shape : (Fits s (length p) → ⊥) → Lists p s from old (Err NoShape) old
  unsound : Fits s (length p) → (SoundPool (form_of s) (words p) → ⊥) → Lists p s from old (Err NotSound) old
  listed : Fits s (length p) → SoundPool (form_of s) (words p) → (rs : List Run) → AllRuns s.domains memory_words
      (word_right s p) rs
      → Lists p s from old (Ok (length rs)) (shown from rs old)
