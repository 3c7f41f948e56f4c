-- What a change by a caller answers and leaves, for every input, in the paper's order of refusals.
use Rattle.std.specs.Prelude.{ℕ, ◌≡◌, List, Result, Ok, Err, length}
use Rattle.refusals.specs.declared.Refusal.{Refusal}
use Rattle.refusals.specs.declared.Refusal.TheVariants.{NotAllowed}
use Rattle.words.specs.declared.Region.{Region}
use Rattle.table.specs.declared.Shape.{Shape}
use Rattle.table.specs.Shape.{fits_of}
use Rattle.change.specs.declared.Ending.{Ending}
use Rattle.change.specs.Answers.{Changes}
use Rattle.owners.specs.Rules.{Allowed}
use Rattle.owners.specs.Calls.{asked_of}

-- The region that a change by a caller asks for: 1 is the pool's shape.
abbrev pub asked_by : List ℕ → Shape → List ℕ → ℕ → ℕ → ℕ → ℕ → ℕ → Result Region Refusal
asked_by p s list caller d start len r = asked_of (fits_of s (length p)) list s.domains caller d r start len

-- The change of the pool `p` by a caller, beside the list of owned regions, answers and leaves.
pub data ChangesBy (p : List ℕ) (s : Shape) (list : List ℕ) (caller d start len r n : ℕ)
    : Result Ending Refusal → List ℕ → Type 0 where
  -- 101, 1, 18, 2, 3, 4 or 5.
  not_asked : (k : Refusal) → asked_by p s list caller d start len r ≡ Err k
      → ChangesBy p s list caller d start len r n (Err k) p
  not_allowed : (g : Region) → asked_by p s list caller d start len r ≡ Ok g → (Allowed list caller d r g → ⊥)
      → ChangesBy p s list caller d start len r n (Err NotAllowed) p
  -- 6, 7 or 8; done; or cut: as the supervisor's own change.
  allowed : (g : Region) → asked_by p s list caller d start len r ≡ Ok g → Allowed list caller d r g
      → {a : Result Ending Refusal} {q : List ℕ} → Changes p s d start len r n a q → ChangesBy p s list caller d start len r n a q
