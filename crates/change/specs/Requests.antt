-- What comes of a request before anything is stored: refused, whatever the allowance; or in order, with the plan of
-- its change.
use Rattle.std.specs.Prelude.{ℕ, List, Result, Ok, Err}
use Rattle.refusals.specs.declared.Refusal.{Refusal}
use Rattle.theory.specs.Pool.{words}
use Rattle.theory.specs.Settled.{Settled}
use Rattle.words.specs.declared.Region.{Region}
use Rattle.table.specs.declared.Shape.{Shape}
use Rattle.table.specs.Map.{form_of}
use Rattle.change.specs.Runs.{Change}
use Rattle.plan.specs.Plan.{Plan}
use Rattle.plan.specs.Aims.{Aim, change_aim}
use Rattle.change.specs.Answers.{Asked, ChangesRegion, Changes}
use Rattle.change.specs.Runs.{Ready}

-- From refusal 6 on.
abbrev pub RegionIs : List ℕ → Shape → Aim → Plan → Result (Unit {0}) Refusal → Type 0
RegionIs p s A q (Err k) = (n : ℕ) → ChangesRegion p s A n (Err k) p
RegionIs p s A q (Ok _) = Settled (form_of s) (words p) × Ready s A (Change q) p

-- From refusal 1 on.
abbrev pub RequestIs : List ℕ → Shape → ℕ → ℕ → ℕ → ℕ → Plan → Result (Unit {0}) Refusal → Type 0
RequestIs p s d start len r q (Err k) = (n : ℕ) → Changes p s d start len r n (Err k) p
RequestIs p s d start len r q (Ok _) = (g : Region) × Asked p s d start len r g × Settled (form_of s) (words p)
    × Ready s (change_aim d g r) (Change q) p
