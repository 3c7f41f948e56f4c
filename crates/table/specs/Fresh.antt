-- Making a pool fresh: what comes back, and what the pool then holds.
use Rattle.std.specs.Prelude.{ℕ, ◌+◌, ◌*◌, ◌≡◌, cond, Result, Ok, Err, List, ◌++◌, length, replicate}
use Rattle.refusals.specs.declared.Refusal.{Refusal}
use Rattle.refusals.specs.declared.Refusal.TheVariants.{NoShape}
use Rattle.refusals.specs.Refusals.{number}
use Rattle.table.specs.declared.Shape.{Shape}
use Rattle.table.specs.Shape.{size, fits_of}

-- The paper's number for what comes back: 0 for done.
abbrev pub made_number : Result (Unit {0}) Refusal → ℕ
made_number (Ok _) = 0
made_number (Err r) = number r

-- Every root word 0x80000000, and every other word 0.
abbrev pub fresh_pool : Shape → List ℕ
fresh_pool s = replicate (size 2 * s.domains) 0x80000000 ++ replicate (size 1 * s.middles + size 0 * s.leaves) 0

-- What making fresh answers: a refusal of a shape that does not fit, else done.
abbrev pub fresh_of : Shape → ℕ → Result (Unit {0}) Refusal
fresh_of s n = cond (fits_of s n) (Ok tt) (Err NoShape)

-- Making the pool `p` fresh answers `r` and leaves `q`.
pub record MakesFresh (s : Shape) (p : List ℕ) (r : Result (Unit {0}) Refusal) (q : List ℕ) : Type 0 where
  pub answer : r ≡ fresh_of s (length p)
  pub pool : q ≡ cond (fits_of s (length p)) (fresh_pool s) p
