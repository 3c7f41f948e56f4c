-- What the words of a gate set and of a call stack say, and what a call makes of them. Contracts alone speak of these.
use Rattle.std.specs.Prelude.{ℕ, List, Result}
use Rattle.refusals.specs.declared.Refusal.{Refusal}
use Rattle.gates.specs.declared.GateAt.{GateAt}
use Rattle.gates.specs.declared.Frame.{Frame}
use Rattle.gates.specs.declared.Stepped.{Stepped}

-- A gate set, of 64 places. The gates held are the first `count`; a place past them keeps what it held and is never
-- looked at.
pub record Gates : Type 0 where
  pub places : List GateAt
  pub count : ℕ

-- What setting or removing a gate answers, and the set afterwards.
pub record GatesSet : Type 0 where
  pub answer : Result (Unit {0}) Refusal
  pub gates : Gates

-- A call stack of 16 frames, with the current domain. The frames in use are the first `depth`; a popped one keeps its
-- words and is never looked at.
pub record CallStack : Type 0 where
  pub frames : List Frame
  pub depth : ℕ
  pub current : ℕ

-- What a step answers, and the stack afterwards.
pub record Step : Type 0 where
  pub answer : Result Stepped Refusal
  pub stack : CallStack
