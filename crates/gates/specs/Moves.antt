-- What a step does to a call stack, without the pool and the gates: the three moves that a series of steps is made of.
use Rattle.std.specs.Prelude.{ℕ, ◌<◌, ◌≡◌, Result}
use Rattle.words.specs.declared.ByteAddr.{ByteAddr}
use Rattle.gates.specs.declared.Stepped.{Stepped}
use Rattle.refusals.specs.declared.Refusal.{Refusal}
use Rattle.gates.specs.States.{CallStack, Step}
use Rattle.gates.specs.Steps.{max_depth, top, step_passed, pushed, popped}

-- A step with the target `t` leaves the stack `k` as it came, whatever it answers; or passes and pushes a frame; or
-- passes and pops the top one.
pub data Moves (t : ByteAddr) (k : CallStack) : Step → Type 0 where
  stays : (r : Result Stepped Refusal) → Moves t k (record { answer = r; stack = k })
  calls : (e : ℕ) → k.depth < max_depth → Moves t k (step_passed (pushed k e t))
  returns : 0 < k.depth → (top k).back.0 ≡ t.0 → Moves t k (step_passed (popped k))
