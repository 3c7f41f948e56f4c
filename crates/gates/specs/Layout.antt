-- How a gate set and a call stack lie in lent words: what words say, the words of a state, and what a call on words
-- leaves. The first two are inverse to each other (proofs/LayoutLaws).
use Rattle.std.specs.Prelude.{ℕ, ◌+◌, ◌*◌, ◌≡◌, cond, Result, List, [], ◌∷◌, ◌++◌, eqb, get_or}
use Rattle.refusals.specs.declared.Refusal.{Refusal}
use Rattle.rows.specs.Rows.{rows_of, words_of}
use Rattle.gates.specs.declared.Gate.{Gate}
use Rattle.gates.specs.declared.Gate.TheVariants.{Switch, Return}
use Rattle.gates.specs.declared.GateAt.{GateAt}
use Rattle.gates.specs.declared.Frame.{Frame}
use Rattle.gates.specs.declared.Stepped.{Stepped}
use Rattle.gates.specs.States.{Gates, GatesSet, CallStack, Step}

-- The words of a gate set: 64 gates of three, then the count.
abbrev pub gates_long : ℕ
gates_long = 193

-- The words of a call stack: 16 frames of two, then the depth, then the current domain.
abbrev pub stack_long : ℕ
stack_long = 34

-- The word of a return gate; any other word is the destination of a switch.
abbrev pub return_word : ℕ
return_word = 0xFFFFFFFF

-- The gate that a word says.
abbrev pub gate_said : ℕ → Gate
gate_said w = cond (eqb w return_word) Return (Switch w)

-- The word of a gate.
abbrev pub gate_word : Gate → ℕ
gate_word (Switch d) = d
gate_word Return = return_word

-- The gate in the words from `at` on, with its place: domain, address, gate.
abbrev pub gate_at : List ℕ → ℕ → GateAt
gate_at ws at = record {
  domain = get_or ws at 0;
  address = record { 0 = get_or ws (at + 1) 0 };
  gate = gate_said
      (get_or ws (at + 2) 0);
}

-- The words of a gate with its place.
abbrev pub gate_words : GateAt → List ℕ
gate_words g = g.domain ∷ g.address.0 ∷ gate_word g.gate ∷ []

-- The gate set that words say.
abbrev pub gates_of : List ℕ → Gates
gates_of ws = record { places = rows_of 64 (λ i. gate_at ws (3 * i)); count = get_or ws 192 0 }

-- The words of a gate set.
abbrev pub gates_words : Gates → List ℕ
gates_words G = words_of gate_words G.places ++ G.count ∷ []

-- The frame in the words from `at` on: domain, return address.
abbrev pub frame_at : List ℕ → ℕ → Frame
frame_at ws at = record { domain = get_or ws at 0; back = record { 0 = get_or ws (at + 1) 0 } }

-- The words of a frame.
abbrev pub frame_words : Frame → List ℕ
frame_words f = f.domain ∷ f.back.0 ∷ []

-- The call stack that words say.
abbrev pub stack_of : List ℕ → CallStack
stack_of ws = record { frames = rows_of 16 (λ i. frame_at ws (2 * i)); depth = get_or ws 32 0; current = get_or ws 33 0 }

-- The words of a call stack.
abbrev pub stack_words : CallStack → List ℕ
stack_words k = words_of frame_words k.frames ++ k.depth ∷ k.current ∷ []

-- Setting or removing a gate that is to be `r` answers `a` and leaves the words `ws`.
abbrev pub SetAs : GatesSet → Result (Unit {0}) Refusal → List ℕ → Type 0
SetAs r a ws = (a ≡ r.answer) × (ws ≡ gates_words r.gates)

-- A step that is to be `r` answers `a` and leaves the words `ws` of the stack.
abbrev pub SteppedAs : Step → Result Stepped Refusal → List ℕ → Type 0
SteppedAs r a ws = (a ≡ r.answer) × (ws ≡ stack_words r.stack)
