-- The call stack and one fetch step: what a step answers, and the stack that it leaves.
use Rattle.std.specs.Prelude.{ℕ, ◌+◌, ◌-◌, ◌%◌, Bool, cond, not, ◌&&◌, ◌||◌, Option, Some, None, Result, Ok, Err, List, length, get_or, take, set, replicate, eqb, ltb}
use Rattle.std.specs.List.{list_all}
use Rattle.words.specs.declared.ByteAddr.{ByteAddr}
use Rattle.refusals.specs.declared.Refusal.{Refusal}
use Rattle.refusals.specs.declared.Refusal.TheVariants.{NoShape, NoDomain, NotAligned, StackFull, StackEmpty, OtherReturn, BadState}
use Rattle.refusals.specs.Refusals.{number}
use Rattle.table.specs.declared.Shape.{Shape}
use Rattle.table.specs.declared.Deciding.{Deciding}
use Rattle.table.specs.Shape.{fits_of}
use Rattle.table.specs.Lookup.{lookup_of}
use Rattle.table.specs.Access.{passes_of, fetch}
use Rattle.gates.specs.declared.Gate.{Gate}
use Rattle.gates.specs.declared.Gate.TheVariants.{Switch, Return}
use Rattle.gates.specs.declared.GateAt.{GateAt}
use Rattle.gates.specs.declared.Frame.{Frame}
use Rattle.gates.specs.declared.Stepped.{Stepped}
use Rattle.gates.specs.declared.Stepped.TheVariants.{Pass, Deny}
use Rattle.gates.specs.States.{Gates, CallStack, Step}
use Rattle.gates.specs.Gates.{max_gates, held, gate_of, leads_below}

-- The paper's numbers for what a step answers.
pub record Numbers : Type 0 where
  pub refusal : ℕ
  pub pass : ℕ

-- A pass is 1 and a deny 0; a refusal is its number with all other results zero.
abbrev pub numbers : Result Stepped Refusal → Numbers
numbers (Ok Pass) = record { refusal = 0; pass = 1 }
numbers (Ok Deny) = record { refusal = 0; pass = 0 }
numbers (Err n) = record { refusal = number n; pass = 0 }

-- A call stack holds at most this many frames.
abbrev pub max_depth : ℕ
max_depth = 16

-- A frame of zeros.
abbrev pub no_frame : Frame
no_frame = record { domain = 0; back = record { 0 = 0 } }

-- The stack with no frame in use, in a domain.
abbrev pub empty_stack : ℕ → CallStack
empty_stack d = record { frames = replicate 16 no_frame; depth = 0; current = d }

-- The frames in use: those below the depth.
abbrev pub in_use : CallStack → List Frame
in_use k = take k.depth k.frames

-- The top frame in use.
abbrev pub top : CallStack → Frame
top k = get_or k.frames (k.depth - 1) no_frame

-- The stack with the current domain and the address `b` pushed, in the domain `e`.
abbrev pub pushed : CallStack → ℕ → ByteAddr → CallStack
pushed k e b =
    record {
      frames = set k.frames k.depth (record { domain = k.current; back = b });
      depth = k.depth + 1;
      current = e;
    }

-- The stack with its top frame popped, in that frame's domain; the frame keeps its words.
abbrev pub popped : CallStack → CallStack
popped k = record { frames = k.frames; depth = k.depth - 1; current = (top k).domain }

-- A frame's domain is below D.
abbrev pub frame_below : ℕ → Frame → Bool
frame_below D f = ltb f.domain D

-- A gate's domain is below D, and a switch's destination too.
abbrev pub gate_below : ℕ → GateAt → Bool
gate_below D g = ltb g.domain D && leads_below D g.gate

-- The current domain and every domain in a frame or gate held is below D.
unfoldable pub domains_known : Gates → CallStack → ℕ → Bool
domains_known G k D = ltb k.current D && list_all (frame_below D) (in_use k) && list_all (gate_below D) (held G)

-- What a step refuses before it looks at the gate, in the paper's order.
unfoldable pub step_refusal : ℕ → Shape → Gates → CallStack → ℕ → ℕ → Result (Unit {0}) Refusal
step_refusal n s G k a t =
    cond (not (fits_of s n)) (Err NoShape)
    (cond (ltb max_gates G.count || ltb max_depth k.depth) (Err BadState)
    (cond (not (domains_known G k s.domains)) (Err NoDomain)
    (cond (not (eqb (a % 4) 0 && eqb (t % 4) 0)) (Err NotAligned) (Ok tt))))

-- A fetch passes or is denied by the right found; a lookup that is refused refuses it.
abbrev pub verdict : Result Deciding Refusal → Result Stepped Refusal
verdict (Ok x) = Ok (cond (passes_of fetch x.right) Pass Deny)
verdict (Err n) = Err n

-- The fetch of the word at the address `a`, checked in the domain `d` by a walk of the pool.
unfoldable pub fetch_of : List ℕ → Shape → ℕ → ℕ → Result Stepped Refusal
fetch_of p s a d = verdict (lookup_of p s d a)

-- A refusal leaves the stack as it came.
abbrev pub step_refused : Refusal → CallStack → Step
step_refused n k = record { answer = Err n; stack = k }

-- A pass leaves the stack of the step.
abbrev pub step_passed : CallStack → Step
step_passed k = record { answer = Ok Pass; stack = k }

-- On pass what `r` says; a deny or a refusal leaves the stack `k` as it came.
abbrev pub on_pass : Result Stepped Refusal → CallStack → Step → Step
on_pass (Ok Pass) k r = r
on_pass (Ok Deny) k r = record { answer = Ok Deny; stack = k }
on_pass (Err n) k r = step_refused n k

-- In the three cases of a step, `v` says of each domain how the fetch is checked in it. No gate: it is checked in the
-- current domain.
abbrev pub plain_step : (ℕ → Result Stepped Refusal) → CallStack → Step
plain_step v k = record { answer = v k.current; stack = k }

-- Switch gate: with room on the stack it is checked in the destination `e`; on pass the current domain and the target
-- are pushed. A destination that is the current domain, which a set handed in can hold, is taken as any other.
unfoldable pub switch_step : (ℕ → Result Stepped Refusal) → CallStack → ℕ → ByteAddr → Step
switch_step v k e t =
    cond (ltb k.depth max_depth) (on_pass (v e) k (step_passed (pushed k e t))) (step_refused StackFull k)

-- A return that may be fetched: it is refused on an empty stack, and where the top frame's return address is not the
-- target; else that frame is popped.
unfoldable pub given_back : CallStack → ByteAddr → Step
given_back k t =
    cond (eqb k.depth 0) (step_refused StackEmpty k)
    (cond (eqb (top k).back.0 t.0) (step_passed (popped k)) (step_refused OtherReturn k))

-- Return gate: it is checked in the current domain, and on pass given back.
abbrev pub return_step : (ℕ → Result Stepped Refusal) → CallStack → ByteAddr → Step
return_step v k t = on_pass (v k.current) k (given_back k t)

-- A step that is in order is taken, and a refusal leaves the stack as it came.
abbrev pub step_if_in_order : Result (Unit {0}) Refusal → CallStack → Step → Step
step_if_in_order (Ok u) k r = r
step_if_in_order (Err n) k r = step_refused n k

-- A step by what stands at its address for the current domain.
abbrev pub gate_step : (ℕ → Result Stepped Refusal) → CallStack → ByteAddr → Option Gate → Step
gate_step v k t None = plain_step v k
gate_step v k t (Some (Switch e)) = switch_step v k e t
gate_step v k t (Some Return) = return_step v k t

-- What a step at the address `a` with the target `t` answers and leaves.
unfoldable pub step_of : List ℕ → Shape → Gates → CallStack → ByteAddr → ByteAddr → Step
step_of p s G k a t =
    step_if_in_order (step_refusal (length p) s G k a.0 t.0) k
    (gate_step (fetch_of p s a.0) k t (gate_of G k.current a.0))
