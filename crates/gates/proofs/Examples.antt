-- Gate sets and steps, computed.
use Prim.Native.Nat.{ℕ}
use mathlib.Core.Path.{◌≡◌, refl}
use mathlib.Core.List.{List, [], ◌∷◌, ◌++◌, map}
use mathlib.Core.Bool.{cond}
use lib.ListN.{replicate}
use lib.Dec.{eqb}
use Rattle.words.specs.declared.ByteAddr.{ByteAddr}
use Rattle.table.specs.declared.Shape.{Shape}
use Rattle.gates.specs.declared.Gate.{Gate}
use Rattle.gates.specs.declared.Gate.TheVariants.{Switch, Return}
use Rattle.gates.specs.declared.GateAt.{GateAt}
use Rattle.std.proofs.Common.{Some, None, Result, Ok, Err}
use Rattle.refusals.specs.declared.Refusal.{Refusal}
use Rattle.refusals.specs.Refusals.{number}
use Rattle.gates.specs.declared.Stepped.{Stepped}
use Rattle.gates.specs.declared.Stepped.TheVariants.{Pass, Deny}
use Rattle.gates.specs.States.{Gates, CallStack}
use Rattle.gates.specs.Gates.{no_gate, held, place_of, gate_in, gate_of, place_refusal, set_at_place, set_of, remove_of}
use Rattle.gates.specs.Steps.{numbers, no_frame, empty_stack, pushed, domains_known, step_refusal, switch_step}
use Rattle.gates.specs.Steps.{given_back, gate_step}

abbrev at : ℕ → ByteAddr
at n = record { 0 = n }

abbrev gate : ℕ → ℕ → Gate → GateAt
gate d a x = record { domain = d; address = at a; gate = x }

-- A set with these gates, in an array of 64.
abbrev holding : List GateAt → ℕ → Gates
holding l n = record { places = l ++ replicate 60 no_gate; count = n }

-- Two gates, and a third and a fourth at the places of the first two.
abbrev four : List GateAt
four = gate 0 4096 (Switch 1) ∷ gate 1 8192 Return ∷ gate 0 4096 (Switch 2) ∷ gate 1 8192 (Switch 0) ∷ []

-- A new gate goes last, and one at an existing place in that place.
goes_last : held (set_of 4 (holding four 2) 2 (at 64) Return).gates ≡ gate 0 4096 (Switch 1) ∷ gate 1 8192 Return ∷
    gate 2 64 Return ∷ []
unfolding set_of place_refusal set_at_place place_of
goes_last = refl

replaces : held (set_of 4 (holding four 2) 0 (at 4096) (Switch 3)).gates ≡ gate 0 4096 (Switch 3) ∷ gate 1 8192
    Return ∷ []
unfolding set_of place_refusal set_at_place place_of
replaces = refl

-- Of two gates at one place the earlier counts; without it the later one does.
earlier_counts : gate_of (holding four 4) 0 4096 ≡ Some (Switch 1)
unfolding gate_in
earlier_counts = refl

later_next : gate_of (remove_of 4 (holding four 4) 0 (at 4096)).gates 0 4096 ≡ Some (Switch 2)
unfolding gate_in remove_of place_refusal place_of
later_next = refl

-- Later gates move down, and the place that comes free keeps what it held.
moves_down : (remove_of 4 (holding four 3) 0 (at 4096)).gates
    ≡ holding (gate 1 8192 Return ∷ gate 0 4096 (Switch 2) ∷ gate 0 4096 (Switch 2) ∷ gate 1 8192 (Switch 0) ∷ []) 2
unfolding remove_of place_refusal place_of
moves_down = refl

-- The number of a refusal, 0 for none.
abbrev said : Result (Unit {0}) Refusal → ℕ
said (Ok u) = 0
said (Err n) = number n

-- Setting refuses in the order 1, 18, 2, 11, 14, 12: each call below mends the first fault of the one before it.
setting_refuses :
    map (λ r. said r.answer)
    (set_of 5 (holding four 65) 4 (at 2) (Switch 4) ∷ set_of 0 (holding four 65) 4 (at 2) (Switch 4) ∷ set_of 4
    (holding four 65) 4 (at 2) (Switch 4)
    ∷ set_of 4 (holding four 64) 4 (at 2) (Switch 4) ∷ set_of 4 (holding four 64) 3 (at 2) (Switch 4) ∷ set_of 4
    (holding four 64) 3 (at 2) (Switch 3)
    ∷ set_of 4 (holding four 64) 3 (at 4) (Switch 3) ∷ set_of 4 (holding four 64) 3 (at 4) (Switch 2) ∷ set_of 4
    (holding four 63) 3 (at 4) (Switch 2)
    ∷ [])
    ≡ 1 ∷ 1 ∷ 18 ∷ 2 ∷ 2 ∷ 11 ∷ 14 ∷ 12 ∷ 0 ∷ []
unfolding set_of place_refusal set_at_place place_of
setting_refuses = refl

-- Removing refuses in the order 1, 18, 2, 11, 13.
removing_refuses :
    map (λ r. said r.answer)
    (remove_of 5 (holding four 65) 4 (at 2) ∷ remove_of 4 (holding four 65) 4 (at 2) ∷ remove_of 4 (holding four 2) 4
    (at 2)
    ∷ remove_of 4 (holding four 2) 3 (at 2) ∷ remove_of 4 (holding four 2) 3 (at 4) ∷ remove_of 4 (holding four 2) 1
    (at 8192) ∷ [])
    ≡ 1 ∷ 18 ∷ 2 ∷ 11 ∷ 13 ∷ 0 ∷ []
unfolding remove_of place_refusal place_of
removing_refuses = refl

-- Before the gate a step refuses in the order 1, 18, 2, 10. Domains past the counts are not looked at.
abbrev two_roots : Shape
two_roots = record { domains = 2; middles = 0; leaves = 0 }

abbrev stack : ℕ → ℕ → CallStack
stack n d = record {
  frames = record { domain = 1; back = at 64 } ∷ record { domain = 7; back = at 0 } ∷ replicate 14
      no_frame;
  depth = n;
  current = d;
}

step_refuses :
    map said
    (step_refusal 2047 two_roots (holding four 65) (stack 17 2) 2 2 ∷ step_refusal 2048 two_roots (holding four 65)
    (stack 16 2) 2 2
    ∷ step_refusal 2048 two_roots (holding four 64) (stack 17 2) 2 2 ∷ step_refusal 2048 two_roots (holding four 2)
    (stack 1 2) 2 2
    ∷ step_refusal 2048 two_roots (holding four 2) (stack 2 1) 2 2 ∷ step_refusal 2048 two_roots (holding four 3)
    (stack 1 1) 2 2
    ∷ step_refusal 2048 two_roots (holding four 2) (stack 1 1) 2 4 ∷ step_refusal 2048 two_roots (holding four 2)
    (stack 1 1) 4 2
    ∷ step_refusal 2048 two_roots (holding four 2) (stack 1 1) 4 4 ∷ [])
    ≡ 1 ∷ 18 ∷ 18 ∷ 2 ∷ 2 ∷ 2 ∷ 10 ∷ 10 ∷ 0 ∷ []
unfolding step_refusal domains_known
step_refuses = refl

-- The fetch is denied in domain 1 and passes in every other.
abbrev all_but_one : ℕ → Result Stepped Refusal
all_but_one d = Ok (cond (eqb d 1) Deny Pass)

-- By gates: a call into domain 2 that is checked there, and its return to domain 0; one into domain 1, which is
-- denied there.
calls : gate_step all_but_one (empty_stack 0) (at 64) (Some (Switch 2))
    ≡ record {
      answer = Ok Pass;
      stack = record {
        frames = record { domain = 0; back = at 64 } ∷ replicate 15 no_frame;
        depth = 1;
        current = 2;
      };
    }
unfolding switch_step
calls = refl

comes_back : gate_step all_but_one (pushed (empty_stack 0) 2 (at 64)) (at 64) (Some Return)
    ≡ record {
      answer = Ok Pass;
      stack = record {
        frames = record { domain = 0; back = at 64 } ∷ replicate 15 no_frame;
        depth = 0;
        current = 0;
      };
    }
unfolding given_back
comes_back = refl

denied_there : gate_step all_but_one (empty_stack 0) (at 64) (Some (Switch 1))
    ≡ record { answer = Ok Deny; stack = empty_stack 0 }
unfolding switch_step
denied_there = refl

-- At the gate: 15 before the fetch check, a deny before 16, and 16 before 17.
gate_answers :
    map (λ r. numbers r.answer)
    (gate_step all_but_one (stack 16 0) (at 64) (Some (Switch 1)) ∷ gate_step all_but_one (stack 15 0) (at 64)
    (Some (Switch 1))
    ∷ gate_step all_but_one (stack 0 1) (at 4) (Some Return) ∷ gate_step all_but_one (stack 0 0) (at 4) (Some Return)
    ∷ gate_step all_but_one (stack 1 0) (at 4) (Some Return) ∷ gate_step all_but_one (stack 1 0) (at 64) (Some Return)
    ∷ gate_step all_but_one (stack 0 1) (at 4) None ∷ gate_step all_but_one (stack 0 0) (at 4) None ∷ [])
    ≡ record { refusal = 15; pass = 0 } ∷ record { refusal = 0; pass = 0 } ∷ record { refusal = 0; pass = 0 } ∷
    record { refusal = 16; pass = 0 }
    ∷ record { refusal = 17; pass = 0 } ∷ record { refusal = 0; pass = 1 } ∷ record { refusal = 0; pass = 0 } ∷
    record { refusal = 0; pass = 1 } ∷ []
unfolding switch_step given_back
gate_answers = refl
