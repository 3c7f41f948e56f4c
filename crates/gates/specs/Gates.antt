-- Gate sets: which gate is found, and what setting and removing answer and leave.
use Rattle.std.specs.Prelude.{ℕ, ◌+◌, ◌-◌, ◌%◌, Bool, true, false, cond, not, ◌&&◌, Option, Some, None, option_map, Result, Ok, Err, List, ◌++◌, take, drop, set, replicate, eqb, ltb, leb}
use Rattle.std.specs.List.{filter, find, position, remove}
use Rattle.words.specs.declared.ByteAddr.{ByteAddr}
use Rattle.table.specs.Shape.{max_domains}
use Rattle.refusals.specs.declared.Refusal.{Refusal}
use Rattle.refusals.specs.declared.Refusal.TheVariants.{NoShape, NoDomain, GateNotAligned, GatesFull, NoGate, GateToItself, BadState}
use Rattle.gates.specs.declared.Gate.{Gate}
use Rattle.gates.specs.declared.Gate.TheVariants.{Switch, Return}
use Rattle.gates.specs.declared.GateAt.{GateAt}
use Rattle.gates.specs.States.{Gates, GatesSet}

-- A set holds at most this many gates.
abbrev pub max_gates : ℕ
max_gates = 64

-- What stands in a place that never held a gate.
abbrev pub no_gate : GateAt
no_gate = record { domain = 0; address = record { 0 = 0 }; gate = Return }

-- The set that holds no gate.
abbrev pub no_gates : Gates
no_gates = record { places = replicate 64 no_gate; count = 0 }

-- The gates held: the places below the count.
abbrev pub held : Gates → List GateAt
held G = take G.count G.places

-- The gate stands at the domain `d` and the address `a`.
abbrev pub stands_at : ℕ → ℕ → GateAt → Bool
stands_at d a g = eqb g.domain d && eqb g.address.0 a

-- The place of the first gate that stands there, if one does.
unfoldable pub place_of : Gates → ℕ → ℕ → Option ℕ
place_of G d a = position (stands_at d a) (held G)

-- The gate found in a list: of two at one place, the earlier counts.
unfoldable pub gate_in : ℕ → ℕ → List GateAt → Option Gate
gate_in d a gs = option_map (λ g. g.gate) (find (stands_at d a) gs)

-- The gate found in a set.
abbrev pub gate_of : Gates → ℕ → ℕ → Option Gate
gate_of G d a = gate_in d a (held G)

-- The gates that stand elsewhere, in their order.
abbrev pub others : ℕ → ℕ → List GateAt → List GateAt
others d a gs = filter (λ g. not (stands_at d a g)) gs

-- A switch's destination is below D; a return has none.
abbrev pub leads_below : ℕ → Gate → Bool
leads_below D (Switch e) = ltb e D
leads_below D Return = true

-- A switch to the domain `d`.
abbrev pub leads_to : ℕ → Gate → Bool
leads_to d (Switch e) = eqb e d
leads_to d Return = false

-- What setting and removing refuse alike, in the paper's order.
unfoldable pub place_refusal : ℕ → ℕ → ℕ → Gate → ℕ → Result (Unit {0}) Refusal
place_refusal D n d x a =
    cond (not (leb 1 D && leb D max_domains)) (Err NoShape)
    (cond (ltb max_gates n) (Err BadState)
    (cond (not (ltb d D && leads_below D x)) (Err NoDomain)
    (cond (not (eqb (a % 4) 0)) (Err GateNotAligned) (Ok tt))))

-- A refusal leaves the set as it came.
abbrev pub set_refused : Refusal → Gates → GatesSet
set_refused n G = record { answer = Err n; gates = G }

abbrev pub set_done : Gates → GatesSet
set_done G = record { answer = Ok tt; gates = G }

-- What is in order is done, and a refusal leaves the set as it came.
abbrev pub set_if_in_order : Result (Unit {0}) Refusal → Gates → GatesSet → GatesSet
set_if_in_order (Ok u) G r = r
set_if_in_order (Err n) G r = set_refused n G

-- The set with a gate stored at place `k`, and the count `n`.
abbrev pub stored : Gates → ℕ → GateAt → ℕ → Gates
stored G k g n = record { places = set G.places k g; count = n }

-- Setting the gate `g` in the place of the one that stands there, else last; refused where 64 are present.
abbrev pub set_in : Gates → GateAt → Option ℕ → GatesSet
set_in G g (Some k) = set_done (stored G k g G.count)
set_in G g None = cond (eqb G.count max_gates) (set_refused GatesFull G) (set_done (stored G G.count g (G.count + 1)))

-- Setting it once its place is in order: refused for a switch to its own domain.
unfoldable pub set_at_place : Gates → GateAt → GatesSet
set_at_place G g = cond (leads_to g.domain g.gate) (set_refused GateToItself G) (set_in G g (place_of G g.domain g.address.0))

-- What setting a gate answers and leaves.
unfoldable pub set_of : ℕ → Gates → ℕ → ByteAddr → Gate → GatesSet
set_of D G d a x =
    set_if_in_order (place_refusal D G.count d x a.0) G (set_at_place G (record { domain = d; address = a; gate = x }))

-- The set without the gate of place `k`: later gates move down, and every place past the new count keeps what it held.
abbrev pub without : Gates → ℕ → Gates
without G k = record { places = remove (held G) k ++ drop (G.count - 1) G.places; count = G.count - 1 }

-- Removing the gate of the place found; refused where none stands there.
abbrev pub remove_from : Gates → Option ℕ → GatesSet
remove_from G (Some k) = set_done (without G k)
remove_from G None = set_refused NoGate G

-- What removing a gate answers and leaves.
unfoldable pub remove_of : ℕ → Gates → ℕ → ByteAddr → GatesSet
remove_of D G d a = set_if_in_order (place_refusal D G.count d Return a.0) G (remove_from G (place_of G d a.0))
