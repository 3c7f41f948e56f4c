-- Checks: which accesses there are, what is refused and in which order, and what a check answers.
use Rattle.std.specs.Prelude.{ℕ, ◌%◌, Bool, cond, ◌&&◌, ◌||◌, List, length, eqb, ltb, Option, Some, None}
use Rattle.std.specs.Prelude.{Result, Ok, Err}
use Rattle.refusals.specs.declared.Refusal.{Refusal}
use Rattle.refusals.specs.declared.Refusal.TheVariants.{NoShape, NoDomain, NoAccess, NotAligned, BadState}
use Rattle.refusals.specs.Refusals.{number}
use Rattle.table.specs.declared.Shape.{Shape}
use Rattle.table.specs.declared.Deciding.{Deciding}
use Rattle.table.specs.Shape.{fits_of}
use Rattle.table.specs.Lookup.{lookup_of}
use Rattle.table.specs.Access.{load, store, fetch, passes_of}
use Rattle.lookaside.specs.declared.Slot.{Slot}
use Rattle.lookaside.specs.declared.Verdict.{Verdict}
use Rattle.lookaside.specs.declared.Verdict.TheVariants.{Pass, Deny}
use Rattle.lookaside.specs.Slots.{Buffer, first_match, slot_right, slot_for, filled}

-- A check: what it says, and the buffer that its words then say.
pub record Checked : Type 0 where
  pub verdict : Result Verdict Refusal
  pub buffer : Buffer

-- The paper's numbers for what comes back.
pub record Numbers : Type 0 where
  pub refusal : ℕ
  pub verdict : ℕ
  pub loads : ℕ

-- The verdict pass is 1 and deny is 0; a refusal is its number with all other results zero.
abbrev pub numbers : Result Verdict Refusal → Numbers
numbers (Ok (Pass n)) = record { refusal = 0; verdict = 1; loads = n }
numbers (Ok (Deny n)) = record { refusal = 0; verdict = 0; loads = n }
numbers (Err e) = record { refusal = number e; verdict = 0; loads = 0 }

-- The numbers but for the loads, which alone depend on what the buffer held.
abbrev pub without_loads : Result Verdict Refusal → Numbers
without_loads v = record { refusal = (numbers v).refusal; verdict = (numbers v).verdict; loads = 0 }

-- Loads and stores are of 1, 2 or 4 bytes, fetches of 4.
abbrev pub is_access : ℕ → ℕ → Bool
is_access kind size =
    cond (eqb kind load || eqb kind store) (eqb size 1 || eqb size 2 || eqb size 4) (eqb kind fetch && eqb size 4)

-- The refusal `e` where the test fails; what comes after it where it holds.
abbrev pub demand : Bool → Refusal → Result (Unit {0}) Refusal → Result (Unit {0}) Refusal
demand test e rest = cond test rest (Err e)

-- Whether a check of a pool of `long` words and a buffer whose pointer is `next` is refused before any slot is asked.
unfoldable pub refusal_of : Shape → ℕ → ℕ → ℕ → ℕ → ℕ → ℕ → Result (Unit {0}) Refusal
refusal_of s long next d kind size a =
    demand (fits_of s long) NoShape
    (demand (ltb next 64) BadState
    (demand (ltb d s.domains) NoDomain
    (demand (is_access kind size) NoAccess
    (demand (eqb (a % size) 0) NotAligned
    (Ok tt)))))

-- The verdict on a right that was found with `n` loads.
abbrev pub verdict_of : ℕ → ℕ → ℕ → Verdict
verdict_of kind right n = cond (passes_of kind right) (Pass n) (Deny n)

-- A refusal gives back the buffer that came in.
abbrev pub refusing : Refusal → Buffer → Checked
refusing e b = record { verdict = Err e; buffer = b }

-- A miss, by what the lookup found: pass or deny, the slot at the pointer is filled.
abbrev pub walked : Result Deciding Refusal → Buffer → ℕ → ℕ → ℕ → Checked
walked (Ok x) b d kind a =
    record { verdict = Ok (verdict_of kind x.right x.loads); buffer = filled b (slot_for d a x.entry x.loads) }
walked (Err e) b d kind a = refusing e b

-- A check that is not refused, by the slot that answers: with 0 loads, or by a walk.
abbrev pub answered : Option Slot → List ℕ → Shape → Buffer → ℕ → ℕ → ℕ → Checked
answered (Some t) p s b d kind a = record { verdict = Ok (verdict_of kind (slot_right t a) 0); buffer = b }
answered None p s b d kind a = walked (lookup_of p s d a) b d kind a

-- A check that would be `c`, by whether it is refused before it asks the buffer.
abbrev pub unless_refused : Result (Unit {0}) Refusal → Buffer → Checked → Checked
unless_refused (Ok _) b c = c
unless_refused (Err e) b c = refusing e b

-- What a check for domain `d` of an access of a kind and a size at the address `a` answers.
unfoldable pub check_of : List ℕ → Shape → Buffer → ℕ → ℕ → ℕ → ℕ → Checked
check_of p s b d kind size a =
    unless_refused (refusal_of s (length p) b.next d kind size a) b
    (answered (first_match b.slots d a) p s b d kind a)

-- ---- The same in two parts: what a check decides, and what is then done to the buffer.

-- What a check decides: what it says, and the slot that is kept, if one is.
pub record Ruling : Type 0 where
  pub verdict : Result Verdict Refusal
  pub fill : Option Slot

-- A miss, by what the lookup found.
abbrev pub walk_decided : Result Deciding Refusal → ℕ → ℕ → ℕ → Ruling
walk_decided (Ok x) d kind a =
    record { verdict = Ok (verdict_of kind x.right x.loads); fill = Some (slot_for d a x.entry x.loads) }
walk_decided (Err e) d kind a = record { verdict = Err e; fill = None }

-- A check that is not refused, by the slot that answers.
abbrev pub hit_decided : Option Slot → List ℕ → Shape → ℕ → ℕ → ℕ → Ruling
hit_decided (Some t) p s d kind a = record { verdict = Ok (verdict_of kind (slot_right t a) 0); fill = None }
hit_decided None p s d kind a = walk_decided (lookup_of p s d a) d kind a

-- One that would decide `x`, by whether it is refused before it asks the buffer.
abbrev pub decided_unless : Result (Unit {0}) Refusal → Ruling → Ruling
decided_unless (Ok _) x = x
decided_unless (Err e) x = record { verdict = Err e; fill = None }

-- What a check decides, by the pointer and the lowest slot that matches.
unfoldable pub decide_of : List ℕ → Shape → ℕ → Option Slot → ℕ → ℕ → ℕ → ℕ → Ruling
decide_of p s next h d kind size a =
    decided_unless (refusal_of s (length p) next d kind size a) (hit_decided h p s d kind a)

-- What is done to a buffer.
abbrev pub filled_by : Buffer → Option Slot → Buffer
filled_by b None = b
filled_by b (Some t) = filled b t
