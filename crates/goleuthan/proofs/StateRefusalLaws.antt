-- A refused call on a lent state leaves the state as it came, and its result words are zero. Assumes nothing.
use Prim.Native.Nat.{ℕ}
use mathlib.Core.Path.{◌≡◌, refl, ap, ◌∙◌}
use mathlib.Core.Logic.{◌≢◌}
use mathlib.Core.Bool.{Bool, true, false, cond, ◌&&◌}
use mathlib.Core.List.{List, [], ◌∷◌}
use borrow.Author.Tests.{eqb-true}
use lib.Dec.{eqb}
use lib.ListN.{length}
use Rattle.std.specs.Prelude.{Option, Some, None, Result, Ok, Err}
use Rattle.refusals.specs.declared.Refusal.{Refusal}
use Rattle.words.specs.declared.ByteAddr.{ByteAddr}
use Rattle.table.specs.declared.Shape.{Shape}
use Rattle.table.specs.declared.Deciding.{Deciding}
use Rattle.table.specs.Fresh.{made_number}
use Rattle.table.specs.Access.{passes_of}
use Rattle.table.specs.Lookup.{lookup_of}
use Rattle.lookaside.specs.declared.Slot.{Slot}
use Rattle.lookaside.specs.declared.Verdict.{Verdict}
use Rattle.lookaside.specs.declared.Verdict.TheVariants.{Pass, Deny}
use Rattle.lookaside.specs.Slots.{Buffer, first_match}
use Rattle.lookaside.specs.Check.{Checked, walked, answered, check_of, numbers as verdictNumbers}
use Rattle.lookaside.specs.Flushes.{Flushed}
use Rattle.lookaside.proofs.CheckLaws.{check_cases}
use Rattle.gates.specs.declared.Gate.{Gate}
use Rattle.gates.specs.declared.Stepped.{Stepped}
use Rattle.gates.specs.declared.Stepped.TheVariants.{Pass as StepPass, Deny as StepDeny}
use Rattle.gates.specs.States.{Gates, GatesSet, Step}
use Rattle.gates.specs.Gates.{set_of, remove_of}
use Rattle.gates.specs.Steps.{step_of, numbers as stepNumbers}
use Rattle.theory.proofs.Logic.{and_both}
use Rattle.gates.proofs.SetLaws.{set_refusal_keeps, remove_refusal_keeps}
use Rattle.gates.proofs.StepLaws.{step_moves, moves_unless_pass}
use Rattle.goleuthan.specs.Out.{out_with, wrong_length}
use Rattle.goleuthan.specs.Calls.{shape_long, shape_in}
use Rattle.goleuthan.specs.StateCalls.{state_after, Back, back, verdict_results, checked_back, check_call}
use Rattle.goleuthan.specs.StateCalls.{flushed_kept, flush_call, gates_kept, gates_call, step_results, stepped_back}
use Rattle.goleuthan.specs.StateCalls.{step_call}
use Rattle.lookaside.specs.Layout.{buffer_long, buffer_of, buffer_words}
use Rattle.lookaside.proofs.LayoutLaws.{buffer_words_lem}
use Rattle.gates.specs.Layout.{gates_long, gates_of, gates_words, stack_long, stack_of, stack_words}
use Rattle.gates.proofs.LayoutLaws.{gates_words_lem, stack_words_lem}
use Rattle.lookaside.proofs.SaysLaws.{Flushes, refuses, empties}

-- A check that is refused keeps the buffer.
module _ (p : List ℕ) (s : Shape) (b : Buffer) (d kind size a : ℕ) where
  abbrev Keeps : Checked → Type 0
  Keeps c = (verdictNumbers c.verdict).refusal ≢ 0 → c.buffer ≡ b

  walk_keeps : (f : Result Deciding Refusal) → Keeps (walked f b d kind a)
  walk_keeps (Ok x) h = absurd (go (passes_of kind x.right) h)
    where
      go : (t : Bool) → (verdictNumbers (Ok (cond t (Pass x.loads) (Deny x.loads)))).refusal ≢ 0 → ⊥
      go true k = k refl
      go false k = k refl
  walk_keeps (Err r) h = refl

  answer_keeps : (t : Option Slot) → Keeps (answered t p s b d kind a)
  answer_keeps (Some t) h = refl
  answer_keeps None h = walk_keeps (lookup_of p s d a) h

  check_keeps : Keeps (check_of p s b d kind size a)
  check_keeps = check_cases p s b d kind size a Keeps (λ r e h. refl) (λ e. answer_keeps (first_match b.slots d a))

verdict_zeros : (v : Result Verdict Refusal) → (verdictNumbers v).refusal ≢ 0 → verdict_results v ≡ 0 ∷ 0 ∷ []
verdict_zeros (Ok (Pass n)) h = absurd (h refl)
verdict_zeros (Ok (Deny n)) h = absurd (h refl)
verdict_zeros (Err r) h = refl

module _ (p sh ws : List ℕ) (d kind size a : ℕ) (out : List ℕ) where
  abbrev CheckLeaves : Back → Type 0
  CheckLeaves r = r.number ≢ 0 → (r.state ≡ ws) × (r.out ≡ out_with (0 ∷ 0 ∷ []) out)

  abbrev checked : Checked
  checked = check_of p (shape_in sh) (buffer_of ws) d kind size a

  pub check_call_refused : CheckLeaves (check_call p sh ws d kind size a out)
  unfolding check_call
  check_call_refused = go (eqb (length sh) shape_long && eqb (length ws) buffer_long) refl
    where
      go : (t : Bool) → (eqb (length sh) shape_long && eqb (length ws) buffer_long) ≡ t
          → CheckLeaves (cond t (checked_back checked out) (back wrong_length ws (out_with (0 ∷ 0 ∷ []) out)))
      go true e h =
          let l = and_both (eqb (length sh) shape_long) (eqb (length ws) buffer_long) e in (
            ap buffer_words (check_keeps p (shape_in sh) (buffer_of ws) d kind size a h)
                ∙ buffer_words_lem ws (eqb-true (length ws) buffer_long l.1),
            ap (λ l. out_with l out) (verdict_zeros checked.verdict h),
          )
      go false e h = (refl, refl)

-- A flush that is refused keeps the buffer.
flush_keeps : {b : Buffer} {r : Flushed} → Flushes b r → made_number r.answer ≢ 0 → r.buffer ≡ b
flush_keeps (refuses n) h = refl
flush_keeps (empties f) h = absurd (h refl)

pub flush_call_refused : (f : Buffer → Flushed) → ((b : Buffer) → Flushes b (f b)) → (ws : List ℕ)
    → (flush_call f ws).number ≢ 0 → (flush_call f ws).state ≡ ws
unfolding flush_call
flush_call_refused f x ws = go (eqb (length ws) buffer_long) refl
  where
    go : (t : Bool) → eqb (length ws) buffer_long ≡ t → let r = cond t (flushed_kept (f (buffer_of ws)))
        (state_after wrong_length ws) in r.number ≢ 0 → r.state ≡ ws
    go true e h = ap buffer_words (flush_keeps (x (buffer_of ws)) h) ∙ buffer_words_lem ws (eqb-true (length ws) buffer_long e)
    go false e h = refl

-- An answer whose number is not 0 is a refusal.
is_refusal : (r : Result (Unit {0}) Refusal) → made_number r ≢ 0 → (k : Refusal) × (r ≡ Err k)
is_refusal (Ok _) h = absurd (h refl)
is_refusal (Err k) h = (k, refl)

-- Setting and removing, where a refusal keeps the set.
pub gates_call_refused : (f : Gates → GatesSet)
    → ((G : Gates) (k : Refusal) → (f G).answer ≡ Err k → (f G).gates ≡ G) → (ws : List ℕ)
    → (gates_call f ws).number ≢ 0
    → (gates_call f ws).state ≡ ws
unfolding gates_call
gates_call_refused f x ws = go (eqb (length ws) gates_long) refl
  where
    go : (t : Bool) → eqb (length ws) gates_long ≡ t → let r = cond t (gates_kept (f (gates_of ws)))
        (state_after wrong_length ws) in r.number ≢ 0 → r.state ≡ ws
    go true e h =
        let (k, z) = is_refusal (f (gates_of ws)).answer h in
        ap gates_words (x (gates_of ws) k z) ∙ gates_words_lem ws (eqb-true (length ws) gates_long e)
    go false e h = refl

pub set_call_refused : (D : ℕ) (ws : List ℕ) (d : ℕ) (a : ByteAddr) (x : Gate)
    → let r = gates_call (λ G. set_of D G d a x) ws in r.number ≢ 0 → r.state ≡ ws
set_call_refused D ws d a x = gates_call_refused (λ G. set_of D G d a x) (λ G. set_refusal_keeps D G d a x) ws

pub remove_call_refused : (D : ℕ) (ws : List ℕ) (d : ℕ) (a : ByteAddr) → let r = gates_call (λ G. remove_of D G d a)
    ws in r.number ≢ 0 → r.state ≡ ws
remove_call_refused D ws d a = gates_call_refused (λ G. remove_of D G d a) (λ G. remove_refusal_keeps D G d a) ws

-- A step.
step_zeros : (r : Result Stepped Refusal) → (stepNumbers r).refusal ≢ 0
    → (r ≡ Ok StepPass → ⊥) × (step_results r ≡ 0 ∷ [])
step_zeros (Ok StepPass) h = absurd (h refl)
step_zeros (Ok StepDeny) h = absurd (h refl)
step_zeros (Err r) h = ((λ e. cc), refl)

module _ (p sh gs ws : List ℕ) (a t : ℕ) (out : List ℕ) where
  abbrev StepLeaves : Back → Type 0
  StepLeaves r = r.number ≢ 0 → (r.state ≡ ws) × (r.out ≡ out_with (0 ∷ []) out)

  abbrev step : Step
  step = step_of p (shape_in sh) (gates_of gs) (stack_of ws) (record { 0 = a }) (record { 0 = t })

  abbrev long : Bool
  long = eqb (length sh) shape_long && eqb (length gs) gates_long && eqb (length ws) stack_long

  pub step_call_refused : StepLeaves (step_call p sh gs ws a t out)
  unfolding step_call
  step_call_refused = go long refl
    where
      go : (x : Bool) → long ≡ x
          → StepLeaves (cond x (stepped_back step out) (back wrong_length ws (out_with (0 ∷ []) out)))
      go true e h =
          let z = step_zeros step.answer h in
          let l = and_both (eqb (length sh) shape_long && eqb (length gs) gates_long) (eqb (length ws) stack_long) e in (
            ap stack_words (moves_unless_pass (step_moves p (shape_in sh) (gates_of gs) (stack_of ws) (record { 0 = a })
                (record { 0 = t })) z.0)
                ∙ stack_words_lem ws (eqb-true (length ws) stack_long l.1),
            ap (λ r. out_with r out) z.1,
          )
      go false e h = (refl, refl)
