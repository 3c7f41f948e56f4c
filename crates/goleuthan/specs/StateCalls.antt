-- What each call on a lent state gives back: the library's answer for the state that the words say, as words; 101
-- before all else where the words of a state, or of the shape lent with it, are not as many as the layout has.
use Rattle.std.specs.Prelude.{ℕ, cond, ◌&&◌, Result, List, [], ◌∷◌, eqb, length}
use Rattle.refusals.specs.declared.Refusal.{Refusal}
use Rattle.table.specs.Fresh.{made_number}
use Rattle.lookaside.specs.declared.Verdict.{Verdict}
use Rattle.lookaside.specs.Slots.{Buffer}
use Rattle.lookaside.specs.Check.{Checked, check_of, numbers as verdictNumbers}
use Rattle.lookaside.specs.Flushes.{Flushed, flushed_whole, flushed_domain, flushed_region}
use Rattle.lookaside.specs.Layout.{buffer_long, buffer_of, buffer_words}
use Rattle.gates.specs.declared.Gate.{Gate}
use Rattle.gates.specs.declared.Gate.TheVariants.{Switch, Return}
use Rattle.gates.specs.declared.Stepped.{Stepped}
use Rattle.gates.specs.States.{Gates, GatesSet, Step}
use Rattle.gates.specs.Gates.{set_of, remove_of}
use Rattle.gates.specs.Steps.{step_of, numbers as stepNumbers}
use Rattle.gates.specs.Layout.{gates_long, gates_of, gates_words, stack_long, stack_of, stack_words}
use Rattle.goleuthan.specs.Out.{out_with, wrong_length}
use Rattle.goleuthan.specs.Calls.{shape_long, shape_in}

-- What a call on a state leaves: the number, and the words of the state.
pub record StateAfter : Type 0 where
  pub number : ℕ
  pub state : List ℕ

abbrev pub state_after : ℕ → List ℕ → StateAfter
state_after n ws = record { number = n; state = ws }

-- The same with the words of `out`.
pub record Back : Type 0 where
  pub number : ℕ
  pub state : List ℕ
  pub out : List ℕ

abbrev pub back : ℕ → List ℕ → List ℕ → Back
back n ws out = record { number = n; state = ws; out = out }

-- The result words of a check: verdict, loads.
abbrev pub verdict_results : Result Verdict Refusal → List ℕ
verdict_results v = (verdictNumbers v).verdict ∷ (verdictNumbers v).loads ∷ []

-- A check that was made, as words.
abbrev pub checked_back : Checked → List ℕ → Back
checked_back c out = back (verdictNumbers c.verdict).refusal (buffer_words c.buffer)
    (out_with (verdict_results c.verdict) out)

-- What gol_check gives back, of the lent shape `sh` and the buffer's words `ws`.
unfoldable pub check_call : List ℕ → List ℕ → List ℕ → ℕ → ℕ → ℕ → ℕ → List ℕ → Back
check_call p sh ws d kind size a out =
    cond (eqb (length sh) shape_long && eqb (length ws) buffer_long)
    (checked_back (check_of p (shape_in sh) (buffer_of ws) d kind size a) out)
    (back wrong_length ws (out_with (0 ∷ 0 ∷ []) out))

-- A flush that was made, as words.
abbrev pub flushed_kept : Flushed → StateAfter
flushed_kept f = state_after (made_number f.answer) (buffer_words f.buffer)

-- What a flush gives back, of the buffer's words `ws`, by what it leaves of a buffer.
unfoldable pub flush_call : (Buffer → Flushed) → List ℕ → StateAfter
flush_call f ws = cond (eqb (length ws) buffer_long) (flushed_kept (f (buffer_of ws))) (state_after wrong_length ws)

-- What gol_flush_all gives back.
abbrev pub flush_all_call : List ℕ → StateAfter
flush_all_call ws = flush_call flushed_whole ws

-- What gol_flush_domain gives back.
abbrev pub flush_domain_call : List ℕ → ℕ → StateAfter
flush_domain_call ws d = flush_call (λ b. flushed_domain b d) ws

-- What gol_flush_region gives back.
abbrev pub flush_region_call : List ℕ → ℕ → ℕ → ℕ → StateAfter
flush_region_call ws d start len = flush_call (λ b. flushed_region b d start len) ws

-- A gate set or removed, as words.
abbrev pub gates_kept : GatesSet → StateAfter
gates_kept r = state_after (made_number r.answer) (gates_words r.gates)

-- What setting or removing a gate gives back, of the set's words `ws`, by what it leaves of a set.
unfoldable pub gates_call : (Gates → GatesSet) → List ℕ → StateAfter
gates_call f ws = cond (eqb (length ws) gates_long) (gates_kept (f (gates_of ws))) (state_after wrong_length ws)

-- What setting the gate `x` gives back.
abbrev pub set_call : ℕ → List ℕ → ℕ → ℕ → Gate → StateAfter
set_call D ws d a x = gates_call (λ G. set_of D G d (record { 0 = a }) x) ws

-- What gol_set_switch_gate gives back.
abbrev pub set_switch_call : ℕ → List ℕ → ℕ → ℕ → ℕ → StateAfter
set_switch_call D ws d a e = set_call D ws d a (Switch e)

-- What gol_set_return_gate gives back.
abbrev pub set_return_call : ℕ → List ℕ → ℕ → ℕ → StateAfter
set_return_call D ws d a = set_call D ws d a Return

-- What gol_remove_gate gives back.
abbrev pub remove_call : ℕ → List ℕ → ℕ → ℕ → StateAfter
remove_call D ws d a = gates_call (λ G. remove_of D G d (record { 0 = a })) ws

-- The result word of a step: the verdict.
abbrev pub step_results : Result Stepped Refusal → List ℕ
step_results r = (stepNumbers r).pass ∷ []

-- A step that was made, as words.
abbrev pub stepped_back : Step → List ℕ → Back
stepped_back r out = back (stepNumbers r.answer).refusal (stack_words r.stack)
    (out_with (step_results r.answer) out)

-- What gol_step gives back, of the lent shape `sh`, the gate set's words `gs` and the stack's `ws`, each of which may
-- be of the wrong length.
unfoldable pub step_call : List ℕ → List ℕ → List ℕ → List ℕ → ℕ → ℕ → List ℕ → Back
step_call p sh gs ws a t out =
    cond (eqb (length sh) shape_long && eqb (length gs) gates_long && eqb (length ws) stack_long)
    (stepped_back (step_of p (shape_in sh) (gates_of gs) (stack_of ws) (record { 0 = a }) (record { 0 = t })) out)
    (back wrong_length ws (out_with (0 ∷ []) out))
