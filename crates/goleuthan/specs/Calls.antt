-- What each call on a pool gives back. Where the lent shape is not five words long: 101 before all else, with nothing
-- touched and zeros in the result words. Else the library's promise holds of some answer on the shape that the words
-- say, and the number and the result words are that answer's.
use Rattle.std.specs.Prelude.{ℕ, ◌≡◌, cond, ◌&&◌, Result, List, [], ◌∷◌, eqb, length, get_or}
use Rattle.refusals.specs.declared.Refusal.{Refusal}
use Rattle.table.specs.declared.Shape.{Shape}
use Rattle.table.specs.declared.Deciding.{Deciding}
use Rattle.table.specs.Fresh.{MakesFresh, made_number}
use Rattle.table.specs.Lookup.{LooksUp, numbers as foundNumbers}
use Rattle.change.specs.declared.Ending.{Ending}
use Rattle.change.specs.Answers.{Changes, Tidies, numbers as answerNumbers}
use Rattle.listing.specs.Listing.{Lists, numbers as listedNumbers}
use Rattle.owners.specs.Changes.{ChangesBy}
use Rattle.goleuthan.specs.Out.{out_with, wrong_length, was_cut, in_one_word}

-- The words of a lent shape: form, D, M, L, V.
abbrev pub shape_long : ℕ
shape_long = 5

-- The paper's form, eight rights an entry, whose V is 0: the only form yet.
abbrev pub eights : ℕ
eights = 0

-- D where form and V are the paper's; else 0, which fits no pool, so that every call refuses it 1 before all else.
abbrev pub domains_by : ℕ → ℕ → ℕ → ℕ
domains_by form d v = cond (eqb form eights && eqb v 0) d 0

-- The shape that the five words of a lent shape say.
abbrev pub shape_in : List ℕ → Shape
shape_in sh = record {
  domains = domains_by (get_or sh 0 0) (get_or sh 1 0) (get_or sh 4 0);
  middles = get_or sh 2 0;
  leaves = get_or sh 3 0;
}

-- The number of a change or a tidying: 0 done, 100 cut, else the paper's.
abbrev pub answer_number : Result Ending Refusal → ℕ
answer_number a = cond (eqb (answerNumbers a).cuts 1) was_cut (answerNumbers a).refusal

-- The result words of a lookup: right, entry, loads, first byte, last byte.
abbrev pub found_results : Result Deciding Refusal → List ℕ
found_results f = let n = foundNumbers f in n.right ∷ n.entry ∷ n.loads ∷ n.first ∷ n.last ∷ []

-- The result word of a change or a tidying: the stores made, 0 for a cut.
abbrev pub answer_results : Result Ending Refusal → List ℕ
answer_results a = (answerNumbers a).stores ∷ []

-- The result word of a listing: how many runs there are.
abbrev pub listed_results : Result ℕ Refusal → List ℕ
listed_results r = in_one_word (listedNumbers r).count ∷ []

-- A lent shape is not of its length.
abbrev pub NotLong : List ℕ → Type 0
NotLong sh = length sh ≡ shape_long → ⊥

-- gol_fresh on the pool `p` with the lent shape `sh`: the number that it returns, and the pool that it leaves.
pub data FreshCall (p sh : List ℕ) : ℕ → List ℕ → Type 0 where
  length_wrong : NotLong sh → FreshCall p sh wrong_length p
  shaped : length sh ≡ shape_long → (made : Result (Unit {0}) Refusal) (q : List ℕ) → MakesFresh (shape_in sh) p made q
      → FreshCall p sh (made_number made) q

-- gol_lookup with the lent words `out`: the number, and what it leaves in them.
pub data LookupCall (p sh : List ℕ) (d a : ℕ) (out : List ℕ) : ℕ → List ℕ → Type 0 where
  length_wrong : NotLong sh → LookupCall p sh d a out wrong_length (out_with (0 ∷ 0 ∷ 0 ∷ 0 ∷ 0 ∷ []) out)
  shaped : length sh ≡ shape_long → (f : Result Deciding Refusal) → LooksUp p (shape_in sh) d a f
      → LookupCall p sh d a out (foundNumbers f).refusal (out_with (found_results f) out)

-- gol_change: the number, the pool that it leaves, and the words of `out`.
pub data ChangeCall (p sh : List ℕ) (d start len r allowance : ℕ) (out : List ℕ) : ℕ → List ℕ → List ℕ → Type 0 where
  length_wrong : NotLong sh → ChangeCall p sh d start len r allowance out wrong_length p (out_with (0 ∷ []) out)
  shaped : length sh ≡ shape_long → (a : Result Ending Refusal) (q : List ℕ)
      → Changes p (shape_in sh) d start len r allowance a q
      → ChangeCall p sh d start len r allowance out (answer_number a) q (out_with (answer_results a) out)

-- gol_change_by: the same, by a caller, beside the words of a list of owned regions, of any length.
pub data ChangeByCall (p sh list : List ℕ) (caller d start len r allowance : ℕ) (out : List ℕ)
    : ℕ → List ℕ → List ℕ → Type 0 where
  length_wrong : NotLong sh → ChangeByCall p sh list caller d start len r allowance out wrong_length p
      (out_with (0 ∷ []) out)
  shaped : length sh ≡ shape_long → (a : Result Ending Refusal) (q : List ℕ)
      → ChangesBy p (shape_in sh) list caller d start len r allowance a q
      → ChangeByCall p sh list caller d start len r allowance out (answer_number a) q (out_with (answer_results a) out)

-- gol_tidy: the same.
pub data TidyCall (p sh : List ℕ) (allowance : ℕ) (out : List ℕ) : ℕ → List ℕ → List ℕ → Type 0 where
  length_wrong : NotLong sh → TidyCall p sh allowance out wrong_length p (out_with (0 ∷ []) out)
  shaped : length sh ≡ shape_long → (a : Result Ending Refusal) (q : List ℕ) → Tidies p (shape_in sh) allowance a q
      → TidyCall p sh allowance out (answer_number a) q (out_with (answer_results a) out)

-- gol_list with the lent words `runs` and `out`: the number, and what it leaves in the two.
pub data ListCall (p sh : List ℕ) (from : ℕ) (runs out : List ℕ) : ℕ → List ℕ → List ℕ → Type 0 where
  length_wrong : NotLong sh → ListCall p sh from runs out wrong_length runs (out_with (0 ∷ []) out)
  shaped : length sh ≡ shape_long → (l : Result ℕ Refusal) (shown : List ℕ) → Lists p (shape_in sh) from runs l shown
      → ListCall p sh from runs out (listedNumbers l).refusal shown (out_with (listed_results l) out)
