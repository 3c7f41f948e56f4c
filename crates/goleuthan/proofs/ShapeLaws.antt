-- A lent shape of another form than the paper's, or with a V, is refused 1 by every call, whatever else is wrong but a
-- length. Assumes nothing.
use Prim.Native.Nat.{ℕ}
use mathlib.Core.Path.{◌≡◌, ap}
use mathlib.Core.Bool.{false}
use mathlib.Core.List.{List}
use native.Mathlib.Decide.{ℕ_discrete}
use native.Mathlib.Omega.{arith}
use borrow.Author.Tests.{eq-eqb, ne_eqb}
use lib.ListN.{length, get_or}
use Rattle.std.specs.Prelude.{Result, Err}
use Rattle.refusals.specs.declared.Refusal.{Refusal}
use Rattle.refusals.specs.declared.Refusal.TheVariants.{NoShape}
use Rattle.table.specs.declared.Deciding.{Deciding}
use Rattle.table.specs.Shape.{Fits, fits_of}
use Rattle.table.specs.Lookup.{numbers as foundNumbers}
use Rattle.change.specs.Answers.{no_shape}
use Rattle.listing.specs.Listing.{no_shape as list-no-shape}
use Rattle.lookaside.specs.Check.{refusal_of, check_of}
use Rattle.gates.specs.Steps.{step_refusal, step_of}
use Rattle.lookaside.specs.Layout.{buffer_long}
use Rattle.gates.specs.Layout.{gates_long, stack_long}
use Rattle.goleuthan.specs.Calls.{shape_long, eights, shape_in, FreshCall, LookupCall, ChangeCall, TidyCall}
use Rattle.goleuthan.specs.Calls.{ListCall, length_wrong, shaped}
use Rattle.goleuthan.specs.StateCalls.{check_call, step_call}
use Rattle.goleuthan.proofs.UniqueLaws.{one_fresh_call, one_change_call, one_tidy_call, one_list_call}

-- A shape as long as one, whose form and V are not the paper's.
pub record OtherForm (sh : List ℕ) : Type 0 where
  pub long : length sh ≡ shape_long
  pub other : get_or sh 0 0 ≡ eights → get_or sh 4 0 ≡ 0 → ⊥

-- It says no domain, and so fits no pool.
no_domains : {sh : List ℕ} → OtherForm sh → (shape_in sh).domains ≡ 0
no_domains {sh} h = elim (ℕ_discrete (get_or sh 0 0) eights) [
  | yes e ↦ elim (ℕ_discrete (get_or sh 4 0) 0) [
    | yes f ↦ absurd (h.other e f)
    | no f ↦ rw (eq-eqb (get_or sh 0 0) eights e, ne_eqb (get_or sh 4 0) 0 f)
  ]
  | no e ↦ rw (ne_eqb (get_or sh 0 0) eights e)
]

pub other_unfit : {sh : List ℕ} → OtherForm sh → (n : ℕ) → fits_of (shape_in sh) n ≡ false
other_unfit h n = rw (no_domains h)

not_fits : {sh : List ℕ} → OtherForm sh → (n : ℕ) → Fits (shape_in sh) n → ⊥
not_fits h n f = let e = no_domains h in let l = f.range.some_domain in omega arith

module _ {p sh : List ℕ} (h : OtherForm sh) where
  pub fresh_other : {n : ℕ} {q : List ℕ} → FreshCall p sh n q → n ≡ 1
  fresh_other x =
      let e = other_unfit h (length p) in
      (one_fresh_call x (shaped h.long (Err NoShape) p (record { answer = rw e; pool = rw e }))).0

  pub lookup_other : {d a n : ℕ} {out res : List ℕ} → LookupCall p sh d a out n res → n ≡ 1
  lookup_other (length_wrong f) = absurd (f h.long)
  lookup_other (shaped l f x) =
      rw (other_unfit h (length p)) at (ap (λ (y : Result Deciding Refusal). (foundNumbers y).refusal) x.answer)

  pub change_other : {d start len right allowance n : ℕ} {out q res : List ℕ}
      → ChangeCall p sh d start len right allowance out n q res → n ≡ 1
  change_other x = (one_change_call x (shaped h.long (Err NoShape) p (no_shape (not_fits h (length p))))).0

  pub tidy_other : {allowance n : ℕ} {out q res : List ℕ} → TidyCall p sh allowance out n q res → n ≡ 1
  tidy_other x = (one_tidy_call x (shaped h.long (Err NoShape) p (no_shape (not_fits h (length p))))).0

  pub list_other : {from n : ℕ} {runs out shown res : List ℕ} → ListCall p sh from runs out n shown res → n ≡ 1
  list_other {runs = runs} x =
      (one_list_call x (shaped h.long (Err NoShape) runs (list-no-shape (not_fits h (length p))))).0

module _ (p : List ℕ) {sh : List ℕ} (h : OtherForm sh) where
  pub check_other : (ws : List ℕ) (d kind size a : ℕ) (out : List ℕ) → length ws ≡ buffer_long
      → (check_call p sh ws d kind size a out).number ≡ 1
  unfolding check_call check_of refusal_of
  check_other ws d kind size a out l =
      rw (eq-eqb (length sh) shape_long h.long, eq-eqb (length ws) buffer_long l, other_unfit h (length p))

  pub step_other : (gs ws : List ℕ) (a t : ℕ) (out : List ℕ) → length gs ≡ gates_long → length ws ≡ stack_long
      → (step_call p sh gs ws a t out).number ≡ 1
  unfolding step_call step_of step_refusal
  step_other gs ws a t out g l =
      rw (
        eq-eqb (length sh) shape_long h.long,
        eq-eqb (length gs) gates_long g,
        eq-eqb (length ws) stack_long l,
        other_unfit h (length p),
      )
