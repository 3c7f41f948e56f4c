-- Each call has one outcome: one number, one pool, and one content of each lent slice. Assumes nothing.
use Prim.Native.Nat.{ℕ}
use mathlib.Core.Path.{◌≡◌, refl, sym, ap, ◌∙◌}
use mathlib.Core.List.{List}
use Rattle.std.specs.Prelude.{Result}
use Rattle.refusals.specs.declared.Refusal.{Refusal}
use Rattle.table.specs.declared.Deciding.{Deciding}
use Rattle.table.specs.Fresh.{made_number}
use Rattle.table.specs.Lookup.{numbers as foundNumbers}
use Rattle.table.proofs.FreshLaws.{one_fresh}
use Rattle.table.proofs.LookupLaws.{one_lookup}
use Rattle.change.specs.declared.Ending.{Ending}
use Rattle.change.proofs.ChangesLaws.{one_change}
use Rattle.change.proofs.TidiesLaws.{one_tidy}
use Rattle.owners.specs.Calls.{Numbers, told}
use Rattle.owners.proofs.ByLaws.{one_change_by}
use Rattle.listing.specs.Listing.{numbers as listedNumbers}
use Rattle.listing.proofs.ListingLaws.{one_listing}
use Rattle.goleuthan.specs.Out.{out_with}
use Rattle.goleuthan.specs.Calls.{shape_in, answer_number, found_results, answer_results, listed_results, FreshCall}
use Rattle.goleuthan.specs.Calls.{LookupCall, ChangeCall, ChangeByCall, TidyCall, ListCall, length_wrong, shaped}
use Rattle.goleuthan.specs.StateCalls.{Back, StateAfter, back, state_after}

-- One answer and one pool are one number, one pool and one result.
answered : {a b : Result Ending Refusal} {q r : List ℕ} (out : List ℕ) → (a ≡ b) × (q ≡ r)
    → (answer_number a ≡ answer_number b) × (q ≡ r) × (out_with (answer_results a) out ≡ out_with (answer_results b) out)
answered out e = (ap answer_number e.0, e.1, ap (λ (a : Result Ending Refusal). out_with (answer_results a) out) e.0)

module _ {p sh : List ℕ} where
  pub one_fresh_call : {m n : ℕ} {q r : List ℕ} → FreshCall p sh m q → FreshCall p sh n r → (m ≡ n) × (q ≡ r)
  one_fresh_call (length_wrong f) (length_wrong g) = (refl, refl)
  one_fresh_call (length_wrong f) (shaped h k q x) = absurd (f h)
  one_fresh_call (shaped h k q x) (length_wrong f) = absurd (f h)
  one_fresh_call (shaped h k q x) (shaped i l r y) =
      let e = one_fresh x y in (ap made_number e.0, e.1)

  pub one_lookup_call : {d a m n : ℕ} {out t u : List ℕ} → LookupCall p sh d a out m t → LookupCall p sh d a out n u
      → (m ≡ n) × (t ≡ u)
  one_lookup_call (length_wrong f) (length_wrong g) = (refl, refl)
  one_lookup_call (length_wrong f) (shaped h k x) = absurd (f h)
  one_lookup_call (shaped h k x) (length_wrong f) = absurd (f h)
  one_lookup_call {out = out} (shaped h k x) (shaped i l y) =
      let e = one_lookup x y in (
        ap (λ (f : Result Deciding Refusal). (foundNumbers f).refusal) e,
        ap (λ (f : Result Deciding Refusal). out_with (found_results f) out) e,
      )

  pub one_change_call : {d start len right allowance m n : ℕ} {out q r t u : List ℕ}
      → ChangeCall p sh d start len right allowance out m q t
      → ChangeCall p sh d start len right allowance out n r u → (m ≡ n) × (q ≡ r) × (t ≡ u)
  one_change_call (length_wrong f) (length_wrong g) = (refl, refl, refl)
  one_change_call (length_wrong f) (shaped h k q x) = absurd (f h)
  one_change_call (shaped h k q x) (length_wrong f) = absurd (f h)
  one_change_call {out = out} (shaped h k q x) (shaped i l r y) = answered out (one_change x y)

  pub one_change_by_call : {list : List ℕ} {caller d start len right allowance m n : ℕ} {out q r t u : List ℕ}
      → ChangeByCall p sh list caller d start len right allowance out m q t
      → ChangeByCall p sh list caller d start len right allowance out n r u → (m ≡ n) × (q ≡ r) × (t ≡ u)
  one_change_by_call (length_wrong f) (length_wrong g) = (refl, refl, refl)
  one_change_by_call (length_wrong f) (shaped h k q x) = absurd (f h)
  one_change_by_call (shaped h k q x) (length_wrong f) = absurd (f h)
  one_change_by_call {out = out} (shaped h k q x) (shaped i l r y) = answered out (one_change_by x y)

  pub one_tidy_call : {allowance m n : ℕ} {out q r t u : List ℕ} → TidyCall p sh allowance out m q t
      → TidyCall p sh allowance out n r u
      → (m ≡ n) × (q ≡ r) × (t ≡ u)
  one_tidy_call (length_wrong f) (length_wrong g) = (refl, refl, refl)
  one_tidy_call (length_wrong f) (shaped h k q x) = absurd (f h)
  one_tidy_call (shaped h k q x) (length_wrong f) = absurd (f h)
  one_tidy_call {out = out} (shaped h k q x) (shaped i l r y) = answered out (one_tidy x y)

  pub one_list_call : {from m n : ℕ} {runs out q r t u : List ℕ} → ListCall p sh from runs out m q t
      → ListCall p sh from runs out n r u
      → (m ≡ n) × (q ≡ r) × (t ≡ u)
  one_list_call (length_wrong f) (length_wrong g) = (refl, refl, refl)
  one_list_call (length_wrong f) (shaped h k q x) = absurd (f h)
  one_list_call (shaped h k q x) (length_wrong f) = absurd (f h)
  one_list_call {from = from} {runs = runs} {out = out} (shaped h k q x) (shaped i l r y) =
      let e = one_listing p (shape_in sh) from runs x y in (
        ap (λ (l : Result ℕ Refusal). (listedNumbers l).refusal) e.0,
        e.1,
        ap (λ (l : Result ℕ Refusal). out_with (listed_results l) out) e.0,
      )

-- A check or a step, of which the contract says what comes back whole.
pub one_back : {c : Back} {m n : ℕ} {q r t u : List ℕ} → back m q t ≡ c → back n r u ≡ c → (m ≡ n) × (q ≡ r) × (t ≡ u)
one_back x y = let e = x ∙ sym y in (ap (λ b. b.number) e, ap (λ b. b.state) e, ap (λ b. b.out) e)

-- A flush, or the setting or removing of a gate.
pub one_kept : {c : StateAfter} {m n : ℕ} {q r : List ℕ} → state_after m q ≡ c → state_after n r ≡ c → (m ≡ n) × (q ≡ r)
one_kept x y = let e = x ∙ sym y in (ap (λ b. b.number) e, ap (λ b. b.state) e)

-- A call on a list of owned regions.
pub one_outcome : {c : Numbers} {m n : ℕ} {q r : List ℕ} → told m q ≡ c → told n r ≡ c → (m ≡ n) × (q ≡ r)
one_outcome x y = let e = x ∙ sym y in (ap (λ b. b.refusal) e, ap (λ b. b.list) e)
