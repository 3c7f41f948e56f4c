-- A refused call leaves the pool and the lent slices as they came, and its result words are zero. Assumes nothing.
use Prim.Native.Nat.{ℕ}
use mathlib.Core.Path.{◌≡◌, refl, ap}
use mathlib.Core.Logic.{◌≢◌}
use mathlib.Core.Bool.{Bool, true, false, cond}
use mathlib.Core.List.{List, [], ◌∷◌}
use lib.ListN.{length}
use Rattle.std.specs.Prelude.{Result, Ok, Err}
use Rattle.refusals.specs.declared.Refusal.{Refusal}
use Rattle.refusals.specs.declared.Refusal.TheVariants.{NoShape}
use Rattle.table.specs.declared.Shape.{Shape}
use Rattle.table.specs.declared.Deciding.{Deciding}
use Rattle.table.specs.Shape.{fits_of}
use Rattle.table.specs.Fresh.{fresh_pool, made_number}
use Rattle.table.specs.Lookup.{numbers as foundNumbers}
use Rattle.change.specs.declared.Ending.{Ending}
use Rattle.change.specs.declared.Ending.TheVariants.{Done, Cut}
use Rattle.change.specs.Answers.{Changes, Tidies, no_shape, unsound, done, cut}
use Rattle.change.proofs.ChangesLaws.{change_refused_kept}
use Rattle.owners.specs.Changes.{ChangesBy}
use Rattle.owners.proofs.ByLaws.{by_refused_kept}
use Rattle.listing.specs.Listing.{Lists, numbers as listedNumbers, no_shape as list-no-shape}
use Rattle.listing.specs.Listing.{unsound as list-unsound, listed}
use Rattle.goleuthan.specs.Out.{out_with, was_cut}
use Rattle.goleuthan.specs.Calls.{shape_in, answer_number, found_results, answer_results, listed_results, FreshCall}
use Rattle.goleuthan.specs.Calls.{LookupCall, ChangeCall, ChangeByCall, TidyCall, ListCall, length_wrong, shaped}

-- Making fresh.
pub fresh_refused : {p sh : List ℕ} {n : ℕ} {q : List ℕ} → FreshCall p sh n q → n ≢ 0 → q ≡ p
fresh_refused (length_wrong f) h = refl
fresh_refused {p} {sh} (shaped l made q x) h = go (fits_of (shape_in sh) (length p)) x.answer x.pool
  where
    go : (t : Bool) → made ≡ cond t (Ok tt) (Err NoShape) → q ≡ cond t (fresh_pool (shape_in sh)) p → q ≡ p
    go true e k = absurd (h (ap made_number e))
    go false e k = k

-- A lookup.
found_zeros : (f : Result Deciding Refusal) → (foundNumbers f).refusal ≢ 0 → found_results f ≡ 0 ∷ 0 ∷ 0 ∷ 0 ∷ 0 ∷ []
found_zeros (Ok x) real = absurd (real refl)
found_zeros (Err k) real = refl

pub lookup_refused : {p sh : List ℕ} {d a n : ℕ} {out res : List ℕ} → LookupCall p sh d a out n res → n ≢ 0
    → res ≡ out_with (0 ∷ 0 ∷ 0 ∷ 0 ∷ 0 ∷ []) out
lookup_refused (length_wrong f) h = refl
lookup_refused {out = out} (shaped l f x) h = ap (λ r. out_with r out) (found_zeros f h)

-- A change or a tidying that is neither done nor cut.
abbrev Untouched : List ℕ → Result Ending Refusal → List ℕ → Type 0
Untouched p a q = answer_number a ≢ 0 → answer_number a ≢ was_cut → (q ≡ p) × (answer_results a ≡ 0 ∷ [])

change_untouched : {p : List ℕ} {s : Shape} {d start len r n : ℕ} (a : Result Ending Refusal) {q : List ℕ}
    → Changes p s d start len r n a q → Untouched p a q
change_untouched (Ok (Done m)) x h k = absurd (h refl)
change_untouched (Ok Cut) x h k = absurd (k refl)
change_untouched (Err m) x h k = (change_refused_kept x refl, refl)

by_untouched : {p : List ℕ} {s : Shape} {list : List ℕ} {caller d start len r n : ℕ} (a : Result Ending Refusal) {q : List ℕ}
    → ChangesBy p s list caller d start len r n a q → Untouched p a q
by_untouched (Ok (Done m)) x h k = absurd (h refl)
by_untouched (Ok Cut) x h k = absurd (k refl)
by_untouched (Err m) x h k = (by_refused_kept x, refl)

tidy_untouched : {p : List ℕ} {s : Shape} {n : ℕ} {a : Result Ending Refusal} {q : List ℕ} → Tidies p s n a q → Untouched p a q
tidy_untouched (no_shape f) h k = (refl, refl)
tidy_untouched (unsound f o) h k = (refl, refl)
tidy_untouched (done f o q e) h k = absurd (h refl)
tidy_untouched (cut f o q e) h k = absurd (k refl)

-- The results of a call are its answer's.
untouched : {p q : List ℕ} (out : List ℕ) (a : Result Ending Refusal) → Untouched p a q → answer_number a ≢ 0 → answer_number a
    ≢ was_cut → (q ≡ p) × (out_with (answer_results a) out ≡ out_with (0 ∷ []) out)
untouched out a u h k = let w = u h k in (w.0, ap (λ l. out_with l out) w.1)

pub change_refused : {p sh : List ℕ} {d start len right allowance n : ℕ} {out q res : List ℕ}
    → ChangeCall p sh d start len right allowance out n q res → n ≢ 0 → n ≢ was_cut → (q ≡ p)
    × (res ≡ out_with (0 ∷ []) out)
change_refused (length_wrong f) h k = (refl, refl)
change_refused {out = out} (shaped l a q x) h k = untouched out a (change_untouched a x) h k

pub change_by_refused : {p sh list : List ℕ} {caller d start len right allowance n : ℕ} {out q res : List ℕ}
    → ChangeByCall p sh list caller d start len right allowance out n q res → n ≢ 0 → n ≢ was_cut → (q ≡ p)
    × (res ≡ out_with (0 ∷ []) out)
change_by_refused (length_wrong f) h k = (refl, refl)
change_by_refused {out = out} (shaped l a q x) h k = untouched out a (by_untouched a x) h k

pub tidy_refused : {p sh : List ℕ} {allowance n : ℕ} {out q res : List ℕ}
    → TidyCall p sh allowance out n q res → n ≢ 0 → n ≢ was_cut
    → (q ≡ p) × (res ≡ out_with (0 ∷ []) out)
tidy_refused (length_wrong f) h k = (refl, refl)
tidy_refused {out = out} (shaped l a q x) h k = untouched out a (tidy_untouched x) h k

-- A listing.
listing_untouched : {p : List ℕ} {s : Shape} {from : ℕ} {runs shown : List ℕ} {a : Result ℕ Refusal} → Lists p s from runs a shown
    → (listedNumbers a).refusal ≢ 0 → (shown ≡ runs) × (listed_results a ≡ 0 ∷ [])
listing_untouched (list-no-shape f) real = (refl, refl)
listing_untouched (list-unsound f o) real = (refl, refl)
listing_untouched (listed f o rs e) real = absurd (real refl)

pub list_refused : {p sh : List ℕ} {from n : ℕ} {runs out shown res : List ℕ}
    → ListCall p sh from runs out n shown res → n ≢ 0
    → (shown ≡ runs) × (res ≡ out_with (0 ∷ []) out)
list_refused (length_wrong f) h = (refl, refl)
list_refused {out = out} (shaped l a shown x) h =
    let w = listing_untouched x h in (w.0, ap (λ r. out_with r out) w.1)
