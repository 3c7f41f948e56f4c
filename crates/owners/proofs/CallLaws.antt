-- Laws of the calls: what is in order where a region is asked for, and what each call answers, case by case.
use Prim.Native.Nat.{ℕ, ◌≤◌, ◌<◌}
use mathlib.Core.Path.{◌≡◌, refl}
use mathlib.Core.Logic.{◌⊎◌, inl, inr, ⊎_elim}
use mathlib.Core.Bool.{Bool, true, false, not, cond, ◌&&◌}
use mathlib.Core.List.{List}
use native.Mathlib.Omega.{arith}
use borrow.Author.Tests.{leb-true, ltb-true, ltb-false, eqb-true, eq-eqb, ne_eqb, lt-ltb, le-ltb, not-false}
use lib.Dec.{eqb, leb, ltb}
use lib.ListN.{length}
use Rattle.theory.proofs.Logic.{and_both}
use Rattle.std.proofs.Common.{Result, Ok, Err}
use Rattle.refusals.specs.declared.Refusal.{Refusal}
use Rattle.refusals.specs.declared.Refusal.TheVariants.{NotAllowed, RegionsFull}
use Rattle.refusals.specs.Refusals.{number}
use Rattle.words.specs.declared.Region.{Region}
use Rattle.words.specs.Region.{region_of}
use Rattle.words.proofs.RegionLaws.{region_number}
use Rattle.table.specs.Shape.{max_domains}
use Rattle.owners.specs.Regions.{max_regions, list_long, Counted, count_of, region_at, place_of}
use Rattle.owners.specs.Rules.{export_domains}
use Rattle.owners.specs.Calls.{outcome, asked_of, in_range, meets, same_words, owned_at, fresh_region, put_at, added, with_export}
use Rattle.owners.specs.Calls.{made, passed, gave}

-- A region comes out: the first test does not refuse, and none of those after it.
none_refuses : (b : Bool) (n : Refusal) (r : Result Region Refusal) (g : Region) → cond b (Err n) r ≡ Ok g
    → (b ≡ false) × (r ≡ Ok g)
none_refuses true n r g e = let z : ◌≡◌ {A = ℕ} 0 1 = cc in absurd (omega arith)
none_refuses false n r g e = (refl, e)

-- What is in order where a region is asked for.
pub record InOrder (fits : Bool) (list : List ℕ) (D caller other right start len : ℕ) (g : Region) : Type 0 where
  pub long : length list ≡ list_long
  pub fitting : fits ≡ true
  pub few : count_of list ≤ max_regions
  pub caller_known : caller < D
  pub other_known : other < D
  pub low : right ≤ 3
  pub region : region_of start len ≡ Ok g

pub asked_in_order : (fits : Bool) (list : List ℕ) (D caller other right start len : ℕ) (g : Region)
    → asked_of fits list D caller other right start len ≡ Ok g → InOrder fits list D caller other right start len g
unfolding asked_of
asked_in_order fits list D caller other right start len g e =
    let (l, a) = none_refuses (not (eqb (length list) list_long)) _ _ g e in
    let (f, b) = none_refuses (not fits) _ _ g a in
    let (n, c) = none_refuses (ltb max_regions (count_of list)) _ _ g b in
    let (k, d) = none_refuses (not (ltb caller D && ltb other D)) _ _ g c in
    let (r, o) = none_refuses (ltb 3 right) _ _ g d in
    let (x, y) = and_both (ltb caller D) (ltb other D) (not-false _ k) in
    record {
      long = eqb-true (length list) list_long (not-false _ l);
      fitting = not-false _ f;
      few = ltb-false max_regions (count_of list) n;
      caller_known = ltb-true caller D x;
      other_known = ltb-true other D y;
      low = ltb-false 3 right r;
      region = o;
    }

-- Where a region is asked for, the list has its length and no more regions than it has room for; and where there are
-- sixteen domains at most, each of them may have an export.
pub asked_counted : (fits : Bool) (list : List ℕ) (D caller other right start len : ℕ) (g : Region)
    → asked_of fits list D caller other right start len ≡ Ok g → Counted list
asked_counted fits list D caller other right start len g e =
    let o = asked_in_order fits list D caller other right start len g e in (o.long, o.few)

pub asked_export : (list : List ℕ) (D caller other right start len : ℕ) (g : Region)
    → asked_of (in_range D) list D caller other right start len ≡ Ok g → (other < export_domains) × (right < 4)
asked_export list D caller other right start len g e =
    let o = asked_in_order (in_range D) list D caller other right start len g e in
    let d = leb-true D max_domains (and_both (leb 1 D) _ o.fitting).1 in
    let k = o.other_known in
    let l = o.low in
    (omega arith, omega arith)

-- What the calls go by that ask for a region.
pub ruleset asking = (asked_counted, asked_export)

-- What is refused before is refused 1 to 5, 18 or 101.
pub asked_number : (fits : Bool) (list : List ℕ) (D caller other right start len : ℕ) (k : Refusal)
    → asked_of fits list D caller other right start len ≡ Err k
    → ((1 ≤ number k) × (number k ≤ 5)) ⊎ ((number k ≡ 18) ⊎ (number k ≡ 101))
unfolding asked_of
asked_number fits list D caller other right start len k =
    step (not (eqb (length list) list_long)) (λ z. rw (← z) (inr (inr refl)))
    (step (not fits) (λ z. rw (← z) (inl (omega arith, omega arith)))
    (step (ltb max_regions (count_of list)) (λ z. rw (← z) (inr (inl refl)))
    (step (not (ltb caller D && ltb other D)) (λ z. rw (← z) (inl (omega arith, omega arith)))
    (step (ltb 3 right) (λ z. rw (← z) (inl (omega arith, omega arith)))
    (λ z. inl (⊎_elim (λ w. rw w (omega arith, omega arith)) (λ w. rw w (omega arith, omega arith))
    (region_number start len k z)))))))
  where
    step : {m : Refusal} {x : Result Region Refusal} {A : Type 0} (b : Bool) → (m ≡ k → A) → (x ≡ Err k → A)
        → cond b (Err m) x ≡ Err k → A
    step true f g e = f (cc)
    step false f g e = g e

pub owned_held : (list : List ℕ) (caller k : ℕ) → owned_at list caller k ≡ true → k < count_of list
owned_held list caller k e = ltb-true k (count_of list) (and_both _ _ e).0

module _ (list : List ℕ) (caller owner : ℕ) (a : Region) where
  pub make_not_zero : (caller ≡ 0 → ⊥) → outcome (Err NotAllowed) list ≡ made list caller owner a
  unfolding made
  make_not_zero n = rw (ne_eqb caller 0 n)

  pub make_meets : caller ≡ 0 → place_of list (meets a) < count_of list → outcome (Err NotAllowed) list ≡ made list caller owner a
  unfolding made
  make_meets z m = rw (eq-eqb caller 0 z, lt-ltb _ _ m)

  pub make_full : caller ≡ 0 → count_of list ≤ place_of list (meets a) → count_of list ≡ max_regions
      → outcome (Err RegionsFull) list ≡ made list caller owner a
  unfolding made
  make_full z m f = rw (eq-eqb caller 0 z, le-ltb _ _ m, eq-eqb (count_of list) max_regions f)

  pub make_adds : caller ≡ 0 → count_of list ≤ place_of list (meets a) → (count_of list ≡ max_regions → ⊥)
      → outcome (Ok tt) (added list (fresh_region owner a)) ≡ made list caller owner a
  unfolding made
  make_adds z m f = rw (eq-eqb caller 0 z, le-ltb _ _ m, ne_eqb (count_of list) max_regions f)

  pub pass_not : owned_at list caller (place_of list (same_words a)) ≡ false → outcome (Err NotAllowed) list ≡ passed list caller owner a
  unfolding passed
  pass_not e = rw e

  pub pass_goes : owned_at list caller (place_of list (same_words a)) ≡ true
      → outcome (Ok tt) (put_at list (place_of list (same_words a)) (fresh_region owner a)) ≡ passed list caller owner a
  unfolding passed
  pass_goes e = rw e

module _ (list : List ℕ) (caller receiver right : ℕ) (a : Region) where
  pub give_not : owned_at list caller (place_of list (same_words a)) ≡ false
      → outcome (Err NotAllowed) list ≡ gave list caller receiver right a
  unfolding gave
  give_not e = rw e

  pub give_self : owned_at list caller (place_of list (same_words a)) ≡ true → receiver ≡ caller
      → outcome (Err NotAllowed) list ≡ gave list caller receiver right a
  unfolding gave
  give_self e s = rw (e, eq-eqb receiver caller s)

  pub give_goes : owned_at list caller (place_of list (same_words a)) ≡ true → (receiver ≡ caller → ⊥)
      → outcome (Ok tt) (put_at list (place_of list (same_words a))
      (with_export (region_at list (place_of list (same_words a))) receiver right)) ≡ gave list caller receiver right a
  unfolding gave
  give_goes e s = rw (e, ne_eqb receiver caller s)
