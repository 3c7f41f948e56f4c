-- Each call on a list has one outcome: a refusal that leaves the list as it came, or none, and the list is the one that
-- the call makes.
use Prim.Native.Nat.{ℕ, ◌≤◌, ◌<◌}
use mathlib.Core.Path.{◌≡◌, refl, sym}
use mathlib.Core.Logic.{◌≢◌}
use mathlib.Core.Bool.{true}
use mathlib.Core.List.{List}
use native.Mathlib.Omega.{arith}
use borrow.Author.Tests.{eqb-true, eqb-false, ltb-true, ltb-false}
use lib.Dec.{eqb, ltb}
use lib.ListN.{length}
use Rattle.theory.proofs.Logic.{by_cases}
use Rattle.words.specs.declared.Region.{Region}
use Rattle.std.proofs.Common.{Result, Ok, Err}
use Rattle.refusals.specs.declared.Refusal.{Refusal}
use Rattle.refusals.specs.declared.Refusal.TheVariants.{NoShape, NoDomain, NoRight, EmptyRegion, PastTheEnd, NotSound, NotSettled}
use Rattle.refusals.specs.declared.Refusal.TheVariants.{NoRoom, NoAccess, NotAligned, GateNotAligned, GatesFull, NoGate}
use Rattle.refusals.specs.declared.Refusal.TheVariants.{GateToItself, StackFull, StackEmpty, OtherReturn, BadState, NotAllowed}
use Rattle.refusals.specs.declared.Refusal.TheVariants.{RegionsFull, WrongLength}
use Rattle.refusals.specs.Refusals.{number}
use Rattle.owners.specs.Regions.{max_regions, list_long, count_of, region_at, place_of}
use Rattle.owners.specs.Calls.{Outcome, outcome, refusal_number, in_range, answered, meets, same_words, owned_at}
use Rattle.owners.specs.Calls.{fresh_region, put_at, added, with_export, made, passed, gave, make_of, pass_of, give_of}
use Rattle.owners.proofs.CallLaws.{InOrder, asked_in_order, make_not_zero, make_meets}
use Rattle.owners.proofs.CallLaws.{make_full, make_adds}
use Rattle.owners.proofs.CallLaws.{pass_not, pass_goes, give_not, give_self, give_goes}

-- Refused, with the list as it came; or done.
pub data Ends (list : List ℕ) (Done : List ℕ → Type 0) : Outcome → Type 0 where
  kept : (k : Refusal) → Ends list Done (outcome (Err k) list)
  done : (after : List ℕ) → Done after → Ends list Done (outcome (Ok tt) after)

-- The list is as it came wherever a refusal is answered.
pub refused_kept : {list : List ℕ} {Done : List ℕ → Type 0} {x : Outcome} → Ends list Done x
    → refusal_number x.answer ≢ 0 → x.list ≡ list
refused_kept (kept k) r = refl
refused_kept (done after d) r = absurd (r refl)

-- No refusal has the number 0 ..
number_some : (k : Refusal) → 0 < number k
number_some NoShape = omega arith
number_some NoDomain = omega arith
number_some NoRight = omega arith
number_some EmptyRegion = omega arith
number_some PastTheEnd = omega arith
number_some NotSound = omega arith
number_some NotSettled = omega arith
number_some NoRoom = omega arith
number_some NoAccess = omega arith
number_some NotAligned = omega arith
number_some GateNotAligned = omega arith
number_some GatesFull = omega arith
number_some NoGate = omega arith
number_some GateToItself = omega arith
number_some StackFull = omega arith
number_some StackEmpty = omega arith
number_some OtherReturn = omega arith
number_some BadState = omega arith
number_some NotAllowed = omega arith
number_some RegionsFull = omega arith
number_some WrongLength = omega arith

-- .. so that 0 is answered only where the call is done.
pub zero_done : {list : List ℕ} {Done : List ℕ → Type 0} {x : Outcome} → Ends list Done x
    → refusal_number x.answer ≡ 0 → (x.answer ≡ Ok tt) × Done x.list
zero_done (kept k) e = let z = number_some k in absurd (omega arith)
zero_done (done after d) e = (refl, d)

-- A region was made: domain 0 asked for words that lie in none, and there was room.
pub record Made (list : List ℕ) (caller owner : ℕ) (after : List ℕ) : Type 0 where
  pub words : Region
  pub long : length list ≡ list_long
  pub by_zero : caller ≡ 0
  pub apart : count_of list ≤ place_of list (meets words)
  pub room : count_of list < max_regions
  pub now_is : after ≡ added list (fresh_region owner words)

-- The caller owns the earliest region of exactly these words.
pub record Owns (list : List ℕ) (caller : ℕ) (words : Region) : Type 0 where
  pub long : length list ≡ list_long
  pub few : count_of list ≤ max_regions
  pub owned : owned_at list caller (place_of list (same_words words)) ≡ true

-- A region was passed on by its owner.
pub record Passed (list : List ℕ) (caller owner : ℕ) (after : List ℕ) : Type 0 where
  pub words : Region
  pub owns : Owns list caller words
  pub now_is : after ≡ put_at list (place_of list (same_words words)) (fresh_region owner words)

-- An export was given, by the owner to another.
pub record Gave (list : List ℕ) (caller receiver right : ℕ) (after : List ℕ) : Type 0 where
  pub words : Region
  pub owns : Owns list caller words
  pub other : receiver ≢ caller
  pub low : right ≤ 3
  pub now_is : after ≡ put_at list (place_of list (same_words words))
      (with_export (region_at list (place_of list (same_words words))) receiver right)

-- What is answered ends so where what is done with a region in order does.
answered_ends : {list : List ℕ} {Done : List ℕ → Type 0} (f : Region → Outcome) (x : Result Region Refusal)
    → ((a : Region) → x ≡ Ok a → Ends list Done (f a)) → Ends list Done (answered list f x)
answered_ends f (Err k) d = kept k
answered_ends f (Ok a) d = d a refl

module _ (list : List ℕ) (Done : List ℕ → Type 0) where
  ends_refused : (k : Refusal) → (x : Outcome) → outcome (Err k) list ≡ x → Ends list Done x
  ends_refused k x e = rw (sym e) (kept k)

  ends_done : (after : List ℕ) → Done after → (x : Outcome) → outcome (Ok tt) after ≡ x → Ends list Done x
  ends_done after d x e = rw (sym e) (done after d)

module _ (D : ℕ) (list : List ℕ) (caller other start len : ℕ) where
  -- A region in order, and the caller owns it.
  abbrev Right : ℕ → Region → Type 0
  Right right a = InOrder (in_range D) list D caller other right start len a

  owns : (right : ℕ) (a : Region) → Right right a → owned_at list caller (place_of list (same_words a)) ≡ true
      → Owns list caller a
  owns right a o e = record { long = o.long; few = o.few; owned = e }

  made_ends : (a : Region) → Right 0 a → Ends list (Made list caller other) (made list caller other a)
  made_ends a o =
      let End = Made list caller other in
      let p = place_of list (meets a) in
      by_cases (eqb caller 0)
      (λ z. by_cases (ltb p (count_of list))
      (λ m. ends_refused list End NotAllowed _
      (make_meets list caller other a (eqb-true caller 0 z) (ltb-true p (count_of list) m)))
      (λ m. by_cases (eqb (count_of list) max_regions)
      (λ f. ends_refused list End RegionsFull _ (make_full list caller other a (eqb-true caller 0 z)
      (ltb-false p (count_of list) m) (eqb-true (count_of list) max_regions f)))
      (λ f. ends_done list End (added list (fresh_region other a))
      (record {
        words = a;
        long = o.long;
        by_zero = eqb-true caller 0 z;
        apart = ltb-false p (count_of list) m;
        room = let q = eqb-false (count_of list) max_regions f in let b = o.few in omega arith;
        now_is = refl;
      }) _ (make_adds list caller other a (eqb-true caller 0 z) (ltb-false p (count_of list) m)
      (eqb-false (count_of list) max_regions f)))))
      (λ z. ends_refused list End NotAllowed _ (make_not_zero list caller other a (eqb-false caller 0 z)))

  passed_ends : (a : Region) → Right 0 a → Ends list (Passed list caller other) (passed list caller other a)
  passed_ends a o =
      let End = Passed list caller other in
      by_cases (owned_at list caller (place_of list (same_words a)))
      (λ e. ends_done list End _ (record { words = a; owns = owns 0 a o e; now_is = refl }) _
      (pass_goes list caller other a e))
      (λ e. ends_refused list End NotAllowed _ (pass_not list caller other a e))

  gave_ends : (right : ℕ) (a : Region) → Right right a
      → Ends list (Gave list caller other right) (gave list caller other right a)
  gave_ends right a o =
      let End = Gave list caller other right in
      by_cases (owned_at list caller (place_of list (same_words a)))
      (λ e. by_cases (eqb other caller)
      (λ s. ends_refused list End NotAllowed _ (give_self list caller other right a e (eqb-true other caller s)))
      (λ s. ends_done list End _ (record {
        words = a;
        owns = owns right a o e;
        other = eqb-false other caller s;
        low = o.low;
        now_is = refl;
      }) _ (give_goes list caller other right a e (eqb-false other caller s))))
      (λ e. ends_refused list End NotAllowed _ (give_not list caller other right a e))

  -- The outcomes of the three calls, for every list and every number handed in.
  pub make_ends : Ends list (Made list caller other) (make_of D list caller other start len)
  make_ends = answered_ends (made list caller other) _
      (λ a e. made_ends a (asked_in_order (in_range D) list D caller other 0 start len a e))

  pub pass_ends : Ends list (Passed list caller other) (pass_of D list caller other start len)
  pass_ends = answered_ends (passed list caller other) _
      (λ a e. passed_ends a (asked_in_order (in_range D) list D caller other 0 start len a e))

  pub give_ends : (right : ℕ) → Ends list (Gave list caller other right) (give_of D list caller other right start len)
  give_ends right =
      answered_ends (gave list caller other right) _
      (λ a e. gave_ends right a (asked_in_order (in_range D) list D caller other right start len a e))

  -- A refused call leaves the list as it came.
  pub make_refused_kept : refusal_number (make_of D list caller other start len).answer ≢ 0
      → (make_of D list caller other start len).list ≡ list
  make_refused_kept = refused_kept make_ends

  pub pass_refused_kept : refusal_number (pass_of D list caller other start len).answer ≢ 0
      → (pass_of D list caller other start len).list ≡ list
  pass_refused_kept = refused_kept pass_ends

  pub give_refused_kept : (right : ℕ) → refusal_number (give_of D list caller other right start len).answer ≢ 0
      → (give_of D list caller other right start len).list ≡ list
  give_refused_kept right = refused_kept (give_ends right)
