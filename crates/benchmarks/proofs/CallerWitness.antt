-- Changes by an owner, by a domain with an export, and by one that may not, of a fresh pool of two domains; and lists
-- of owned regions.
use Prim.Native.Nat.{ℕ, zero, suc, ◌≤◌, ◌<◌}
use mathlib.Core.Path.{◌≡◌, refl, sym, ap, ◌∙◌}
use mathlib.Core.Logic.{◌≢◌}
use mathlib.Core.Bool.{Bool, true, false, cond, false≢true}
use mathlib.Core.List.{List, [], ◌∷◌, ◌++◌}
use native.Mathlib.Omega.{arith}
use native.Mathlib.Decide.{ℕ_discrete}
use lib.ListN.{length, replicate}
use lib.Dec.{eqb, leb, ltb}
use borrow.Author.Tests.{eq-eqb, le-leb, lt-ltb, le-ltb, eqb-true, leb-true, ltb-true}
use Rattle.std.specs.Prelude.{Ok, Err}
use Rattle.refusals.specs.declared.Refusal.TheVariants.{NotAllowed}
use Rattle.theory.specs.Pool.{words, right_of}
use Rattle.theory.proofs.Logic.{and_both}
use Rattle.words.specs.declared.Region.{Region}
use Rattle.words.specs.Region.{rounded, region_of}
use Rattle.table.specs.Map.{form_of}
use Rattle.table.specs.Fresh.{fresh_pool, MakesFresh}
use Rattle.table.proofs.ShapeLaws.{fits_test}
use Rattle.table.proofs.FreshLaws.{makes_fresh}
use Rattle.table.proofs.FreshWordLaws.{fresh_right}
use Rattle.plan.proofs.AimLaws.{aimed_covered}
use Rattle.change.specs.declared.Ending.TheVariants.{Done}
use Rattle.change.specs.Cuts.{differing}
use Rattle.change.specs.Answers.{IsDone, Changes, in_order, done}
use Rattle.owners.specs.declared.Owned.{Owned}
use Rattle.owners.specs.Regions.{max_regions, list_long, region_at, count_of, holds, first_from, Disjoint}
use Rattle.owners.specs.Rules.{Allowed}
use Rattle.owners.specs.Calls.{asked_of, owned_words, fresh_region, with_export, made, gave, outcome, make_of, give_of}
use Rattle.owners.specs.Changes.{asked_by, ChangesBy, not_allowed, allowed}
use Rattle.demands.specs.Series.{made as freshly, after, listed, setting, make, change_by, Series, fresh, call}
use Rattle.demands.specs.Callers.{Calls, by_caller, OwnCalls, changed}
use Rattle.benchmarks.specs.CallerWitnesses.{no_regions, SomeOwner, SomeExport, SomeNotAllowed, SomeSetIn}
use Rattle.benchmarks.specs.CallerWitnesses.{SomeNobody, SomeDisjoint}
use Rattle.benchmarks.proofs.TwoDomains.{here, two, aim, next, fresh_begun}

-- Lists of one region, of the 64 bytes at 0x1000, and of two.
abbrev one_held : Owned → List ℕ
one_held r = owned_words r ++ (replicate 315 0 ++ 1 ∷ [])

abbrev two_held : Owned → Owned → List ℕ
two_held r t = owned_words r ++ (owned_words t ++ (replicate 310 0 ++ 2 ∷ []))

-- Domain 1 owns it; or domain 0 does, and domain 1 has an export, or none.
abbrev owner_list : List ℕ
owner_list = one_held (fresh_region 1 here)

abbrev bare_list : List ℕ
bare_list = one_held (fresh_region 0 here)

abbrev export_list : ℕ → List ℕ
export_list q = one_held (with_export (fresh_region 0 here) 1 q)

owner_made : make_of 2 no_regions 0 1 0x1000 64 ≡ outcome (Ok tt) owner_list
unfolding asked_of region_of made first_from
owner_made = refl

export_given : give_of 2 bare_list 0 1 2 0x1000 64 ≡ outcome (Ok tt) (export_list 2)
unfolding asked_of region_of gave first_from
export_given = refl

-- Two pools that differ in no word are one.
none_differ : (p q : List ℕ) → length p ≡ length q → differing p q ≡ 0 → p ≡ q
unfolding differing
none_differ [] [] l e = refl
none_differ [] (y ∷ q) l e = absurd (omega arith)
none_differ (x ∷ p) [] l e = absurd (omega arith)
none_differ (x ∷ p) (y ∷ q) l e = go (none_differ p q (omega arith)) (eqb x y) refl e
  where
    go : (differing p q ≡ 0 → p ≡ q) → (b : Bool) → eqb x y ≡ b
        → cond b (differing p q) (suc (differing p q)) ≡ 0 → (x ∷ p) ≡ (y ∷ q)
    go rest true t z = let same = eqb-true x y t in let others = rest z in cc
    go rest false t z = absurd (omega arith)

-- The supervisor's change of domain 0, of the fresh pool.
abbrev old : List ℕ
old = fresh_pool two

abbrev new : List ℕ
new = (next old fresh_begun 0).0

is_done : IsDone two (aim 0) old (length old) new
is_done = (next old fresh_begun 0).1

abbrev count : ℕ
count = differing old new

had : right_of (form_of two) (words old) 0 0x1000 ≡ 0
had = fresh_right two 0 0x1000 (omega arith)

has : right_of (form_of two) (words new) 0 0x1000 ≡ 2
has =
    is_done.finished.rights 0 0x1000 (omega arith) (omega arith)
    ∙ aimed_covered two (aim 0) (words old) 0 0x1000 refl

had_not : right_of (form_of two) (words old) 0 0x1000 ≢ 2
had_not e = let z = had in omega arith

some_stores : 0 < count
some_stores = elim (ℕ_discrete count 0) [
  | yes e ↦ absurd
      (let same = none_differ old new (sym is_done.long) e in
      had_not (ap (λ p. right_of (form_of two) (words p) 0 0x1000) same ∙ has))
  | no n ↦ omega arith
]

by_supervisor : Changes old two 0 0x1000 64 2 count (Ok (Done count)) new
unfolding region_of
by_supervisor = in_order here
    (record { fits = fresh_begun.fits; domain = omega arith; right = omega arith; region = refl })
    (done fresh_begun.settled new (record {
      finished = is_done.finished;
      long = is_done.long;
      enough = omega arith;
    }))

-- The same request by domain 1.
module _ (list : List ℕ) (long : length list ≡ list_long) (few : count_of list ≤ max_regions) where
  asked_here : asked_of true list 2 1 0 2 0x1000 64 ≡ Ok here
  unfolding asked_of region_of
  asked_here = rw (eq-eqb (length list) list_long long, le-ltb max_regions (count_of list) few)

  asked : asked_by old two list 1 0 0x1000 64 2 ≡ Ok here
  asked = ap (λ b. asked_of b list 2 1 0 2 0x1000 64) (fits_test two (length old) fresh_begun.fits) ∙ asked_here

  by_one : Allowed list 1 0 2 here → ChangesBy old two list 1 0 0x1000 64 2 count (Ok (Done count)) new
  by_one o = allowed here asked o by_supervisor

  not_by_one : (n : ℕ) → (Allowed list 1 0 2 here → ⊥) → ChangesBy old two list 1 0 0x1000 64 2 n (Err NotAllowed) old
  not_by_one n f = not_allowed here asked f

-- It is allowed to the owner ..
owner_may : Allowed owner_list 1 0 2 here
unfolding first_from
owner_may w lo hi = rw (le-leb 1024 w lo, lt-ltb w 1040 hi)

by_owner : ChangesBy old two owner_list 1 0 0x1000 64 2 count (Ok (Done count)) new
by_owner = by_one owner_list refl (omega arith) owner_may

made_fresh : MakesFresh two old (Ok tt) old
made_fresh = makes_fresh two old old (fits_test two (length old) fresh_begun.fits) refl

-- Domain 0 makes the region, and its owner makes the change.
owner_series : Series two new owner_list (after (after freshly listed) (setting 0 0x1000 64 2 (Ok (Done count))))
owner_series =
    let begun : Series two old owner_list (after freshly listed) =
    rw (← ap (λ x. x.list) owner_made) (call (fresh made_fresh no_regions) (make 2 0 1 0x1000 64)) in
    call begun (change_by by_owner)

pub some_owner : SomeOwner
some_owner = record {
  shape = two;
  list = owner_list;
  old = old;
  pool = new;
  history = after freshly listed;
  stores = count;
  some = some_stores;
  held = refl;
  owns = refl;
  changed = by_owner;
  series = owner_series;
  had_not = had_not;
  has = has;
}

-- .. and to the domain with an export of that right, which owns nothing.
export_may : Allowed (export_list 2) 1 0 2 here
unfolding first_from
export_may w lo hi = rw (le-leb 1024 w lo, lt-ltb w 1040 hi)

by_export : ChangesBy old two (export_list 2) 1 0 0x1000 64 2 count (Ok (Done count)) new
by_export = by_one (export_list 2) refl (omega arith) export_may

pub some_export : SomeExport
some_export = record {
  shape = two;
  list = export_list 2;
  old = old;
  pool = new;
  stores = count;
  some = some_stores;
  before = bare_list;
  given = export_given;
  regions = omega arith;
  owns_none = λ i h e. let z : i ≡ 0 = omega arith in let y : ◌≡◌ {A = ℕ} 0 1 = rw z at e in omega arith;
  exported = refl;
  changed = by_export;
  alone = changed OwnCalls.none by_export;
  had_not = had_not;
  has = has;
}

-- An export of read does not allow it ..
read_may_not : Allowed (export_list 1) 1 0 2 here → ⊥
unfolding first_from
read_may_not f = false≢true (f 1024 (omega arith) (omega arith))

pub some_not_allowed : SomeNotAllowed
some_not_allowed = record {
  shape = two;
  list = export_list 1;
  old = old;
  pool = new;
  stores = count;
  some = some_stores;
  exported = refl;
  of_read = refl;
  refused = not_by_one (export_list 1) refl (omega arith) count read_may_not;
  by_supervisor = by_supervisor;
}

pub some_set_in : SomeSetIn
unfolding region_of first_from
some_set_in = record {
  shape = two;
  list = owner_list;
  old = old;
  pool = new;
  stores = count;
  changed = by_owner;
  set_in = by_caller Calls.none by_owner refl refl;
  alters = λ e. had_not (sym e ∙ has);
}

-- .. nor does no export.
bare_may_not : Allowed bare_list 1 0 2 here → ⊥
unfolding first_from
bare_may_not f = false≢true (f 1024 (omega arith) (omega arith))

pub some_nobody : SomeNobody
some_nobody = record {
  shape = two;
  list = bare_list;
  pool = old;
  regions = omega arith;
  owns_none = λ i h e. let z : i ≡ 0 = omega arith in let y : ◌≡◌ {A = ℕ} 0 1 = rw z at e in omega arith;
  no_export = λ i h. let z : i ≡ 0 = omega arith in rw z;
  refused = not_by_one bare_list refl (omega arith) 0 bare_may_not;
}

-- Regions at 0x1000 and at 0x2000.
abbrev far : Region
far = rounded 0x2000 64

abbrev both_list : List ℕ
both_list = two_held (fresh_region 1 here) (fresh_region 0 far)

apart : Disjoint both_list
apart i j w hi hj x y = go i j hi hj x y
  where
    never : holds w (region_at both_list 0) ≡ true → holds w (region_at both_list 1) ≡ true → ⊥
    never x y =
        let (_, a) = and_both (leb 1024 w) (ltb w 1040) x in
        let (b, _) = and_both (leb 2048 w) (ltb w 2064) y in
        let z = ltb-true w 1040 a in
        let v = leb-true 2048 w b in
        omega arith

    go : (i j : ℕ) → i < 2 → j < 2 → holds w (region_at both_list i) ≡ true → holds w (region_at both_list j) ≡ true
        → i ≡ j
    go zero zero hi hj x y = refl
    go zero (suc zero) hi hj x y = absurd (never x y)
    go zero (suc (suc j)) hi hj x y = absurd (omega arith)
    go (suc zero) zero hi hj x y = absurd (never y x)
    go (suc zero) (suc zero) hi hj x y = refl
    go (suc zero) (suc (suc j)) hi hj x y = absurd (omega arith)
    go (suc (suc i)) j hi hj x y = absurd (omega arith)

pub some_disjoint : SomeDisjoint
unfolding asked_of region_of made gave first_from
some_disjoint = record {
  one = owner_list;
  first = refl;
  two = both_list;
  second = refl;
  held = refl;
  disjoint = apart;
  list = two_held (fresh_region 1 here) (with_export (fresh_region 0 far) 1 0);
  given = refl;
  exported = refl;
  of_none = refl;
  sets_none = refl;
  not_read = refl;
}
