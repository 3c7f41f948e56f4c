-- Laws of checks: the refusals one by one, what a check then answers, and that there is one answer. Assumes nothing.
use Prim.Native.Nat.{ℕ, ◌%◌, ◌≤◌, ◌<◌}
use mathlib.Core.Path.{◌≡◌, refl, sym, ◌∙◌}
use mathlib.Core.Logic.{◌≢◌}
use mathlib.Core.Bool.{Bool, true, false, cond, ◌&&◌, ◌||◌, false≢true}
use mathlib.Core.List.{List}
use native.Mathlib.Omega.{arith}
use native.Mathlib.Decide.{ℕ_discrete}
use lib.ListN.{length}
use lib.Dec.{eqb, ltb}
use borrow.Author.Tests.{eq-eqb, ne_eqb, lt-ltb, le-ltb, eqb-true, ltb-true}
use Rattle.refusals.specs.declared.Refusal.{Refusal}
use Rattle.refusals.specs.declared.Refusal.TheVariants.{NoShape, NoDomain, NoAccess, NotAligned, BadState}
use Rattle.table.specs.declared.Shape.{Shape}
use Rattle.table.specs.declared.Deciding.{Deciding}
use Rattle.table.specs.Shape.{fits_of}
use Rattle.table.specs.Lookup.{lookup_of}
use Rattle.table.specs.Access.{load, store, fetch}
use Rattle.std.specs.Prelude.{None}
use Rattle.std.specs.Prelude.{Option, Some, None, Result, Ok, Err}
use Rattle.lookaside.specs.declared.Slot.{Slot}
use Rattle.lookaside.specs.Slots.{Buffer, first_match}
use Rattle.lookaside.specs.Check.{Checked, is_access, demand, refusal_of, refusing, walked, answered}
use Rattle.lookaside.specs.Check.{check_of, unless_refused, Ruling, walk_decided, hit_decided, decided_unless, decide_of, filled_by}

-- Accesses.

pub access_some : (kind size : ℕ) → is_access kind size ≡ true → 0 < size
access_some kind size e = elim (ℕ_discrete size 0) [
  | yes z ↦ absurd (never (eqb kind load || eqb kind store) (eqb kind fetch) (rw z at e))
  | no n ↦ omega arith
]
  where
    never : (x y : Bool) → cond x false (y && false) ≡ true → ⊥
    never true y h = false≢true h
    never false true h = false≢true h
    never false false h = false≢true h

-- The refusals, in their order.
module _ (s : Shape) (long next d kind size a : ℕ) where
  pub refused_shape : fits_of s long ≡ false → refusal_of s long next d kind size a ≡ Err NoShape
  unfolding refusal_of
  refused_shape f = rw f

  module _ (f : fits_of s long ≡ true) where
    pub refused_pointer : 64 ≤ next → refusal_of s long next d kind size a ≡ Err BadState
    unfolding refusal_of
    refused_pointer n = rw (f, le-ltb next 64 n)

    module _ (n : next < 64) where
      pub refused_domain : s.domains ≤ d → refusal_of s long next d kind size a ≡ Err NoDomain
      unfolding refusal_of
      refused_domain h = rw (f, lt-ltb next 64 n, le-ltb d s.domains h)

      module _ (h : d < s.domains) where
        pub refused_access : is_access kind size ≡ false → refusal_of s long next d kind size a ≡ Err NoAccess
        unfolding refusal_of
        refused_access k = rw (f, lt-ltb next 64 n, lt-ltb d s.domains h, k)

        module _ (k : is_access kind size ≡ true) where
          pub refused_address : a % size ≢ 0 → refusal_of s long next d kind size a ≡ Err NotAligned
          unfolding refusal_of
          refused_address m = rw (f, lt-ltb next 64 n, lt-ltb d s.domains h, k, ne_eqb (a % size) 0 m)

          pub not_refused : a % size ≡ 0 → refusal_of s long next d kind size a ≡ Ok tt
          unfolding refusal_of
          not_refused m = rw (f, lt-ltb next 64 n, lt-ltb d s.domains h, k, eq-eqb (a % size) 0 m)

  -- A check that is not refused at once has all that it needs.
  pub record Allowed : Type 0 where
    pub fits : fits_of s long ≡ true
    pub pointer : next < 64
    pub domain : d < s.domains
    pub access : is_access kind size ≡ true
    pub address : a % size ≡ 0

  pub allowed : refusal_of s long next d kind size a ≡ Ok tt → Allowed
  unfolding refusal_of
  allowed e =
      let (f, e1) = met (fits_of s long) _ _ e in
      let (n, e2) = met (ltb next 64) _ _ e1 in
      let (h, e3) = met (ltb d s.domains) _ _ e2 in
      let (k, e4) = met (is_access kind size) _ _ e3 in
      let (m, _) = met (eqb (a % size) 0) _ _ e4 in
      record { fits = f; pointer = ltb-true _ _ n; domain = ltb-true _ _ h; access = k; address = eqb-true _ _ m }
    where
      met : (t : Bool) (r : Refusal) (rest : Result (Unit {0}) Refusal) → demand t r rest ≡ Ok tt → (t ≡ true) × (rest ≡ Ok tt)
      met true r rest q = (refl, q)
      met false r rest q = cc

-- Of the buffer it only counts that the pointer is a slot's.
pub refusal_pointer : (s : Shape) (long d kind size a n m : ℕ) → n < 64 → m < 64 → refusal_of s long n d kind size a
    ≡ refusal_of s long m d kind size a
unfolding refusal_of
refusal_pointer s long d kind size a n m h k = rw (lt-ltb n 64 h, lt-ltb m 64 k)

-- What a check answers, where it is refused before it asks the buffer and where it is not.
module _ (p : List ℕ) (s : Shape) (b : Buffer) (d kind size a : ℕ) where
  pub check_refused : (r : Refusal) → refusal_of s (length p) b.next d kind size a ≡ Err r
      → check_of p s b d kind size a ≡ refusing r b
  unfolding check_of
  check_refused r e = rw e

  pub check_answered : refusal_of s (length p) b.next d kind size a ≡ Ok tt
      → check_of p s b d kind size a ≡ answered (first_match b.slots d a) p s b d kind a
  unfolding check_of
  check_answered e = rw e

  -- What holds of it in both cases.
  pub check_cases : (P : Checked → Type 0)
      → ((r : Refusal) → refusal_of s (length p) b.next d kind size a ≡ Err r → P (refusing r b))
      → (refusal_of s (length p) b.next d kind size a ≡ Ok tt → P (answered (first_match b.slots d a) p s b d kind a))
      → P (check_of p s b d kind size a)
  check_cases P refuses answers = go (refusal_of s (length p) b.next d kind size a) refl
    where
      go : (r : Result (Unit {0}) Refusal) → refusal_of s (length p) b.next d kind size a ≡ r → P (check_of p s b d kind size a)
      go (Err r) e = rw (check_refused r e) (refuses r e)
      go (Ok _) e = rw (check_answered e) (answers e)

  -- A pointer that is a slot's stays one.
  pub check_pointer : b.next < 64 → (check_of p s b d kind size a).buffer.next < 64
  check_pointer h = check_cases (λ c. c.buffer.next < 64) (λ _ _. h) (λ _. answers (first_match b.slots d a))
    where
      walks : (f : Result Deciding Refusal) → (walked f b d kind a).buffer.next < 64
      walks (Ok x) = omega arith
      walks (Err e) = h

      answers : (t : Option Slot) → (answered t p s b d kind a).buffer.next < 64
      answers (Some t) = h
      answers None = walks (lookup_of p s d a)

  -- A check is what it decides, done to its buffer.

  abbrev joined : Ruling → Checked
  joined x = record { verdict = x.verdict; buffer = filled_by b x.fill }

  walks_joined : (f : Result Deciding Refusal) → walked f b d kind a ≡ joined (walk_decided f d kind a)
  walks_joined (Ok x) = refl
  walks_joined (Err e) = refl

  hits_joined : (h : Option Slot) → answered h p s b d kind a ≡ joined (hit_decided h p s d kind a)
  hits_joined (Some t) = refl
  hits_joined None = walks_joined (lookup_of p s d a)

  pub check_decided : check_of p s b d kind size a
      ≡ joined (decide_of p s b.next (first_match b.slots d a) d kind size a)
  unfolding check_of decide_of
  check_decided = go (refusal_of s (length p) b.next d kind size a)
    where
      go : (r : Result (Unit {0}) Refusal) → unless_refused r b (answered (first_match b.slots d a) p s b d kind a)
          ≡ joined (decided_unless r (hit_decided (first_match b.slots d a) p s d kind a))
      go (Ok _) = hits_joined (first_match b.slots d a)
      go (Err e) = refl

  -- There is one answer.
  pub one_check : (q r : Checked) → q ≡ check_of p s b d kind size a → r ≡ check_of p s b d kind size a → q ≡ r
  one_check q r x y = x ∙ sym y
