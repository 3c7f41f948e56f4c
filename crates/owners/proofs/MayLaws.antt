-- What a domain may not do: one that owns no region sets no right of its own, and with no export no right at all; nor
-- does it alter the list.
use Prim.Native.Nat.{ℕ, ◌<◌}
use mathlib.Core.Path.{◌≡◌, refl, sym, ap, ◌∙◌}
use mathlib.Core.Logic.{◌≢◌}
use mathlib.Core.Bool.{Bool, true, false, cond, not, ◌&&◌, ◌||◌, false≢true}
use mathlib.Core.List.{List}
use lib.Dec.{eqb, ltb}
use borrow.Author.Tests.{eq-eqb, ne_eqb, ltb-true}
use Rattle.theory.proofs.Logic.{by_cases}
use Rattle.std.proofs.Common.{Result, Ok, Err}
use Rattle.refusals.specs.declared.Refusal.{Refusal}
use Rattle.words.specs.declared.Region.{Region}
use Rattle.owners.specs.declared.Owned.{Owned}
use Rattle.owners.specs.Regions.{region_at, count_of, holds, place_of}
use Rattle.owners.specs.Rules.{exports, no_greater, export_of, may_in, may_at, may_word}
use Rattle.owners.specs.Calls.{asked_of, in_range, answered, owned_at, same_words, made, passed, gave, make_of, pass_of}
use Rattle.owners.specs.Calls.{give_of}

-- Who does not own a region and is the domain, or has no export there, may set nothing in it.
in_own : (o : Owned) (k r : ℕ) → o.owner ≢ k → may_in o k k r ≡ false
in_own o k r n = go (exports o k) (eqb k o.owner) (eqb k k) (ne_eqb k o.owner (λ e. n (sym e))) (eq-eqb k k refl)
  where
    go : (x y z : Bool) → y ≡ false → z ≡ true → (y || (x && not z && no_greater r (export_of o k))) ≡ false
    go true false true e f = refl
    go false false true e f = refl
    go x true z e f = absurd (false≢true (sym e))
    go x false false e f = absurd (false≢true f)

in_none : (o : Owned) (k d r : ℕ) → o.owner ≢ k → exports o k ≡ false → may_in o k d r ≡ false
in_none o k d r n x = rw (ne_eqb k o.owner (λ e. n (sym e)), x)

-- Neither may a domain other than 0 on a word of no region held.
module _ (list : List ℕ) (k : ℕ) (other : k ≢ 0) where
  at_none : (i d r : ℕ) → (i < count_of list → may_in (region_at list i) k d r ≡ false) → may_at list i k d r ≡ false
  at_none i d r f = by_cases (ltb i (count_of list))
      (λ h. ap (λ b. cond b (may_in (region_at list i) k d r) (eqb k 0)) h ∙ f (ltb-true i (count_of list) h))
      (λ h. ap (λ b. cond b (may_in (region_at list i) k d r) (eqb k 0)) h ∙ ne_eqb k 0 other)

  module _ (Owns-none : (i : ℕ) → i < count_of list → (region_at list i).owner ≢ k) where
    -- A domain other than 0 that owns no region held may set no right of its own.
    pub not_its_own : (r w : ℕ) → may_word list k k r w ≡ false
    not_its_own r w = at_none (place_of list (holds w)) k r
        (λ h. in_own (region_at list (place_of list (holds w))) k r (Owns-none _ h))

    -- Where it has no export either, it may set nothing.
    pub not_at_all : ((i : ℕ) → i < count_of list → exports (region_at list i) k ≡ false) → (d r w : ℕ)
        → may_word list k d r w ≡ false
    not_at_all no_export d r w = at_none (place_of list (holds w)) d r
        (λ h. in_none (region_at list (place_of list (holds w))) k d r (Owns-none _ h) (no_export _ h))

    -- It owns no region by number either.
    owned_none : (i : ℕ) → owned_at list k i ≡ false
    owned_none i = by_cases (ltb i (count_of list))
        (λ h. rw (h, ne_eqb k (region_at list i).owner (λ e. Owns-none i (ltb-true i _ h) (sym e))))
        (λ h. rw h)

    -- It makes no region ..
    pub makes_nothing : (D owner start len : ℕ) → (make_of D list k owner start len).list ≡ list
    unfolding made
    makes_nothing D owner start len = go (asked_of (in_range D) list D k owner 0 start len)
      where
        go : (x : Result Region Refusal) → (answered list (made list k owner) x).list ≡ list
        go (Err k) = refl
        go (Ok a) = rw (ne_eqb k 0 other)

    -- .. passes none on ..
    pub passes_nothing : (D owner start len : ℕ) → (pass_of D list k owner start len).list ≡ list
    unfolding passed
    passes_nothing D owner start len = go (asked_of (in_range D) list D k owner 0 start len)
      where
        go : (x : Result Region Refusal) → (answered list (passed list k owner) x).list ≡ list
        go (Err k) = refl
        go (Ok a) = rw (owned_none (place_of list (same_words a)))

    -- .. and gives no export: each is refused, and the list stays as it was.
    pub gives_nothing : (D receiver right start len : ℕ) → (give_of D list k receiver right start len).list ≡ list
    unfolding gave
    gives_nothing D receiver right start len = go (asked_of (in_range D) list D k receiver right start len)
      where
        go : (x : Result Region Refusal) → (answered list (gave list k receiver right) x).list ≡ list
        go (Err k) = refl
        go (Ok a) = rw (owned_none (place_of list (same_words a)))
