-- The calls on the list of owned regions: what making, passing on and giving an export answer, and the list that they
-- leave.
use Rattle.std.specs.Prelude.{ℕ, ◌+◌, ◌-◌, ◌*◌, ◌/◌, ◌%◌, ◌^◌, Bool, min, max, cond, not, ◌&&◌, ◌||◌, List, [], ◌∷◌, Result, Ok, Err, ⊤, length, set, eqb, leb, ltb}
use Rattle.std.proofs.lemmas.List.Edits.{sets}
use Rattle.refusals.specs.declared.Refusal.{Refusal}
use Rattle.refusals.specs.declared.Refusal.TheVariants.{NoShape, NoDomain, NoRight, BadState, NotAllowed, RegionsFull}
use Rattle.refusals.specs.declared.Refusal.TheVariants.{WrongLength}
use Rattle.refusals.specs.Refusals.{number}
use Rattle.words.specs.declared.Region.{Region}
use Rattle.words.specs.Rights.{right_at}
use Rattle.words.specs.Region.{region_of}
use Rattle.table.specs.Shape.{max_domains}
use Rattle.owners.specs.declared.Owned.{Owned}
use Rattle.owners.specs.Regions.{max_regions, list_long, count_place, count_of, region_at, place_of}
use Rattle.owners.specs.Rules.{supervisor}

-- What a call hands back, that it is done or why it is refused, and the list that it leaves.
pub record Outcome : Type 0 where
  pub answer : Result ⊤ Refusal
  pub list : List ℕ

abbrev pub outcome : Result ⊤ Refusal → List ℕ → Outcome
outcome a list = record { answer = a; list = list }

-- The paper's number for what is handed back, 0 for done; and the list.
pub record Numbers : Type 0 where
  pub refusal : ℕ
  pub list : List ℕ

abbrev pub told : ℕ → List ℕ → Numbers
told n list = record { refusal = n; list = list }

abbrev pub refusal_number : Result ⊤ Refusal → ℕ
refusal_number (Ok _) = 0
refusal_number (Err k) = number k

abbrev pub numbers : Outcome → Numbers
numbers x = told (refusal_number x.answer) x.list

-- The words of the region that a call asks for; or what is refused up to 5, in the paper's order, with `fits` telling
-- whether 1 is in order. `other` is the second domain that the call names.
unfoldable pub asked_of : Bool → List ℕ → ℕ → ℕ → ℕ → ℕ → ℕ → ℕ → Result Region Refusal
asked_of fits list D caller other right start len =
    cond (not (eqb (length list) list_long)) (Err WrongLength)
    (cond (not fits) (Err NoShape)
    (cond (ltb max_regions (count_of list)) (Err BadState)
    (cond (not (ltb caller D && ltb other D)) (Err NoDomain)
    (cond (ltb 3 right) (Err NoRight)
    (region_of start len)))))

-- Where no pool is taken, 1 is D's range.
abbrev pub in_range : ℕ → Bool
in_range D = leb 1 D && leb D max_domains

-- What comes of the region asked for; a refusal leaves the list as it came.
abbrev pub answered : List ℕ → (Region → Outcome) → Result Region Refusal → Outcome
answered list f (Err k) = outcome (Err k) list
answered list f (Ok a) = f a

-- A region asked for and one held share a word: the later beginning is below the earlier end.
abbrev pub meets : Region → Owned → Bool
meets a r = ltb (max a.lo r.lo) (min a.hi r.hi)

-- Exactly the words of the region asked for.
abbrev pub same_words : Region → Owned → Bool
same_words a r = eqb r.lo a.lo && eqb r.hi a.hi

-- Region `k` is held and the caller owns it.
abbrev pub owned_at : List ℕ → ℕ → ℕ → Bool
owned_at list caller k = ltb k (count_of list) && eqb caller (region_at list k).owner

-- A region as it is made or passed on: with no export given.
abbrev pub fresh_region : ℕ → Region → Owned
fresh_region owner a = record { owner = owner; lo = a.lo; hi = a.hi; given = 0; rights = 0 }

-- The five words of a region.
abbrev pub owned_words : Owned → List ℕ
owned_words r = r.owner ∷ r.lo ∷ r.hi ∷ r.given ∷ r.rights ∷ []

-- The list with region `k` stored.
abbrev pub put_at : List ℕ → ℕ → Owned → List ℕ
put_at list k r = sets list (5 * k) (owned_words r)

-- A region more, after the last.
abbrev pub added : List ℕ → Owned → List ℕ
added list r = set (put_at list (count_of list) r) count_place (count_of list + 1)

-- A number with bit k set.
abbrev pub with_bit : ℕ → ℕ → ℕ
with_bit g k = cond (eqb (g / 2 ^ k % 2) 1) g (g + 2 ^ k)

-- A word with the right in bits 2k+1 and 2k replaced.
abbrev pub with_right : ℕ → ℕ → ℕ → ℕ
with_right w k q = w - right_at w k * 2 ^ (2 * k) + q * 2 ^ (2 * k)

-- A region once the domain `d` has an export of the right `q`: a later export replaces the earlier.
abbrev pub with_export : Owned → ℕ → ℕ → Owned
with_export r d q = record {
  owner = r.owner;
  lo = r.lo;
  hi = r.hi;
  given = with_bit r.given d;
  rights = with_right r.rights d q;
}

-- Making a region: 19 for a caller other than domain 0 and for a region that meets one held, 20 where 64 are held.
unfoldable pub made : List ℕ → ℕ → ℕ → Region → Outcome
made list caller owner a =
    cond (not (eqb caller supervisor) || ltb (place_of list (meets a)) (count_of list)) (outcome (Err NotAllowed) list)
    (cond (eqb (count_of list) max_regions) (outcome (Err RegionsFull) list)
    (outcome (Ok tt) (added list (fresh_region owner a))))

-- Passing a region on: 19 where none of exactly these words is held, or the earliest is not the caller's. Its exports
-- end.
unfoldable pub passed : List ℕ → ℕ → ℕ → Region → Outcome
passed list caller owner a =
    let k = place_of list (same_words a) in
    cond (owned_at list caller k) (outcome (Ok tt) (put_at list k (fresh_region owner a))) (outcome (Err NotAllowed) list)

-- Giving an export: 19 as in passing on, and for a receiver that is the caller.
unfoldable pub gave : List ℕ → ℕ → ℕ → ℕ → Region → Outcome
gave list caller receiver right a =
    let k = place_of list (same_words a) in
    cond (owned_at list caller k && not (eqb receiver caller))
    (outcome (Ok tt) (put_at list k (with_export (region_at list k) receiver right)))
    (outcome (Err NotAllowed) list)

-- What making a region answers and leaves. It names no right, and 0 is in order.
abbrev pub make_of : ℕ → List ℕ → ℕ → ℕ → ℕ → ℕ → Outcome
make_of D list caller owner start len =
    answered list (made list caller owner) (asked_of (in_range D) list D caller owner 0 start len)

-- What passing a region on answers and leaves. It names no right either.
abbrev pub pass_of : ℕ → List ℕ → ℕ → ℕ → ℕ → ℕ → Outcome
pass_of D list caller owner start len =
    answered list (passed list caller owner) (asked_of (in_range D) list D caller owner 0 start len)

-- What giving an export answers and leaves.
abbrev pub give_of : ℕ → List ℕ → ℕ → ℕ → ℕ → ℕ → ℕ → Outcome
give_of D list caller receiver right start len =
    answered list (gave list caller receiver right) (asked_of (in_range D) list D caller receiver right start len)
