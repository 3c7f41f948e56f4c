-- When a buffer agrees with a table, everywhere or but for what is stale: where a change may have altered rights and
-- no flush has followed.
use Rattle.std.specs.Prelude.{ℕ, ◌<◌, ◌≡◌, Bool, true, false, ◌&&◌, ◌||◌, not, List, eqb}
use Rattle.std.specs.List.{All}
use Rattle.words.specs.declared.Region.{Region}
use Rattle.words.specs.Region.{covered}
use Rattle.theory.specs.Pool.{words, right_of}
use Rattle.table.specs.declared.Shape.{Shape}
use Rattle.table.specs.Map.{addresses, form_of}
use Rattle.lookaside.specs.declared.Slot.{Slot}
use Rattle.lookaside.specs.Slots.{Buffer, matches, slot_right}
use Rattle.lookaside.specs.Flushes.{Flushing, Whole, OfDomain, OfRegion}

-- Rights: of a domain, at an address.
abbrev pub Rights : Type 0
Rights = ℕ → ℕ → ℕ

-- A set of places, each a domain and an address.
abbrev pub Places : Type 0
Places = ℕ → ℕ → Bool

-- No place.
abbrev pub nowhere : Places
nowhere d a = false

-- The places of a domain in a region.
abbrev pub within : ℕ → Region → Places
within e r d a = eqb d e && covered r a

-- The places that a flush clears.
abbrev pub clears : Flushing → Places
clears Whole d a = true
clears (OfDomain e) d a = eqb d e
clears (OfRegion e r) d a = within e r d a

-- The places of either set.
abbrev pub both : Places → Places → Places
both x y d a = x d a || y d a

-- The places of the first set that are not in the second.
abbrev pub less : Places → Places → Places
less x y d a = x d a && not (y d a)

-- The rights of the table in the pool `p`.
abbrev pub rights_of : Shape → List ℕ → Rights
rights_of s p = right_of (form_of s) (words p)

-- Of the first `n` domains, two tables have the same rights but at the places `x`.
abbrev pub SameBut : ℕ → Places → Rights → Rights → Type 0
SameBut n x R T = (d a : ℕ) → d < n → a < addresses → x d a ≡ false → R d a ≡ T d a

-- Of the first `n` domains, the slot answers what the rights say wherever it matches, but at the places `x`.
abbrev pub SlotAgrees : ℕ → Rights → Places → Slot → Type 0
SlotAgrees n R x s = (d a : ℕ) → d < n → a < addresses → x d a ≡ false → matches s d a ≡ true → slot_right s a ≡ R d a

-- The buffer agrees with the rights of `n` domains, but at the places `x`: every slot does.
abbrev pub AgreesBut : ℕ → Rights → Places → Buffer → Type 0
AgreesBut n R x b = All (SlotAgrees n R x) b.slots

-- The buffer agrees with the table in the pool `p`.
abbrev pub Agrees : Shape → List ℕ → Buffer → Type 0
Agrees s p b = AgreesBut s.domains (rights_of s p) nowhere b
