-- For the inner functions: how far a verdict reaches, the words from one on that lie in the same region; and whether
-- a change by a caller may begin.
use Rattle.std.specs.Prelude.{ℕ, ◌≤◌, ◌<◌, ◌≡◌, ◌⊎◌, Bool, cond, List, ltb, Option, Some, None, Result, Ok, Err, ⊤}
use Rattle.refusals.specs.declared.Refusal.{Refusal}
use Rattle.refusals.specs.declared.Refusal.TheVariants.{NotAllowed}
use Rattle.words.specs.declared.Region.{Region}
use Rattle.owners.specs.declared.Owned.{Owned}
use Rattle.owners.specs.declared.Reach.{Reach}
use Rattle.owners.specs.Regions.{count_of, holds, place_of}
use Rattle.owners.specs.Rules.{Allowed}
use Rattle.owners.specs.Calls.{same_words, owned_at}

-- The number of the first region held that passes a test, where one does.
abbrev pub found : List ℕ → (Owned → Bool) → Option ℕ
found list t = let k = place_of list t in cond (ltb k (count_of list)) (Some k) None

-- The number of the earliest region of exactly the words asked for, where the caller owns it.
abbrev pub found_own : List ℕ → ℕ → Region → Option ℕ
found_own list caller a = let k = place_of list (same_words a) in cond (owned_at list caller k) (Some k) None

-- The words of a region held, without its owner and exports.
abbrev pub bounds_of : Owned → Region
bounds_of r = record { lo = r.lo; hi = r.hi }

-- The region that `w` lies in, and a word above `w` below which every word from `w` on lies in the same.
pub record Reaches (list : List ℕ) (w : ℕ) (r : Reach) : Type 0 where
  pub place : r.place ≡ found list (holds w)
  pub further : w < r.until
  pub same : (v : ℕ) → w ≤ v → v < r.until → found list (holds v) ≡ r.place

-- A caller may set the right `r` for domain `d` on the region that it asked for, or what it is refused.
abbrev pub LeaveIs : List ℕ → ℕ → ℕ → ℕ → Result Region Refusal → Result ⊤ Refusal → Type 0
LeaveIs list caller d r asked (Ok _) = (g : Region) × (asked ≡ Ok g) × Allowed list caller d r g
LeaveIs list caller d r asked (Err k) =
    (asked ≡ Err k) ⊎ ((k ≡ NotAllowed) × (g : Region) × (asked ≡ Ok g) × (Allowed list caller d r g → ⊥))
