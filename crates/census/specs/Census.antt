-- What the census of a pool must answer.
use Rattle.std.specs.Prelude.{ℕ, ◌*◌, ◌<◌, ◌≡◌, ◌⊎◌, Bool, true, List, length, get_or}
use Rattle.theory.specs.Pool.{words, SoundPool}
use Rattle.table.specs.declared.Shape.{Shape}
use Rattle.table.specs.Map.{form_of}
use Rattle.places.specs.Count.{blocks}
use Rattle.places.specs.Final.{entry_of, old}
use Rattle.census.specs.Places.{max_places, place_height, place_word}
use Rattle.census.specs.Tally.{none}

-- Block `i`, of the blocks that may have a table of place `n`'s height, has its table there.
pub record StandsAt (p : List ℕ) (s : Shape) (n i : ℕ) : Type 0 where
  pub block : i < blocks (place_height n) * s.domains
  pub table : old (words p) (place_height n) i ≡ true
  pub there : words p (entry_of (words p) (place_height n) i) ≡ place_word s n

-- The owners of the places: of each place the number of the block whose table stands there, and none where no table
-- does.
pub record Owners (p : List ℕ) (s : Shape) (o : List ℕ) : Type 0 where
  pub long : length o ≡ max_places
  pub owns : (n i : ℕ) → n < max_places → StandsAt p s n i → get_or o n 0 ≡ i
  pub stands : (n : ℕ) → n < max_places → (get_or o n 0 ≡ none) ⊎ StandsAt p s n (get_or o n 0)

-- The census answers true exactly where the pool is sound, and then leaves the owners; else what it leaves does not
-- matter.
pub record Census (p : List ℕ) (s : Shape) (r : Bool) (o : List ℕ) : Type 0 where
  pub sound : r ≡ true → SoundPool (form_of s) (words p)
  pub whole : SoundPool (form_of s) (words p) → r ≡ true
  pub owners : r ≡ true → Owners p s o
