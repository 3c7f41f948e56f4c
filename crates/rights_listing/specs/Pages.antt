-- The listing as text, in pages of 1,024 runs.
use Rattle.std.specs.Prelude.{ℕ, ◌+◌, ◌-◌, ◌≡◌, ◌≢◌, List, ◌++◌, Result, Ok, Err, length, take, drop}
use Rattle.io.specs.Counts.{IsPrefixLen}
use Rattle.theory.specs.Pool.{words, SoundPool}
use Rattle.table.specs.Shape.{Fits}
use Rattle.table.specs.Map.{form_of}
use Rattle.listing.specs.declared.Run.{Run}
use Rattle.listing.specs.Runs.{memory_words, AllRuns, flat}
use Rattle.listing.specs.Listing.{word_right}
use Rattle.rights_listing.specs.declared.Stopped.{Stopped}
use Rattle.rights_listing.specs.declared.Stopped.TheVariants.{NoOutput}
use Rattle.rights_listing.specs.declared.pages.Page.{Page}
use Rattle.rights_listing.specs.Text.{text}
use Rattle.rights_listing.specs.Serves.{whole}

-- The page from run number `from` on, of the pool `p`: its text in the lent bytes, and how many runs come after it.
pub data ShowsPage (p : List ℕ) (from : ℕ) : Page → List ℕ → Type 0 where
  -- A pool of another length, or one that is not sound, has no listing.
  no_listing : {out : List ℕ} → (Fits whole (length p) → SoundPool (form_of whole) (words p) → ⊥)
      → ShowsPage p from (record { len = 0; left = 0 }) out
  page : {n : ℕ} {out : List ℕ} → Fits whole (length p) → SoundPool (form_of whole) (words p)
      → (rs : List Run) → AllRuns 4 memory_words (word_right whole p) rs
      → take n out ≡ text 4 (flat (take 1024 (drop from rs))) → IsPrefixLen n out
      → ShowsPage p from (record { len = n; left = length rs - (from + 1024) }) out

-- The page was handed over to be written; whether it was written is beyond any contract.
pub data HandsOver (p : List ℕ) (from : ℕ) : Result ℕ Stopped → Type 0 where
  written : {g : Page} {out : List ℕ} → ShowsPage p from g out → HandsOver p from (Ok g.left)
  not_written : {g : Page} {out : List ℕ} → ShowsPage p from g out → HandsOver p from (Err NoOutput)

-- Pages one after the other from run number `from` on, until nothing is left: how many, and their text.
pub data ShowsPages (p : List ℕ) : ℕ → ℕ → List ℕ → Type 0 where
  last : {from : ℕ} {g : Page} {out : List ℕ} → ShowsPage p from g out → g.left ≡ 0
      → ShowsPages p from 1 (take g.len out)
  next : {from k : ℕ} {g : Page} {out more : List ℕ} → ShowsPage p from g out → g.left ≢ 0
      → ShowsPages p (from + 1024) k more → ShowsPages p from (k + 1) (take g.len out ++ more)

-- How many pages were handed over from the first on until nothing was left; or one could not be written.
pub data ShowsAll (p : List ℕ) : Result ℕ Stopped → Type 0 where
  no_page : ShowsAll p (Err NoOutput)
  to_the_last : {k : ℕ} {bytes : List ℕ} → ShowsPages p 0 k bytes → ShowsAll p (Ok k)
