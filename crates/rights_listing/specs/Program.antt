-- The whole program: what it must write for an input, by the paper.
use Rattle.std.specs.Prelude.{ℕ, ◌≡◌, List, ◌++◌, map}
use Rattle.table.specs.Fresh.{fresh_pool}
use Rattle.lines.specs.Cuts.{lines_of}
use Rattle.lines.specs.Forms.{parse_of}
use Rattle.listing.specs.declared.Run.{Run}
use Rattle.listing.specs.Runs.{memory_words, AllRuns, flat}
use Rattle.listing.specs.Listing.{word_right}
use Rattle.rights_listing.specs.Text.{text}
use Rattle.rights_listing.specs.Serves.{whole, Replies}

-- From a fresh pool, the number of each line of the input, one to a line; then the runs of the pool that the lines
-- leave, four numbers to a line.
pub record Writes (input output : List ℕ) : Type 0 where
  pub numbers : List ℕ
  pub pool : List ℕ
  pub runs : List Run
  pub replies : Replies (fresh_pool whole) (map parse_of (lines_of input)) numbers pool
  pub all : AllRuns 4 memory_words (word_right whole pool) runs
  pub is : output ≡ text 1 numbers ++ text 4 (flat runs)
