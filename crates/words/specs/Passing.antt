-- Passing over words that are eight rights, or that are all the same.
use Rattle.std.specs.Prelude.{ℕ, ◌+◌, ◌≤◌, ◌<◌, ◌≡◌, true, false, List, get_or}
use Rattle.words.specs.Rights.{good_rights}

-- The words from `from` up to `to` are all eight rights.
abbrev pub Passed : List ℕ → ℕ → ℕ → Type 0
Passed p from to = (k : ℕ) → from ≤ k → k < to → good_rights (get_or p k 0) ≡ true

-- `r` is the first of the words `from ≤ k < to` that is not eight rights, or `to` where each is.
pub record SkipsRights (p : List ℕ) (from to r : ℕ) : Type 0 where
  pub low : from ≤ r
  pub high : r ≤ to
  pub passed : Passed p from r
  pub stops : r < to → good_rights (get_or p r 0) ≡ false

-- The `n` words from `from` on are all `v`.
abbrev pub AllSame : List ℕ → ℕ → ℕ → ℕ → Type 0
AllSame p from n v = (j : ℕ) → j < n → get_or p (from + j) 0 ≡ v
