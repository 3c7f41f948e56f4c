-- Runs: which there are, and how they are written into lent words.
use Rattle.std.specs.Prelude.{ℕ, ◌*◌, ◌-◌, ◌/◌, ◌<◌, ◌≤◌, ◌≡◌, ◌⊎◌, ◌≢◌, List, [], ◌∷◌, ◌++◌, length, take, drop}
use Rattle.listing.specs.declared.Run.{Run}

-- The memory has 2^32 bytes, four to a word.
abbrev pub memory_words : ℕ
memory_words = 1073741824

-- Every run of a list is as `P` says.
unfoldable pub Each : (Run → Type 0) → List Run → Type 0
Each P [] = Unit {0}
Each P (r ∷ rs) = P r × Each P rs

-- Some run of a list is as `P` says.
unfoldable pub Some : (Run → Type 0) → List Run → Type 0
Some P [] = ⊥
Some P (r ∷ rs) = P r ⊎ Some P rs

-- The run has memory word `w` of domain `d`.
pub record Has (d w : ℕ) (r : Run) : Type 0 where
  pub domain : r.domain ≡ d
  pub from : r.first ≤ w
  pub upto : w < r.past

-- Among `D` domains of `n` memory words, of which word `w` of domain `d` has the right `R d w`, `r` is a run of one
-- right other than none.
pub record IsRun (D n : ℕ) (R : ℕ → ℕ → ℕ) (r : Run) : Type 0 where
  pub domain : r.domain < D
  pub some : r.first < r.past
  pub inside : r.past ≤ n
  pub real : r.right ≢ 0
  pub one : (w : ℕ) → r.first ≤ w → w < r.past → R r.domain w ≡ r.right

-- Run `r` comes before run `t`, by domain and then address; where they touch, they have two rights, so that neither
-- could be longer.
abbrev pub RunBefore : Run → Run → Type 0
RunBefore r t = (r.domain < t.domain) ⊎
    ((r.domain ≡ t.domain) × (r.past ≤ t.first) × (r.past ≡ t.first → r.right ≢ t.right))

-- Each run comes before all that follow it.
unfoldable pub Rising : List Run → Type 0
Rising [] = Unit {0}
Rising (r ∷ rs) = Each (RunBefore r) rs × Rising rs

-- By domain and then address, each longest run of one right other than none.
pub record AllRuns (D n : ℕ) (R : ℕ → ℕ → ℕ) (rs : List Run) : Type 0 where
  pub each : Each (IsRun D n R) rs
  pub order : Rising rs
  -- Every word whose right is not none is of a run, whose right is then the word's.
  pub whole : (d w : ℕ) → d < D → w < n → R d w ≢ 0 → Some (Has d w) rs

-- The four words of a run: domain, first byte, last byte, right.
abbrev pub four_of : Run → List ℕ
four_of r = r.domain ∷ (4 * r.first) ∷ (4 * r.past - 1) ∷ r.right ∷ []

-- The words of runs, one after the other.
unfoldable pub flat : List Run → List ℕ
flat [] = []
flat (r ∷ rs) = four_of r ++ flat rs

-- From run number `from` on, as many as have whole room in the lent words `l`.
abbrev pub fitting : ℕ → List Run → List ℕ → List ℕ
fitting from rs l = flat (take (length l / 4) (drop from rs))

-- The lent words afterwards: those runs, and past them what was there.
abbrev pub shown : ℕ → List Run → List ℕ → List ℕ
shown from rs l = fitting from rs l ++ drop (length (fitting from rs l)) l
