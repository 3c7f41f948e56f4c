-- Which words have nothing to do in a phase, and which one is stored next. For the inner functions.
use Rattle.std.specs.Prelude.{ℕ, suc, ◌+◌, ◌*◌, ◌-◌, ◌<◌, ◌≤◌, ◌≡◌, ◌⊎◌, Bool, true, false, not, List, eqb, length}
use Rattle.theory.specs.Pool.{words}
use Rattle.words.specs.Rights.{good_rights}
use Rattle.table.specs.declared.Shape.{Shape}
use Rattle.table.specs.Shape.{size}
use Rattle.table.specs.Map.{leads}
use Rattle.plan.specs.declared.Edge.{Edge}
use Rattle.plan.specs.Plan.{Plan, edge_of, InTable, of_table, of_new, entry_after, table_after, after, new_word}
use Rattle.change.specs.declared.Cursor.{Cursor}
use Rattle.change.specs.Runs.{Change}
use Rattle.change.specs.declared.ahead.Span.{Span}
use Rattle.change.specs.Runs.{Run, Stands}

-- From word `k` on the next row is `r`, not after `best`: all words before it are as `Passed` says. It has a word, or
-- is `best`.
pub record Ahead (k : ℕ) (best : Span) (Passed : ℕ → Type 0) (r : Span) : Type 0 where
  pub from : k ≤ r.from.0
  pub upto : r.from.0 ≤ best.from.0
  pub some : (r.from.0 < r.past.0) ⊎ (r ≡ best)
  pub passed : (j : ℕ) → k ≤ j → j < r.from.0 → Passed j

-- Word `j` is none of those from `start` up to `past`.
abbrev pub Outside : ℕ → ℕ → ℕ → Type 0
Outside start past j = start ≤ j → j < past → ⊥

-- The plan leaves word `j` as it is.
abbrev pub Untouched : Plan → ℕ → Type 0
Untouched q j = (x : ℕ) → x < 4294967296 → after q j x ≡ x

-- Of the table of height `h` that begins at word `t`, and whose first entry has the number `n`, `j` is no word that
-- the plan alters.
abbrev pub EntriesIdle : Plan → ℕ → ℕ → ℕ → ℕ → Type 0
EntriesIdle q h n t j =
    InTable t (size h) j ≡ true → (x : ℕ) → x < 4294967296 → entry_after q h (n + (j - t)) x ≡ x

-- The same of the table of an edge, if it stays.
abbrev pub TableIdle : Plan → ℕ → Edge → ℕ → Type 0
TableIdle q h e j =
    leads (suc h) e.old ≡ true → of_table h e j ≡ true → (x : ℕ) → x < 4294967296
    → table_after q h e (j - e.last) x ≡ x

-- Of the root and of the middle tables that stay; of the leaves that do.
abbrev pub HighIdle : Plan → ℕ → Type 0
HighIdle q j = EntriesIdle q 2 0 (1024 * q.domain) j × ((first : Bool) → TableIdle q 1 (edge_of q 1 first) j)

abbrev pub LowIdle : Plan → ℕ → Type 0
LowIdle q j = (first : Bool) → TableIdle q 0 (edge_of q 0 first) j

-- Word `j` is none of the edge's new table.
abbrev pub NotNew : ℕ → Edge → ℕ → Type 0
NotNew h e j = of_new h e j ≡ false

-- It is of no new table.
abbrev pub NewIdle : Plan → ℕ → Type 0
NewIdle q j = new_word q j ≡ false

-- It is of the leaf of an edge.
abbrev pub InLeaf : Plan → ℕ → Type 0
InLeaf q j = (first : Bool) × (of_table 0 (edge_of q 0 first) j ≡ true)

-- In phase `c` there is nothing to do at word `j`: it stays as it is; it is of a new table, or in the phase of new
-- tables it is of none; or in the phase of words that lead it is of a leaf.
abbrev pub Idle : Plan → ℕ → ℕ → Type 0
Idle q c j = Untouched q j ⊎ ((new_word q j ≡ not (eqb c 2)) ⊎ ((c ≡ 1) × InLeaf q j))

-- After the cursor's row comes the row of the cursor `r`, in a pool of `n` words: of the same phase, or of the next
-- one once this is through.
pub record NextRow (q : Plan) (at : Cursor) (n : ℕ) (r : Cursor) : Type 0 where
  pub row : (r.word.0 ≤ r.past.0) × (r.past.0 ≤ n)
  pub last : r.phase ≤ 4
  pub moves : at.phase * 4294967296 + at.past.0 < r.phase * 4294967296 + r.past.0
  pub comes : (s : Shape) (u : Run s (Change q)) (x : List ℕ) → length x ≡ n → Stands s (Change q) u at.phase
      at.past.0 x
      → Stands s (Change q) u r.phase r.word.0 x

-- Of the `size` entries from entry `begin` on, `r` come before entry `n`.
pub record EntriesBefore (size begin n r : ℕ) : Type 0 where
  pub most : r ≤ size
  pub before : (i : ℕ) → i < r → begin + i < n
  pub after_them : (i : ℕ) → r ≤ i → i < size → n ≤ begin + i

-- `r` of the `n` words from `k` on have nothing to do in phase `c`: it is the first, and they are eight rights.
pub record PlainWords (p : List ℕ) (c k n r : ℕ) : Type 0 where
  pub most : r ≤ n
  pub plain : (j : ℕ) → k ≤ j → j < k + r → (c ≡ 1) × (good_rights (words p j) ≡ true)
