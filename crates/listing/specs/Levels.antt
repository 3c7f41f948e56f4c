-- Tables and entries by memory words: for which words they stand, and which rights they give them. Heights count from
-- below: 0 a leaf, 2 a root.
use Rattle.std.specs.Prelude.{ℕ, ◌+◌, ◌*◌, ◌/◌, ◌%◌, ◌<◌, ◌≤◌, ◌≡◌, List, length}
use Rattle.theory.specs.Pool.{words, Reach, SoundPool, Roots, right}
use Rattle.words.specs.Rights.{right_at}
use Rattle.table.specs.declared.Shape.{Shape}
use Rattle.table.specs.Shape.{Fits, size}
use Rattle.table.specs.Map.{part, parts, index, form_of}
use Rattle.table.specs.Entries.{block_words, same_of}
use Rattle.listing.specs.Runs.{memory_words}

-- For how many words a table stands.
abbrev pub table_words : ℕ → ℕ
table_words h = size h * block_words h

-- The `n` entries of a height from pool word `k` on say the right `q` for their whole blocks.
abbrev pub AllSay : List ℕ → ℕ → ℕ → ℕ → ℕ → Type 0
AllSay p h k n q = (j : ℕ) → j < n → (words p (k + j) ≡ same_of h q) × (q < 4)

-- The right that an entry which is rights gives to word `w`.
abbrev pub entry_says : ℕ → ℕ → ℕ → ℕ
entry_says h e w = right_at e (4 * w / part h % parts h)

-- The right that the entry at pool word `k` gives to word `w`.
abbrev pub entry_right : Shape → List ℕ → ℕ → ℕ → ℕ → ℕ
entry_right s p h k w = right (form_of s) (words p) h k (4 * w)

-- The right that the table at pool word `b` gives to it.
abbrev pub table_right : Shape → List ℕ → ℕ → ℕ → ℕ → ℕ
table_right s p h b w = entry_right s p h (b + index h (4 * w)) w

-- The entry at pool word `k` is reached in a sound pool, and its block begins at word `a`.
pub record EntryAt (p : List ℕ) (s : Shape) (h k a : ℕ) : Type 0 where
  pub fits : Fits s (length p)
  pub sound : SoundPool (form_of s) (words p)
  pub reached : Reach (form_of s) (words p) (Roots (form_of s)) h k
  pub aligned : a % block_words h ≡ 0
  pub inside : a + block_words h ≤ memory_words

-- The table at pool word `b` is for the words from `a` on, each of its entries for its block.
pub record TableAt (p : List ℕ) (s : Shape) (h b a : ℕ) : Type 0 where
  pub entries : (i : ℕ) → i < size h → EntryAt p s h (b + i) (a + i * block_words h)
  pub aligned : a % table_words h ≡ 0

-- The entry is so in some shape: a walker of a sound pool need not be told which.
pub record SomeEntry (p : List ℕ) (h k a : ℕ) : Type 0 where
  pub shape : Shape
  pub entry : EntryAt p shape h k a

-- The table is so in some shape.
pub record SomeTable (p : List ℕ) (h b a : ℕ) : Type 0 where
  pub shape : Shape
  pub table : TableAt p shape h b a
