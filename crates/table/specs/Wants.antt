-- Whether a block wants a table, as a test over its words, and the entry of a block that wants none.
use Rattle.std.specs.Prelude.{ℕ, zero, suc, ◌+◌, ◌*◌, ◌/◌, ◌<◌, ◌≡◌, Bool, false, ◌||◌, not, eqb}
use Rattle.words.specs.Rights.{pack}
use Rattle.table.specs.Map.{addresses, part, parts, part_at}

-- One of the first `n` numbers passes the test `f`.
unfoldable pub any : (ℕ → Bool) → ℕ → Bool
any f zero = false
any f (suc n) = f n || any f n

-- The address of word `j` of sub-block `i` of the block of an entry of height `h` around `a`.
abbrev pub word_at : ℕ → ℕ → ℕ → ℕ → ℕ
word_at h a i j = part_at h a i + 4 * j

-- How many words a sub-block has.
abbrev pub words_in : ℕ → ℕ
words_in h = part h / 4

-- Sub-block `i` of that block has a word with another right than its first.
abbrev pub mixed : (ℕ → ℕ) → ℕ → ℕ → ℕ → Bool
mixed R h a i = any (λ j. not (eqb (R (word_at h a i j)) (R (word_at h a i 0)))) (words_in h)

-- The block of height `h` around `a` has such a sub-block: it wants a table.
abbrev pub wants_of : (ℕ → ℕ) → ℕ → ℕ → Bool
wants_of R h a = any (mixed R h a) (parts h)

-- What stands above the rights of an entry: bit 31 in a root or middle entry.
abbrev pub above : ℕ → ℕ
above zero = 0
above (suc h) = 32768

-- The entry of a block that wants no table: the right of the first word of each sub-block.
abbrev pub said_of : (ℕ → ℕ) → ℕ → ℕ → ℕ
said_of R h a = pack (above h) (parts h) (λ i. R (word_at h a i 0))

-- Rights of words: below 4, and one for the four bytes of a word.
pub record WordRights (R : ℕ → ℕ) : Type 0 where
  pub small : (a : ℕ) → a < addresses → R a < 4
  pub word : (a : ℕ) → R a ≡ R (a / 4 * 4)
