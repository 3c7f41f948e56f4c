-- The census as a program takes it: an entry is checked, and the table that it leads to, one level down, under the
-- number of its block; a place that has an owner already is refused a second.
use Rattle.std.specs.Prelude.{ℕ, zero, suc, ◌+◌, ◌*◌, ◌-◌, ◌<◌, ◌≡◌, Bool, true, false, cond, not, List, eqb, get_or, set, replicate}
use Rattle.theory.specs.Pool.{words}
use Rattle.words.specs.Rights.{good_rights}
use Rattle.table.specs.declared.Shape.{Shape}
use Rattle.table.specs.declared.Entry.{Entry}
use Rattle.table.specs.declared.Entry.TheVariants.{Rights, Leads, Bad}
use Rattle.table.specs.Entries.{decode_of}
use Rattle.census.specs.Places.{max_places}

-- The owner of a place where no table stands: a number that no block has.
abbrev pub none : ℕ
none = 0xFFFFFFFF

-- Refused, or fine, with the owners so far.
pub data Tally : Type 0 where
  refused : Tally
  owned : List ℕ → Tally

-- One check after another.
abbrev pub and_then : Tally → (List ℕ → Tally) → Tally
and_then refused f = refused
and_then (owned o) f = f o

-- Place `n` has an owner.
abbrev pub taken : List ℕ → ℕ → Bool
taken o n = not (eqb (get_or o n 0) none)

-- Place `n` becomes that of block `i`.
abbrev pub give : ℕ → ℕ → List ℕ → Tally
give n i o = cond (taken o n) refused (owned (set o n i))

-- The entry of block `i`, where `down` checks the table that it leads to.
unfoldable pub enter : (ℕ → ℕ → List ℕ → Tally) → Entry → ℕ → List ℕ → Tally
enter down (Rights w) i o = owned o
enter down Bad i o = refused
enter down (Leads t n) i o = and_then (give n i o) (down t.0 i)

-- The `n` words from word `k` on, the entries of the blocks from `i` on, where `f` checks one.
unfoldable pub through : (ℕ → ℕ → List ℕ → Tally) → ℕ → ℕ → ℕ → List ℕ → Tally
through f zero k i o = owned o
through f (suc n) k i o = and_then (f k i o) (through f n (k + 1) (i + 1))

-- The `n` words of the pool `P` from word `k` on are eight rights each.
abbrev pub AllPlain : (ℕ → ℕ) → ℕ → ℕ → Type 0
AllPlain P k n = (j : ℕ) → j < n → good_rights (P (k + j)) ≡ true

module _ (s : Shape) (p : List ℕ) where
  -- The table of a height that begins at `t`, of block `i` (a root is that of its domain): its entries are those of
  -- the blocks from `1024 * i` on. In a leaf every value is good.
  unfoldable pub table_tally : ℕ → ℕ → ℕ → List ℕ → Tally
  table_tally zero t i o = owned o
  table_tally (suc h) t i o = through (λ k j. enter (table_tally h) (decode_of s (suc h) (words p k)) j) 1024 t
      (1024 * i) o

  -- The word `w` as the entry of the height `h` of block `i`.
  abbrev pub entry_tally : ℕ → ℕ → ℕ → List ℕ → Tally
  entry_tally h w i = enter (table_tally (h - 1)) (decode_of s h w) i

  -- The first `n` roots, in order of domain.
  unfoldable pub roots_tally : ℕ → Tally
  roots_tally zero = owned (replicate max_places none)
  roots_tally (suc n) = and_then (roots_tally n) (table_tally 2 (1024 * n) n)

-- A function answers `r` and leaves `o` in the lent numbers; what it leaves where it refuses does not matter.
abbrev pub Answers : Tally → Bool → List ℕ → Type 0
Answers refused r o = r ≡ false
Answers (owned x) r o = (r ≡ true) × (o ≡ x)

-- How many tables of a height D domains may have: roots, middle tables, leaves.
abbrev pub tables : ℕ → ℕ → ℕ
tables D zero = 1048576 * D
tables D (suc zero) = 1024 * D
tables D (suc (suc h)) = D
