-- The finished pool of the paper's form, word by word, from the rights and from who owns which place.
-- What is said of a height `h` below 2 is said of the tables of that height: 0 the leaves, 1 the middle tables.
use Rattle.std.specs.Prelude.{ℕ, zero, suc, ◌+◌, ◌*◌, ◌-◌, ◌/◌, ◌%◌, ◌<◌, Bool, true, cond, ◌&&◌, not, eqb, ltb}
use Rattle.words.specs.Region.{covered}
use Rattle.words.specs.declared.Region.{Region}
use Rattle.table.specs.declared.Shape.{Shape}
use Rattle.table.specs.Shape.{first_middle, first_place, places, size}
use Rattle.table.specs.Map.{block, leads, zone}
use Rattle.table.specs.Wants.{said_of}
use Rattle.places.specs.Count.{heights, blocks, domain_of, address_of, want}
use Rattle.places.specs.Owners.{seek, Owned}

-- The number, over all domains, of the block around `a` that may have a table of height `h`.
abbrev pub number : ℕ → ℕ → ℕ → ℕ
number h d a = blocks h * d + a / block (suc h)

-- The word of the old pool `P` that is the entry of block `i`.
abbrev pub entry_of : (ℕ → ℕ) → ℕ → ℕ → ℕ
entry_of P zero i = P (i / 1024) + i % 1024
entry_of P (suc h) i = i

-- Block `i` had a table: its entry, and the one above it, led ..
abbrev pub old : (ℕ → ℕ) → ℕ → ℕ → Bool
old P zero i = leads 2 (P (i / 1024)) && leads 1 (P (entry_of P 0 i))
old P (suc h) i = leads 2 (P i)

module _ (s : Shape) where
  -- .. to this place.
  abbrev pub was : (ℕ → ℕ) → ℕ → ℕ → ℕ
  was P h i = (P (entry_of P h i) - first_place s h) / size h

  -- Where place `p` begins.
  abbrev pub place_at : ℕ → ℕ → ℕ
  place_at h p = first_place s h + size h * p

  -- The tables that the rights `R` want, from the pool `P` on, have their places at every height. `free h p`: no kept
  -- table stands at place `p`; `owner h p`: the block whose table stands there.
  abbrev pub AllOwned : (ℕ → ℕ → ℕ) → (ℕ → ℕ) → (ℕ → ℕ → Bool) → (ℕ → ℕ → ℕ) → Type 0
  AllOwned R P free owner =
      (h : ℕ) → h < heights
      → Owned (blocks h * s.domains) (places s h) (want R h) (old P h) (free h) (was P h) (owner h)

  module _ (owner : ℕ → ℕ → ℕ) where
    -- Where the table of block `i` begins.
    abbrev pub table_of : ℕ → ℕ → ℕ
    table_of h i = place_at h (seek (owner h) i (places s h))

    -- Where the table of height `h` for the block around `a` begins, a root too.
    abbrev pub place : ℕ → ℕ → ℕ → ℕ
    place h d a = cond (ltb h heights) (table_of h (number h d a)) (1024 * d)

    module _ (R : ℕ → ℕ → ℕ) (P : ℕ → ℕ) where
      -- The entry of block `i` leads to its table, or says its rights.
      abbrev pub entry_word : ℕ → ℕ → ℕ
      entry_word h i = cond (want R h i) (table_of h i) (said_of (R (domain_of h i)) (suc h) (address_of h i))

      -- Entry `e` of the table of block `i`.
      abbrev pub table_word : ℕ → ℕ → ℕ → ℕ
      table_word zero i e = said_of (R (domain_of 0 i)) 0 (address_of 0 i + 64 * e)
      table_word (suc h) i e = entry_word h (1024 * i + e)

      -- Entry `e` of place `p`, which is word `k`: of the table that stands there; else the place holds what it held
      -- before.
      abbrev pub place_word : ℕ → ℕ → ℕ → ℕ → ℕ
      place_word h k p e = cond (ltb p (places s h) && ltb (owner h p) (blocks h * s.domains))
          (table_word h (owner h p) e) (P k)

      -- Word `k` of the finished pool.
      unfoldable pub final : ℕ → ℕ
      final k =
          cond (ltb k (first_middle s)) (entry_word 1 k)
          (place_word (zone s k) k ((k - first_place s (zone s k)) / size (zone s k))
          ((k - first_place s (zone s k)) % size (zone s k)))

  -- Word `k` is of a root, or of a table that both pools have: none such stands at a free place.
  unfoldable pub kept_word : (ℕ → ℕ → Bool) → ℕ → Bool
  kept_word free k =
      cond (ltb k (first_middle s)) true
      (ltb ((k - first_place s (zone s k)) / size (zone s k)) (places s (zone s k))
      && not (free (zone s k) ((k - first_place s (zone s k)) / size (zone s k))))

-- The rights after a change: domain `e` has the right `r` on the covered words, and all else is as in `R`.
abbrev pub changed : (ℕ → ℕ → ℕ) → ℕ → Region → ℕ → ℕ → ℕ → ℕ
changed R e region r d a = cond (eqb d e && covered region a) r (R d a)
