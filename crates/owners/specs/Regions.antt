-- Owned regions: what the lent words say, and which region comes first.
use Rattle.std.specs.Prelude.{ℕ, zero, suc, ◌+◌, ◌*◌, ◌≤◌, ◌<◌, ◌≡◌, Bool, true, cond, ◌&&◌, List, length, get_or, leb, ltb}
use Rattle.owners.specs.declared.Owned.{Owned}

-- A list has room for this many regions.
abbrev pub max_regions : ℕ
max_regions = 64

-- Where the count stands: after 64 regions of five words.
abbrev pub count_place : ℕ
count_place = 320

-- The words of a list: the regions, then the count.
abbrev pub list_long : ℕ
list_long = 321

-- Region `i`: owner, lo, hi, given and rights, the five words from `5 * i` on.
abbrev pub region_at : List ℕ → ℕ → Owned
region_at list i = record {
  owner = get_or list (5 * i) 0;
  lo = get_or list (5 * i + 1) 0;
  hi = get_or list (5 * i + 2) 0;
  given = get_or list (5 * i + 3) 0;
  rights = get_or list (5 * i + 4) 0;
}

-- How many regions are held; those from that number on are idle.
abbrev pub count_of : List ℕ → ℕ
count_of list = get_or list count_place 0

-- A list of its length, and no more regions held than it has room for.
abbrev pub Counted : List ℕ → Type 0
Counted list = (length list ≡ list_long) × (count_of list ≤ max_regions)

-- The memory word `w` lies in the region: one with hi at or below lo holds nothing.
abbrev pub holds : ℕ → Owned → Bool
holds w r = leb r.lo w && ltb w r.hi

-- Of the `n` regions from number `i` on, the number of the first that passes a test; the number after them where none
-- does.
unfoldable pub first_from : List ℕ → (Owned → Bool) → ℕ → ℕ → ℕ
first_from list t zero i = i
first_from list t (suc n) i = cond (t (region_at list i)) i (first_from list t n (suc i))

-- The number of the first region held that passes a test: the earlier of two. The count where none does.
abbrev pub place_of : List ℕ → (Owned → Bool) → ℕ
place_of list t = first_from list t (count_of list) 0

-- No word lies in two of the regions held.
abbrev pub Disjoint : List ℕ → Type 0
Disjoint list = (i j w : ℕ) → i < count_of list → j < count_of list → holds w (region_at list i) ≡ true
    → holds w (region_at list j) ≡ true → i ≡ j
