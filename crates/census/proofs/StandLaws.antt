-- Laws of entries and tables by the numbers of their blocks: which word is the entry of a block, and which block's
-- table stands at a place.
use Prim.Native.Nat.{ℕ, zero, suc, ◌+◌, ◌*◌, ◌/◌, ◌%◌, ◌≤◌, ◌<◌}
use mathlib.Core.Path.{◌≡◌, refl, sym, ap, ◌∙◌}
use mathlib.Core.Bool.{true}
use mathlib.Core.List.{List}
use native.Mathlib.Omega.{arith}
use Rattle.theory.specs.Pool.{words}
use Rattle.table.specs.declared.Shape.{Shape}
use Rattle.table.specs.Map.{leads}
use Rattle.places.specs.Count.{blocks}
use Rattle.places.specs.Final.{entry_of, old}
use Rattle.census.specs.Places.{place_height}
use Rattle.census.proofs.PlaceLaws.{PlaceAt}
use Rattle.census.specs.Tally.{none}
use Rattle.census.specs.Census.{StandsAt}

module _ (D : ℕ) (P : ℕ → ℕ) where
  -- Word `k` is the entry of block `i`, which has a table of height `h` where the word leads.
  pub record EntryOf (h k i : ℕ) : Type 0 where
    pub block : i < blocks h * D
    pub word : k ≡ entry_of P h i
    pub has : leads (suc h) (P k) ≡ true → old P h i ≡ true

  -- The words of the table at `t`, of height `h`, are the entries of the blocks in block `i`. (Those of a leaf have
  -- no tables.)
  abbrev pub TableOf : ℕ → ℕ → ℕ → Type 0
  TableOf zero t i = Unit {0}
  TableOf (suc h) t i = (e : ℕ) → e < 1024 → EntryOf h (t + e) (1024 * i + e)

  -- A root, and the table to which an entry leads.
  pub root_table : (d : ℕ) → d < D → TableOf 2 (1024 * d) d
  root_table d b e c = record { block = omega arith; word = refl; has = λ l. l }

  pub entry_table : (h k i : ℕ) → h < 2 → EntryOf h k i → leads (suc h) (P k) ≡ true → TableOf h (P k) i
  entry_table zero k i hi x l = tt
  entry_table (suc zero) k i hi x l = λ e b.
      let q : (1024 * i + e) / 1024 ≡ i = omega arith in
      let r : (1024 * i + e) % 1024 ≡ e = omega arith in
      let w : P k + e ≡ entry_of P 0 (1024 * i + e) = rw (q, r, x.word) refl in
      record {
        block = let c = x.block in omega arith;
        word = w;
        has = λ m. rw (q, r, x.has l, ap P (sym x.word)) m;
      }
  entry_table (suc (suc h)) k i hi x l = absurd (omega arith)

-- A block's number is below that of none.
pub block_few : (D h i : ℕ) → D ≤ 4 → i < blocks h * D → i < none
block_few D zero i d b = omega arith
block_few D (suc h) i d b = omega arith

-- Where the entry of a block leads to a place, the block's table stands there.
pub stands_at : (p : List ℕ) (s : Shape) (h k i n : ℕ) → EntryOf s.domains (words p) h k i
    → leads (suc h) (words p k) ≡ true
    → PlaceAt s (suc h) (words p k) n → StandsAt p s n i
stands_at p s h k i n x l y = go (place_height n) (let e = y.height in omega arith) refl
  where
    go : (m : ℕ) → m ≡ h → place_height n ≡ m → StandsAt p s n i
    go m e f = record {
      block = rw (f, e) x.block;
      table = rw (f, e) (x.has l);
      there = rw (f, e) (ap (words p) (sym x.word) ∙ sym y.word);
    }
