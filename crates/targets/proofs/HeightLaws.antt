-- Laws of the numbers of a height: the words, the entries and the number of a sub-block, by cases of the heights.
use Prim.Native.Nat.{ℕ, zero, suc, ◌+◌, ◌*◌, ◌-◌, ◌/◌, ◌%◌, ◌≤◌, ◌<◌}
use mathlib.Core.Path.{◌≡◌}
use native.Mathlib.Omega.{arith}
use Rattle.table.specs.Shape.{size}
use Rattle.table.specs.Map.{block}
use Rattle.table.specs.Wants.{words_in}
use Rattle.targets.specs.Targets.{entry_blocks}
use Rattle.targets.proofs.PartLaws.{part_word}

-- A height above the leaf is one above the height below.
pub above_below : (h : ℕ) → 0 < h → h ≡ suc (h - 1)
above_below h l = omega arith

pub few_blocks : (b n : ℕ) → n < entry_blocks (suc b) → n < 1048576
few_blocks zero n l = omega arith
few_blocks (suc b) n l = omega arith

-- A block has a word ..
pub some_word : (h : ℕ) → 0 < block h / 4
some_word zero = omega arith
some_word (suc zero) = omega arith
some_word (suc (suc h)) = omega arith

-- .. whose address tells the number of the block.
pub entry_number : (h n k : ℕ) → k < block h / 4 → 4 * (n * (block h / 4) + k) / block h ≡ n
entry_number zero n k l = omega arith
entry_number (suc zero) n k l = omega arith
entry_number (suc (suc h)) n k l = omega arith

-- Word `k` of block `j` of those from number `n` on, as a word of them all ..
pub entry_word_lem : (h n j k : ℕ) → n * (block h / 4) + (block h / 4 * j + k) ≡ (n + j) * (block h / 4) + k
entry_word_lem zero n j k = omega arith
entry_word_lem (suc zero) n j k = omega arith
entry_word_lem (suc (suc h)) n j k = omega arith

-- .. is one of the words of `m` blocks ..
pub entry_below : (h m j k : ℕ) → j < m → k < block h / 4 → block h / 4 * j + k < block h / 4 * m
entry_below zero m j k l o = omega arith
entry_below (suc zero) m j k l o = omega arith
entry_below (suc (suc h)) m j k l o = omega arith

-- .. and each of these is word `k` of a block `j`.
pub word_entry : (h m i : ℕ) → i < block h / 4 * m → (j : ℕ) × (k : ℕ) × (j < m) × (k < block h / 4)
    × (i ≡ block h / 4 * j + k)
word_entry zero m i l = (i / 16, i % 16, omega arith, omega arith, omega arith)
word_entry (suc zero) m i l = (i / 1024, i % 1024, omega arith, omega arith, omega arith)
word_entry (suc (suc h)) m i l = (i / 1048576, i % 1048576, omega arith, omega arith, omega arith)

-- The block numbered `n`, of `long` words, lies in the memory.
pub block_room : (h long : ℕ) → long ≡ block h / 4 → (n : ℕ) → n < entry_blocks h → n * long + long ≤ 1073741824
block_room h long is n l = rw is (cases h l)
  where
    cases : (h : ℕ) → n < entry_blocks h → n * (block h / 4) + block h / 4 ≤ 1073741824
    cases zero l = omega arith
    cases (suc zero) l = omega arith
    cases (suc (suc h)) l = omega arith

-- The blocks of the entries of its table, whose entries have the height `b`, lie there too.
pub table_room : (b n : ℕ) → b < 2 → n < entry_blocks (suc b) → size b * n + size b ≤ entry_blocks b
table_room zero n l m = omega arith
table_room (suc zero) n l m = omega arith
table_room (suc (suc b)) n l m = absurd (omega arith)

-- They have its words: the same first one, and as many.
pub table_first : (b n : ℕ) → b < 2 → size b * n * (block b / 4) ≡ n * (block (suc b) / 4)
table_first zero n l = omega arith
table_first (suc zero) n l = omega arith
table_first (suc (suc b)) n l = absurd (omega arith)

pub table_whole : (b : ℕ) → b < 2 → block b / 4 * size b ≡ block (suc b) / 4
table_whole zero l = omega arith
table_whole (suc zero) l = omega arith
table_whole (suc (suc b)) l = absurd (omega arith)

-- No height has more blocks than a leaf entry's.
pub most_blocks : (h : ℕ) → entry_blocks h ≤ 67108864
most_blocks zero = omega arith
most_blocks (suc zero) = omega arith
most_blocks (suc (suc h)) = omega arith

-- Sub-block `i` of the block numbered `n`, of `long` words.
module _ (b n i long : ℕ) (is : long ≡ words_in (suc b)) where
  pub part_first : (8 * n + i) * long ≡ part_word (suc b) n i
  part_first = rw is (cases b)
    where
      cases : (b : ℕ) → (8 * n + i) * words_in (suc b) ≡ part_word (suc b) n i
      cases zero = omega arith
      cases (suc b) = omega arith

  pub part_room : n < entry_blocks (suc b) → i < 8 → (8 * n + i) * long + long ≤ 1073741824
  part_room l m = rw is (cases b l)
    where
      cases : (b : ℕ) → n < entry_blocks (suc b) → (8 * n + i) * words_in (suc b) + words_in (suc b) ≤ 1073741824
      cases zero l = omega arith
      cases (suc b) l = omega arith

-- Sub-block `i` has `count` entries of the table, whose entries have the height `b`.
pub record Entries (b n i count : ℕ) : Type 0 where
  pub low : b < 2
  pub some : 0 < count
  pub end : count * i + count ≤ 1024
  -- They are in the table, and their blocks in the memory ..
  pub inside : count * i + count ≤ size b
  pub number : (8 * n + i) * count ≡ n * size b + count * i
  pub few : (8 * n + i) * count + count ≤ entry_blocks b
  -- .. and they stand for the words of the sub-block.
  pub first : (8 * n + i) * count * (block b / 4) ≡ part_word (suc b) n i
  pub whole : block b / 4 * count ≡ words_in (suc b)

pub entries : (b n i count : ℕ) → b < 2 → count ≡ size b / 8 → n < entry_blocks (suc b) → i < 8 → Entries b n i count
entries zero n i count l is m k = rw is (record {
  low = l;
  some = omega arith;
  end = omega arith;
  inside = omega arith;
  number = omega arith;
  few = omega arith;
  first = omega arith;
  whole = omega arith;
})
entries (suc zero) n i count l is m k = rw is (record {
  low = l;
  some = omega arith;
  end = omega arith;
  inside = omega arith;
  number = omega arith;
  few = omega arith;
  first = omega arith;
  whole = omega arith;
})
entries (suc (suc b)) n i count l is m k = absurd (omega arith)
