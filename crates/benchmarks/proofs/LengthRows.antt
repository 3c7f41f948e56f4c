-- The rows of lengths from the middle of a word.
use Prim.Native.Nat.{ℕ, ◌≤◌}
use mathlib.Core.Path.{◌≡◌, refl, sym, ap, ◌∙◌}
use mathlib.Core.Bool.{cond}
use mathlib.Core.List.{List}
use native.Mathlib.Omega.{arith}
use Rattle.std.specs.Prelude.{Result, Ok, Err}
use Rattle.refusals.specs.declared.Refusal.{Refusal}
use Rattle.refusals.specs.declared.Refusal.TheVariants.{EmptyRegion, PastTheEnd}
use Rattle.refusals.specs.Refusals.{number}
use Rattle.theory.specs.Walk.{walk}
use Rattle.words.specs.Rights.{pack}
use Rattle.words.specs.Region.{rounded, region_of}
use Rattle.words.specs.declared.Region.{Region}
use Rattle.words.proofs.RegionLaws.{covered_range, rounded_covers}
use Rattle.words.specs.Stretches.{first_like, last_like}
use Rattle.table.specs.declared.Shape.{Shape}
use Rattle.table.specs.Shape.{max_middles, max_leaves}
use Rattle.table.specs.Fresh.{fresh_pool}
use Rattle.table.proofs.WantLaws.{wants_leaf}
use Rattle.change.specs.declared.Ending.{Ending}
use Rattle.change.specs.declared.Ending.TheVariants.{Done}
use Rattle.change.specs.Cuts.{differing}
use Rattle.change.specs.Answers.{Changes, no_region}
use Rattle.change.proofs.ChangesLaws.{rounded_alike}
use Rattle.lookaside.specs.Slots.{holds_for, holds}
use Rattle.lookaside.specs.Flushes.{flushed_buffer, flushed_slot, flushes, meets, pointed}
use Rattle.benchmarks.specs.Rows.{shape, Always, Sets}
use Rattle.benchmarks.specs.Lengths.{SameChange, Refuses, FourBytes, LooksBeside, LastHalf, NoLength, LongSum}
use Rattle.benchmarks.specs.Lengths.{FlushesFollow, Lengths}
use Rattle.benchmarks.proofs.RowLaws.{always_change, by, finds, listed, fresh_fits, in_range_lem, aims_fresh}
use Rattle.benchmarks.proofs.PageLaws.{OnePage, after}
use Rattle.benchmarks.proofs.PagePools.{painted, one_page, page_pool, page_done_finished, page_done}
use Rattle.benchmarks.proofs.LastRow.{row_10}

same_change : {start len start' len' : ℕ} → region_of start len ≡ region_of start' len'
    → SameChange start len start' len'
same_change e p s d r n a q = (rounded_alike e, rounded_alike (sym e))

-- What is said of a change of the one region holds of the other.
always_same : {start len start' len' : ℕ} → SameChange start len start' len'
    → {p : List ℕ} {s : Shape} {d r n : ℕ} {Is : Result Ending Refusal → List ℕ → Type 0}
    → Always (Changes p s d start' len' r n) Is → Always (Changes p s d start len r n) Is
always_same e x =
    let (a, q, c) = x.some in
    record { some = (a, q, (e _ _ _ _ _ a q).1 c); each = λ b y z. x.each b y ((e _ _ _ _ _ b y).0 z) }

-- A region that is refused.
refuses : (M L start len : ℕ) (k : Refusal) → M ≤ max_middles → L ≤ max_leaves → region_of start len ≡ Err k
    → Refuses M L start len (number k)
refuses M L start len k m l e r n h =
    always_change (no_region (fresh_fits (shape M L) (in_range_lem M L m l)) (omega arith) h k e) (refl, refl)

-- Rows 1 and 2: two words of a leaf's first entry.
abbrev two_words : Region
two_words = rounded 0x1002 4

words_page : OnePage 1 0 (painted two_words 2) 0x1000 0x1008 0xA
unfolding pack
words_page = one_page 1 0 two_words 2 0x1000 0x1008 (omega arith) (λ z. omega arith) (omega arith) (omega arith)
    (λ z. omega arith) (omega arith)
    (λ b e. let r = covered_range two_words b e in omega arith) refl refl refl (wants_leaf (painted two_words 2) 0x1000)

abbrev words_pool : List ℕ
words_pool = page_pool 1 0 0x1000 0xA

words_stores : differing (fresh_pool (shape 1 1)) words_pool ≡ 1026
unfolding differing listed after
words_stores = refl

words_set : (n : ℕ) → 1026 ≤ n → Sets 1 1 0x1002 4 2 n (Ok (Done 1026)) words_pool
unfolding region_of
words_set n h = page_done two_words 2 words_page (omega arith) 0x1002 4 (omega arith) refl n 1026 words_stores h

row_1 : FourBytes
unfolding listed after
row_1 n h = always_change (words_set n h) (
  refl,
  refl,
  λ b i. (page_done_finished two_words 2 words_page (omega arith)).rights 0 b (omega arith) i
      ∙ aims_fresh (shape 1 1) two_words 2 0 b (omega arith) (omega arith)
      ∙ ap (λ t. cond t 2 0) (rounded_covers 0x1002 4 b),
)

row_2 : LooksBeside
unfolding listed after walk first_like last_like
row_2 n h = always_change (words_set n h) (
  finds words_pool (shape 1 1) 0x1000 (by 2 0xA 3 0x1000 0x1007) refl,
  finds words_pool (shape 1 1) 0x1007 (by 2 0xA 3 0x1000 0x1007) refl,
  finds words_pool (shape 1 1) 0x1008 (by 0 0xA 3 0x1008 0x103F) refl,
  finds words_pool (shape 1 1) 0xFFF (by 0 0x80000000 2 0 0xFFF) refl,
)

-- Rows 3, 4 and 5: by rounding alone.
last_half : SameChange 0xFFFFFFFE 2 0xFFFFFFFC 4
unfolding region_of
last_half = same_change refl

row_3 : LastHalf
unfolding region_of
row_3 = (
  λ r n h k. always_same last_half ((row_10 r n h).0 k),
  last_half,
  refuses 1 1 0xFFFFFFFE 3 PastTheEnd (omega arith) (omega arith) refl,
)

row_4 : NoLength
unfolding region_of
row_4 = refuses 1 1 0x1002 0 EmptyRegion (omega arith) (omega arith) refl

row_5 : LongSum
unfolding region_of
row_5 = (same_change refl, refuses 0 0 2 4294967295 PastTheEnd (omega arith) (omega arith) refl)

-- Row 6.
row_6 : FlushesFollow
unfolding region_of pointed flushed_buffer flushed_slot flushes meets holds_for holds
row_6 = record {
  both_lines = λ w. refl;
  last_line = λ w. refl;
  past_the_end = λ w. refl;
  no_length = λ w. refl;
}

pub all_lengths : Lengths
all_lengths = record {
  row_1 = row_1;
  row_2 = row_2;
  row_3 = row_3;
  row_4 = row_4;
  row_5 = row_5;
  row_6 = row_6;
}
