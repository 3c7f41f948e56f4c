-- Row 11: a middle table that says nothing, and so is needless.
use Prim.Native.Nat.{ℕ, ◌+◌, ◌*◌, ◌/◌, ◌%◌, ◌<◌}
use mathlib.Core.Path.{◌≡◌, refl, sym, ap, ◌∙◌}
use mathlib.Core.Logic.{◌≢◌}
use mathlib.Core.Bool.{cond}
use mathlib.Core.List.{List, ◌++◌}
use native.Mathlib.Omega.{arith}
use native.Mathlib.Decide.{ℕ_discrete}
use lib.Dec.{ltb}
use lib.ListN.{length, set, replicate, length-set, length-append, length-replicate}
use lib.Seq.{get_or-set_same, get_or-set_other}
use borrow.Author.Tests.{lt-ltb}
use Rattle.theory.specs.Form.{Form}
use Rattle.theory.specs.Pool.{words, SoundPool, right_of}
use Rattle.theory.specs.Settled.{Settled}
use Rattle.words.specs.Rights.{right_at}
use Rattle.words.proofs.RightsLaws.{eight_right}
use Rattle.table.specs.Map.{form_of}
use Rattle.table.proofs.FreshWordLaws.{fresh_word}
use Rattle.change.specs.Answers.{in_order, unsettled}
use Rattle.benchmarks.specs.Rows.{shape, needless, Needless}
use Rattle.benchmarks.proofs.RowLaws.{always_change, always_tidy}
use Rattle.benchmarks.proofs.RootTidy.{tidied_first, tidied_root, tidies_root}
use Rattle.benchmarks.proofs.OneTable.{OneTable, table_sound, table_right_lem, elsewhere_right, settled_divided}

module _ (L : ℕ) where
  abbrev F : Form
  F = form_of (shape 1 L)

  -- Its words: as in a fresh pool of two roots, but the first.
  abbrev base : List ℕ
  base = replicate 2048 0x80000000 ++ replicate (64 * L) 0

  base_long : length base ≡ 2048 + 64 * L
  base_long = length-append (replicate 2048 0x80000000) (replicate (64 * L) 0)
      ∙ rw (length-replicate {A = ℕ} 2048 0x80000000, length-replicate {A = ℕ} (64 * L) 0) refl

  base_word : (j : ℕ) → words base j ≡ cond (ltb j 2048) 0x80000000 0
  base_word j =
      let e : 64 * L ≡ 0 + 64 * L = omega arith in
      ap (λ n. words (replicate 2048 0x80000000 ++ replicate n 0) j) e
      ∙ fresh_word (record { domains = 2; middles = 0; leaves = L }) j

  abbrev P : ℕ → ℕ
  P = words (needless L)

  P-first : P 0 ≡ 1024
  P-first = get_or-set_same base 0 1024 0 (rw base_long (omega arith))

  P-other : (j : ℕ) → j ≢ 0 → j < 2048 → P j ≡ 0x80000000
  P-other j n h = get_or-set_other base 0 j 1024 0 n ∙ base_word j ∙ ap (λ t. cond t 0x80000000 0) (lt-ltb j 2048 h)

  one_table : OneTable P
  one_table = record {
    first = P-first;
    roots = λ j n h. P-other j n (omega arith);
    middle = λ j lo hi.
        rw (P-other j (λ e. omega arith) hi) refl;
  }

  pub needless_sound : SoundPool F P
  needless_sound = table_sound L one_table

  -- It gives no right.
  needless_right : (d a : ℕ) → d < 1 → right_of F P d a ≡ 0
  needless_right d a bd = elim (ℕ_discrete (a / 4194304 % 1024) 0) [
    | yes e ↦ table_right_lem L one_table d a bd e
        ∙ ap (λ w. right_at w (a / 512 % 8)) (P-other (1024 + a / 4096 % 1024) (λ t. omega arith) (omega arith))
        ∙ eight_right 0 (a / 512 % 8) (omega arith) (omega arith)
    | no n ↦ elsewhere_right L one_table d a bd n
  ]

  pub needless_unsettled : Settled F P → ⊥
  needless_unsettled s =
      let (b, c, bb, bc, x, y, z) = settled_divided L one_table s in
      z (needless_right 0 b (omega arith) ∙ sym (needless_right 0 c (omega arith)))

  pub needless_long : length (needless L) ≡ 2048 + 64 * L
  needless_long = length-set base 0 1024 ∙ base_long

  -- Tidied, the root word says none again.
  none_again : (a : ℕ) → right_at (words (set (needless L) 0 0x80000000) (a / 4194304 % 1024)) (a / 524288 % 8)
      ≡ right_of F P 0 a
  none_again a = ap (λ w. right_at w (a / 524288 % 8)) (word (a / 4194304 % 1024) (omega arith))
      ∙ eight_right 0 (a / 524288 % 8) (omega arith) (omega arith) ∙ sym (needless_right 0 a (omega arith))
    where
      word : (j : ℕ) → j < 1024 → words (set (needless L) 0 0x80000000) j ≡ 0x80000000
      word j h = elim (ℕ_discrete j 0) [
        | yes e ↦ rw e (tidied_first L (needless L) needless_long one_table 0x80000000 refl)
        | no n ↦ tidied_root L (needless L) needless_long one_table 0x80000000 refl j n h
      ]

pub row_11 : Needless
row_11 L n hl = (
  λ d start len r g asked. always_change (in_order g asked (unsettled (needless_sound L) (needless_unsettled L)))
      (refl, refl),
  λ h. always_tidy (tidies_root L (needless L) (needless_long L) (one_table L) 0x80000000 refl
      (λ a ba. none_again L a) hl n h)
      (refl, tidied_first L (needless L) (needless_long L) (one_table L) 0x80000000 refl),
)
