-- What a block wants and says goes by the rights of its own addresses alone; a block of one right wants no table.
use Prim.Native.Nat.{ℕ, suc, ◌/◌, ◌<◌}
use mathlib.Core.Path.{◌≡◌, refl, ap, ◌∙◌}
use mathlib.Core.Bool.{false, not}
use lib.Dec.{eqb}
use Rattle.theory.proofs.Logic.{by_cases}
use Rattle.words.specs.Rights.{eight_of}
use Rattle.words.proofs.RightsLaws.{eight_pack, pack_same}
use Rattle.table.specs.Map.{addresses, block, parts}
use Rattle.table.specs.Wants.{word_at, words_in, mixed, wants_of, above, said_of}
use Rattle.table.proofs.BlockLaws.{first_word, word_below, word_block}
use Rattle.table.proofs.WantLaws.{any_which, any_same, mixed_which}

module _ (R T : ℕ → ℕ) (h a : ℕ) (ba : a < addresses)
    (near : (b : ℕ) → b < addresses → b / block h ≡ a / block h → R b ≡ T b) where
  near_word : (i j : ℕ) → i < parts h → j < words_in h → R (word_at h a i j) ≡ T (word_at h a i j)
  near_word i j bi bj = near (word_at h a i j) (word_below h a i j ba bi bj) (word_block h a i j bi bj)

  pub wants_near : wants_of R h a ≡ wants_of T h a
  wants_near = any_same _ _ (parts h) (λ i bi. any_same _ _ (words_in h) (λ j bj.
      ap (λ x. not (eqb x (R (word_at h a i 0)))) (near_word i j bi bj)
      ∙ ap (λ x. not (eqb (T (word_at h a i j)) x)) (near_word i 0 bi (first_word h))))

  pub said_near : said_of R h a ≡ said_of T h a
  said_near = pack_same (above h) (parts h) _ _ (λ i bi. near_word i 0 bi (first_word h))

module _ (r h a : ℕ) where
  pub wants_plain : wants_of (λ b. r) h a ≡ false
  wants_plain = by_cases (wants_of (λ b. r) h a)
      (λ e.
      let (i, bi, x) = any_which (mixed (λ b. r) h a) (parts h) e in
      let (j, bj, y) = mixed_which (λ b. r) h a i x in
      absurd (y refl))
      (λ e. e)

  pub said_plain : said_of (λ b. r) (suc h) a ≡ eight_of r
  said_plain = eight_pack r
