-- Laws of sub-blocks: where each has one right the target is rights, where one has two it is mixed.
use Rattle.std.proofs.Common.{None, Some}
use Prim.Native.Nat.{ℕ, zero, suc, ◌+◌, ◌*◌, ◌/◌, ◌%◌, ◌<◌}
use mathlib.Core.Path.{◌≡◌, sym, ap, ◌∙◌}
use mathlib.Core.Bool.{Bool, false, cond, not, true≢false}
use native.Mathlib.Omega.{arith}
use lib.Dec.{eqb}
use borrow.Author.Tests.{eq-eqb}
use Rattle.theory.proofs.Logic.{by_cases}
use Rattle.words.specs.Rights.{right_at, pack}
use Rattle.words.proofs.RightsLaws.{pack_digit, pack_same}
use Rattle.table.specs.Map.{block, parts}
use Rattle.table.specs.Wants.{any, word_at, words_in, mixed, wants_of, above, said_of}
use Rattle.table.proofs.BlockLaws.{first_word, word_block}
use Rattle.table.proofs.WantLaws.{any_yes, any_which, any_none, any_same, mixed_none}
use Rattle.targets.specs.Targets.{target_of}
use Rattle.targets.specs.Steps.{Plain}
use Rattle.targets.proofs.TargetLaws.{wanted_mixed, unwanted_said, said_unwanted}

-- No number passes the test.
pub any_never : (f : ℕ → Bool) (n : ℕ) → ((i : ℕ) → i < n → f i ≡ false) → any f n ≡ false
any_never f n g = by_cases (any f n)
    (λ e. let (i, b, x) = any_which f n e in absurd (true≢false (sym x ∙ g i b)))
    (λ e. e)

-- The first memory word of sub-block `i` of the block of height `h` that has the number `n`.
abbrev pub part_word : ℕ → ℕ → ℕ → ℕ
part_word h n i = n * (block h / 4) + words_in h * i

-- Its words, by their addresses.
part_word_lem : (h n i j : ℕ) → 4 * (part_word h n i + j) ≡ word_at h (n * block h) i j
part_word_lem zero n i j = omega arith
part_word_lem (suc zero) n i j = omega arith
part_word_lem (suc (suc h)) n i j = omega arith

pub part_below : (h i j : ℕ) → i < parts h → j < words_in h → words_in h * i + j < block h / 4
part_below zero i j a b = omega arith
part_below (suc zero) i j a b = omega arith
part_below (suc (suc h)) i j a b = omega arith

-- Each word of a block is one of a sub-block.
word_part_of : (h j : ℕ) → j < block h / 4 → (i : ℕ) × (k : ℕ) × (i < parts h) × (k < words_in h)
    × (j ≡ words_in h * i + k)
word_part_of zero j l = (j, 0, omega arith, omega arith, omega arith)
word_part_of (suc zero) j l = (j / 128, j % 128, omega arith, omega arith, omega arith)
word_part_of (suc (suc h)) j l = (j / 131072, j % 131072, omega arith, omega arith, omega arith)

-- Where rights are below 4, so is the one right of a stretch.
pub plain_small : (R : ℕ → ℕ) (s n u : ℕ) → ((a : ℕ) → R a < 4) → 0 < n → Plain R s n u → u < 4
plain_small R s n u small l f = let z = small (4 * (s + 0)) in let e = f 0 l in omega arith

module _ (R : ℕ → ℕ) (h n : ℕ) where
  abbrev at : ℕ
  at = n * block h

  -- Sub-block `i` has the right `u` on every word.
  abbrev PartIs : ℕ → ℕ → Type 0
  PartIs i u = Plain R (part_word h n i) (words_in h) u

  part_right : (i u j : ℕ) → PartIs i u → j < words_in h → R (word_at h at i j) ≡ u
  part_right i u j f l = ap R (sym (part_word_lem h n i j)) ∙ f j l

  part_even : (i u : ℕ) → PartIs i u → mixed R h at i ≡ false
  part_even i u f = any_never _ (words_in h) (λ j l.
      ap not (eq-eqb _ _ (part_right i u j f l ∙ sym (part_right i u 0 f (first_word h)))))

  even_part_is : (i : ℕ) → mixed R h at i ≡ false → PartIs i (R (word_at h at i 0))
  even_part_is i e j l = ap R (part_word_lem h n i j) ∙ mixed_none R h at i j e l

  -- Where each sub-block has one right, the entry says these.
  pub parts_target : (f : ℕ → ℕ) → ((i : ℕ) → i < parts h → PartIs i (f i)) → target_of R h at ≡ Some
      (pack (above h) (parts h) f)
  parts_target f g =
      unwanted_said R h at (any_never (mixed R h at) (parts h) (λ i l. part_even i (f i) (g i l)))
      ∙ ap Some (pack_same (above h) (parts h) _ f (λ i l. part_right i (f i) 0 (g i l) (first_word h)))

  -- Where one has two, a table is wanted.
  pub two_target : (i : ℕ) → i < parts h → ((u : ℕ) → PartIs i u → ⊥) → target_of R h at ≡ None
  two_target i l g = wanted_mixed R h at (any_yes (mixed R h at) (parts h) i l (by_cases (mixed R h at i)
      (λ e. e)
      (λ e. absurd (g _ (even_part_is i e)))))

  -- A block has one right throughout exactly where each sub-block has it ..
  pub plain_part : (u : ℕ) → Plain R (n * (block h / 4)) (block h / 4) u → (i : ℕ) → i < parts h → PartIs i u
  plain_part u f i l j m =
      let e : part_word h n i + j ≡ n * (block h / 4) + (words_in h * i + j) = omega arith in
      ap (λ x. R (4 * x)) e ∙ f (words_in h * i + j) (part_below h i j l m)

  pub parts_plain : (u : ℕ) → ((i : ℕ) → i < parts h → PartIs i u) → Plain R (n * (block h / 4)) (block h / 4) u
  parts_plain u f j l =
      let (i, k, bi, bk, z) = word_part_of h j l in
      let y : n * (block h / 4) + j ≡ part_word h n i + k = omega arith in
      ap (λ v. R (4 * v)) y ∙ f i bi k bk

  -- .. and then its entry says that ..
  pub plain_target : (u : ℕ) → Plain R (n * (block h / 4)) (block h / 4) u → target_of R h at ≡ Some
      (pack (above h) (parts h) (λ i. u))
  plain_target u f = parts_target (λ i. u) (plain_part u f)

  module _ (small : (a : ℕ) → R a < 4) (x : ℕ) (e : target_of R h at ≡ Some x) where
    target_right : (i : ℕ) → i < parts h → R (word_at h at i 0) ≡ right_at x i
    target_right i l =
        sym (pack_digit (above h) (parts h) i (λ i. R (word_at h at i 0)) (λ i m. small _) l) ∙ ap (λ v. right_at v i)
        (sym (said_unwanted R h at e).1)

    -- .. and only then.
    pub target_plain : (u : ℕ) → ((i : ℕ) → i < parts h → right_at x i ≡ u) → Plain R (n * (block h / 4)) (block h / 4) u
    target_plain u d = parts_plain u (λ i bi j bj.
        even_part_is i (any_none (mixed R h at) (parts h) i (said_unwanted R h at e).0 bi) j bj
        ∙ target_right i bi
        ∙ d i bi)

  -- Only the rights of the block count.
  pub target_agree : (T : ℕ → ℕ) → ((a : ℕ) → a / block h ≡ n → R a ≡ T a) → target_of R h at ≡ target_of T h at
  target_agree T same =
      ap (λ t. cond t None (Some (said_of R h at)))
      (any_same _ _ (parts h) (λ i bi. any_same _ _ (words_in h) (λ j bj.
      ap (λ x. not (eqb x (R (word_at h at i 0)))) (same _ (within i j bi bj))
      ∙ ap (λ x. not (eqb (T (word_at h at i j)) x)) (same _ (within i 0 bi (first_word h))))))
      ∙ ap (λ w. cond (wants_of T h at) None (Some w))
      (pack_same (above h) (parts h) _ _ (λ i bi. same _ (within i 0 bi (first_word h))))
    where
      number : (h : ℕ) → n * block h / block h ≡ n
      number zero = omega arith
      number (suc zero) = omega arith
      number (suc (suc h)) = omega arith

      within : (i j : ℕ) → i < parts h → j < words_in h → word_at h at i j / block h ≡ n
      within i j bi bj = word_block h at i j bi bj ∙ number h
