-- Laws of wanting: a block of the paper's form wants a table exactly where no entry can say its rights, and the test
-- over its words tells which.
use Prim.Native.Nat.{ℕ, zero, suc, ◌+◌, ◌*◌, ◌/◌, ◌%◌, ◌≤◌, ◌<◌}
use mathlib.Core.Path.{◌≡◌, refl, sym, ap, ◌∙◌}
use mathlib.Core.Logic.{◌≢◌, inl, inr}
use mathlib.Core.Bool.{Bool, true, false, cond, ◌&&◌, ◌||◌, not, true≢false, false≢true}
use native.Mathlib.Omega.{arith}
use native.Mathlib.Decide.{ℕ_discrete}
use lib.Dec.{eqb, leb, ltb}
use borrow.Author.Tests.{eqb-true, eqb-false, lt-ltb, not-true, not-false}
use Rattle.theory.specs.Pool.{right, entry, right_of}
use Rattle.theory.specs.Settled.{Together, Says}
use Rattle.theory.specs.Lawful.{Wanting}
use Rattle.theory.proofs.Logic.{by_cases}
use Rattle.theory.proofs.RightLaws.{right_last, right_down, right_says}
use Rattle.theory.proofs.Encodes.{TellsWants}
use Rattle.words.specs.Rights.{right_at, pack}
use Rattle.words.specs.Region.{covered}
use Rattle.words.specs.declared.Region.{Region}
use Rattle.words.proofs.RightsLaws.{right_small, pack_digit, pack_range, pack_good, pack_same, eight_pack, sixteen_pack}
use Rattle.table.specs.declared.Shape.{Shape}
use Rattle.table.specs.Shape.{size}
use Rattle.table.specs.Map.{addresses, block, part, parts, index, leads, Divided, form_of}
use Rattle.table.specs.Entries.{same_of}
use Rattle.table.specs.Wants.{any, word_at, words_in, mixed, wants_of, above, said_of, WordRights}
use Rattle.table.proofs.BlockLaws.{block_above, block_together, together_block, part_in_block, number_below}
use Rattle.table.proofs.BlockLaws.{part_above}
use Rattle.table.proofs.BlockLaws.{byte_part, byte_block, first_word, word_below, word_block, word_part}
use Rattle.table.proofs.BlockLaws.{which_word}
use Rattle.table.proofs.FormLaws.{eight_good, exact}

-- A search over the first `n` numbers.

pub any_yes : (f : ℕ → Bool) (n i : ℕ) → i < n → f i ≡ true → any f n ≡ true
unfolding any
any_yes f zero i h e = absurd (omega arith)
any_yes f (suc n) i h e = elim (ℕ_discrete i n) [
  | yes q ↦ rw (← q, e) refl
  | no q ↦ or_right (f n) (any f n) (any_yes f n i (omega arith) e)
]
  where
    or_right : (a b : Bool) → b ≡ true → (a || b) ≡ true
    or_right true b x = refl
    or_right false b x = x

pub any_which : (f : ℕ → Bool) (n : ℕ) → any f n ≡ true → (i : ℕ) × (i < n) × (f i ≡ true)
unfolding any
any_which f zero e = absurd (false≢true e)
any_which f (suc n) e = by_cases (f n)
    (λ x. (n, omega arith, x))
    (λ x. let (i, h, y) = any_which f n (rest (f n) (any f n) x e) in (i, omega arith, y))
  where
    rest : (a b : Bool) → a ≡ false → (a || b) ≡ true → b ≡ true
    rest true b x y = absurd (true≢false x)
    rest false b x y = y

pub any_none : (f : ℕ → Bool) (n i : ℕ) → any f n ≡ false → i < n → f i ≡ false
any_none f n i e h = by_cases (f i) (λ x. absurd (true≢false (sym (any_yes f n i h x) ∙ e))) (λ x. x)

pub any_same : (f g : ℕ → Bool) (n : ℕ) → ((i : ℕ) → i < n → f i ≡ g i) → any f n ≡ any g n
unfolding any
any_same f g zero e = refl
any_same f g (suc n) e = rw (e n (omega arith), any_same f g n (λ i h. e i (omega arith)))

-- The paper's words: some sub-block has two different rights.

-- What wants a table lies in a block that wants one.
pub divided_up : (h a : ℕ) (R : ℕ → ℕ) → h < 2 → Divided (block h) (part h) R a → Divided (block (suc h))
    (part (suc h)) R a
divided_up h a R hi (b, c, bb, bc, e, f, d) =
    (b, c, bb, bc, block_above (suc h) h b a (omega arith) hi e, part_above h b c hi f, d)

-- Two rights in one sub-block cannot be said.
pub divided_unsaid : (s : Shape) (h a w : ℕ) (R : ℕ → ℕ) → Divided (block h) (part h) R a → Says (form_of s) h R a w → ⊥
divided_unsaid s h a w R (b, c, bb, bc, e, f, d) t =
    d (sym (t.each b bb (block_together s h a b (sym e)))
    ∙ ap (λ x. right_at w (x % parts h)) f
    ∙ t.each c bc (block_together s h a c (sym e ∙ part_in_block h b c f)))

-- One right in every sub-block.
pub same_pack : (h q : ℕ) → pack (above h) (parts h) (λ i. q) ≡ same_of h q
same_pack zero q = sixteen_pack q
same_pack (suc h) q = eight_pack q

-- The test over the words of a block.

module _ (R : ℕ → ℕ) (h a : ℕ) where
  pub mixed_which : (i : ℕ) → mixed R h a i ≡ true → (j : ℕ) × (j < words_in h)
      × (R (word_at h a i j) ≢ R (word_at h a i 0))
  mixed_which i e =
      let (j, bj, x) = any_which (λ j. not (eqb (R (word_at h a i j)) (R (word_at h a i 0)))) (words_in h) e in
      (j, bj, eqb-false _ _ (not-true _ x))

  pub mixed_none : (i j : ℕ) → mixed R h a i ≡ false → j < words_in h → R (word_at h a i j) ≡ R (word_at h a i 0)
  mixed_none i j e bj = eqb-true _ _ (not-false _
      (any_none (λ k. not (eqb (R (word_at h a i k)) (R (word_at h a i 0)))) (words_in h) j e bj))

  -- What the test finds are two different rights in one sub-block ..
  pub wants_divided : a < addresses → wants_of R h a ≡ true → Divided (block h) (part h) R a
  wants_divided ba e =
      let (i, bi, x) = any_which (mixed R h a) (parts h) e in
      let (j, bj, y) = mixed_which i x in
      let z = first_word h in (
        word_at h a i j,
        word_at h a i 0,
        word_below h a i j ba bi bj,
        word_below h a i 0 ba bi z,
        word_block h a i j bi bj,
        word_part h a i j bi bj ∙ sym (word_part h a i 0 bi z),
        y,
      )

  module _ (S : WordRights R) where
    -- Where it finds none, a word's right is that of the first word of its sub-block.
    pub wants_first : wants_of R h a ≡ false → (b : ℕ) → a / block h ≡ b / block h → R b
        ≡ R (word_at h a (b / part h % parts h) 0)
    wants_first e b t =
        let (j, bj, x) = which_word h a b t in
        S.word b ∙ ap R x ∙ mixed_none (b / part h % parts h) j
        (any_none (mixed R h a) (parts h) _ e (number_below h b)) bj

    -- .. and it finds them all.
    pub divided_wants : Divided (block h) (part h) R a → wants_of R h a ≡ true
    divided_wants (b, c, bb, bc, e, f, d) = by_cases (wants_of R h a)
        (λ x. x)
        (λ x. absurd (d (wants_first x b (sym e)
        ∙ ap (λ y. R (word_at h a (y % parts h) 0)) f
        ∙ sym (wants_first x c (sym e ∙ part_in_block h b c f)))))

-- What wants a table lies in a block that wants one; a leaf's entry wants none.
pub wants_up : (R : ℕ → ℕ) (h a : ℕ) → WordRights R → a < addresses → h < 2 → wants_of R h a ≡ true
    → wants_of R (suc h) a ≡ true
wants_up R h a S ba hi e = divided_wants R (suc h) a S (divided_up h a R hi (wants_divided R h a ba e))

pub wants_leaf : (R : ℕ → ℕ) (a : ℕ) → wants_of R 0 a ≡ false
wants_leaf R a = by_cases (wants_of R 0 a)
    (λ e.
    let (i, bi, x) = any_which (mixed R 0 a) 16 e in
    let (j, bj, y) = mixed_which R 0 a i x in
    let z : j ≡ 0 = omega arith in
    absurd (y (ap (λ k. R (word_at 0 a i k)) z)))
    (λ e. e)

-- The test and the entry are the block's ..
pub wants_block : (R : ℕ → ℕ) (h a b : ℕ) → a / block h ≡ b / block h → wants_of R h a ≡ wants_of R h b
wants_block R h a b e = any_same _ _ (parts h) (λ i bi. ap (λ n.
    any (λ j. not (eqb (R (n * block h + part h * i + 4 * j)) (R (n * block h + part h * i + 4 * 0)))) (words_in h)) e)

pub wants_together : (s : Shape) (R : ℕ → ℕ) (h a b : ℕ) → h ≤ 2 → a < addresses → b < addresses
    → Together (form_of s) h a b
    → wants_of R h a ≡ wants_of R h b
wants_together s R h a b hi ba bb t = wants_block R h a b (together_block s h a b hi ba bb t)

pub said_block : (R : ℕ → ℕ) (h a b : ℕ) → a / block h ≡ b / block h → said_of R h a ≡ said_of R h b
said_block R h a b e = ap (λ x. pack (above h) (parts h) (λ i. R (x * block h + part h * i + 4 * 0))) e

-- .. and only the rights of addresses count.
module _ (R T : ℕ → ℕ) (same : (b : ℕ) → b < addresses → R b ≡ T b) (h a : ℕ) (ba : a < addresses) where
  pub wants_same : wants_of R h a ≡ wants_of T h a
  wants_same = any_same _ _ (parts h) (λ i bi. any_same _ _ (words_in h) (λ j bj.
      ap (λ x. not (eqb x (R (word_at h a i 0)))) (same _ (word_below h a i j ba bi bj))
      ∙ ap (λ x. not (eqb (T (word_at h a i j)) x)) (same _ (word_below h a i 0 ba bi (first_word h)))))

  pub said_same : said_of R h a ≡ said_of T h a
  said_same = pack_same (above h) (parts h) _ _ (λ i bi. same _ (word_below h a i 0 ba bi (first_word h)))

-- The entry of a block that wants none says it, and nothing else does.
module _ (s : Shape) (R : ℕ → ℕ) (h a : ℕ) where
  pub wants_unsaid : (w : ℕ) → a < addresses → wants_of R h a ≡ true → Says (form_of s) h R a w → ⊥
  wants_unsaid w ba e = divided_unsaid s h a w R (wants_divided R h a ba e)

  module _ (S : WordRights R) (hi : h ≤ 2) (ba : a < addresses) where
    said_small : (i : ℕ) → i < parts h → R (word_at h a i 0) < 4
    said_small i bi = S.small _ (word_below h a i 0 ba bi (first_word h))

    pub wants_says : wants_of R h a ≡ false → Says (form_of s) h R a (said_of R h a)
    wants_says e = record {
      good = (good_said h hi said_small).0;
      rights = (good_said h hi said_small).1;
      each = λ b bb t.
          pack_digit (above h) (parts h) (b / part h % parts h) (λ i. R (word_at h a i 0)) said_small (number_below h b)
          ∙ sym (wants_first R h a S e b (together_block s h a b hi ba bb t));
    }
      where
        good_said : (h : ℕ) → h ≤ 2 → ((i : ℕ) → i < parts h → R (word_at h a i 0) < 4)
            → ((form_of s).good h (said_of R h a) ≡ true) × (leads h (said_of R h a) ≡ false)
        good_said zero hi b = (lt-ltb (said_of R 0 a) addresses (pack_range 0 16 (λ i. R (word_at 0 a i 0)) b).1, refl)
        good_said (suc h) hi b = eight_good s h (said_of R (suc h) a) (omega arith)
            (pack_good (λ i. R (word_at (suc h) a i 0)) b)

    pub says_said : (w : ℕ) → Says (form_of s) h R a w → w ≡ said_of R h a
    says_said w t = by_cases (wants_of R h a)
        (λ e. absurd (wants_unsaid w ba e t))
        (λ e. (exact s).says_exact h a w (said_of R h a) R ba t (wants_says e))

-- Rights of words: one right painted over a region, and the rights of a pool.

pub none_rights : WordRights (λ a. 0)
none_rights = record { small = λ a ba. omega arith; word = λ a. refl }

pub painted_rights : (g : Region) (r : ℕ) (R : ℕ → ℕ) → r < 4 → WordRights R
    → WordRights (λ a. cond (covered g a) r (R a))
painted_rights g r R h S = record {
  small = λ a ba. one (covered g a) (R a) (S.small a ba);
  word = λ a. ap (λ n. cond (leb g.lo n && ltb n g.hi) r (R a)) (same a)
      ∙ ap (λ x. cond (covered g (a / 4 * 4)) r x) (S.word a);
}
  where
    one : (t : Bool) (x : ℕ) → x < 4 → cond t r x < 4
    one true x k = h
    one false x k = k

    same : (a : ℕ) → a / 4 ≡ a / 4 * 4 / 4
    same a = omega arith

module _ (s : Shape) (P : ℕ → ℕ) where
  right_low : (h k a : ℕ) → right (form_of s) P h k a < 4
  right_low zero k a = rw (right_last (form_of s) P k a) (right_small (P k) _)
  right_low (suc h) k a = by_cases (leads (suc h) (P k))
      (λ l. rw (right_down (form_of s) P h k a l) (right_low h _ a))
      (λ l. rw (right_says (form_of s) P (suc h) k a l) (right_small (P k) _))

  says_byte : (h w a : ℕ) → (form_of s).says h w a ≡ (form_of s).says h w (a / 4 * 4)
  says_byte h w a = ap (λ x. right_at w (x % parts h)) (byte_part h a)

  index_byte : (h a : ℕ) → index h a ≡ index h (a / 4 * 4)
  index_byte h a = ap (λ x. x % size h) (byte_block h a)

  right_byte : (h k a : ℕ) → right (form_of s) P h k a ≡ right (form_of s) P h k (a / 4 * 4)
  right_byte zero k a = right_last (form_of s) P k a ∙ says_byte 0 (P k) a
      ∙ sym (right_last (form_of s) P k (a / 4 * 4))
  right_byte (suc h) k a = by_cases (leads (suc h) (P k))
      (λ l. right_down (form_of s) P h k a l ∙ right_byte h _ a
      ∙ ap (λ i. right (form_of s) P h (P k + i) (a / 4 * 4)) (index_byte h a)
      ∙ sym (right_down (form_of s) P h k (a / 4 * 4) l))
      (λ l. right_says (form_of s) P (suc h) k a l ∙ says_byte (suc h) (P k) a
      ∙ sym (right_says (form_of s) P (suc h) k (a / 4 * 4) l))

  pub pool_rights : (d : ℕ) → WordRights (right_of (form_of s) P d)
  pool_rights d = record {
    small = λ a ba. right_low 2 (entry (form_of s) d a) a;
    word = λ a. right_byte 2 (entry (form_of s) d a) a ∙ ap (λ i. right (form_of s) P 2 (1024 * d + i) (a / 4 * 4))
        (index_byte 2 a);
  }

-- The paper's form wants a table exactly where no entry can say the rights.
pub wanting : (s : Shape) → Wanting (form_of s)
wanting s = record {
  same = λ h a R T e (b, c, bb, bc, x, y, d). (b, c, bb, bc, x, y, λ z. d (e b bb ∙ z ∙ sym (e c bc)));
  up = λ h a R ba hi w. divided_up (suc h) a R hi w;
  unsaid = λ h a w R ba. divided_unsaid s h a w R;
  decided = λ P d a h bd ba hi.
      let R = right_of (form_of s) P d in
      by_cases (wants_of R h a)
      (λ e. inl (wants_divided R h a ba e))
      (λ e. inr (said_of R h a, wants_says s R h a (pool_rights s P d) hi ba e));
}

-- The test tells the blocks that want a table, for any rights of words.
pub tells_wants : (s : Shape) (R : ℕ → ℕ → ℕ) → ((d : ℕ) → d < s.domains → WordRights (R d)) → TellsWants (form_of s)
    (λ h d a. wants_of (R d) h a) R
tells_wants s R S = record {
  last = λ d a bd ba. wants_leaf (R d) a;
  is = λ h d a bd ba hi x. divided_wants (R d) (suc h) a (S d bd) x;
  are = λ h d a bd ba hi e. wants_divided (R d) (suc h) a ba e;
}
