-- Laws of painting: what a region that covers all of a stretch of words, none of it, or a part leaves there.
use Prim.Native.Nat.{ℕ, ◌+◌, ◌*◌, ◌-◌, ◌/◌, ◌%◌, ◌^◌, ◌≤◌, ◌<◌}
use mathlib.Core.Path.{◌≡◌, refl, sym, ap, ◌∙◌}
use mathlib.Core.Logic.{◌⊎◌, ⊎_elim}
use mathlib.Core.Bool.{Bool, true, false, cond, ◌&&◌, false≢true}
use native.Mathlib.Omega.{arith}
use native.Mathlib.Decide.{dec_lt}
use lib.Dec.{leb, ltb}
use borrow.Author.Tests.{lt-ltb, le-ltb, le-leb, lt-leb}
use Rattle.theory.proofs.Logic.{by_cases}
use Rattle.words.specs.Rights.{right_at, pack, sixteen_of}
use Rattle.words.specs.Region.{covered}
use Rattle.words.proofs.RightsLaws.{right_small, pack_same, sixteen_pack, sixteen_right}
use Rattle.table.specs.Wants.{word_at, said_of, WordRights}
use Rattle.table.proofs.WantLaws.{painted_rights}
use Rattle.targets.specs.declared.Paint.{Paint}
use Rattle.targets.specs.declared.Cover.TheVariants.{Apart, Whole}
use Rattle.targets.specs.Paints.{region}
use Rattle.targets.specs.Targets.{painted, GivesLeaf}
use Rattle.targets.specs.Steps.{inside, Half, CoverIs, Before, right_after, Plain}
use Rattle.targets.proofs.PackLaws.{leaf_packed, parted_packed}

-- Which words a region has.
module _ (p : Paint) (x : ℕ) where
  pub inside_is : p.lo ≤ x → x < p.hi → inside p x ≡ true
  unfolding inside
  inside_is a b = simp (le-leb p.lo x a, lt-ltb x p.hi b)

  pub inside_low : x < p.lo → inside p x ≡ false
  unfolding inside
  inside_low a = simp (lt-leb p.lo x a)

  pub inside_high : p.hi ≤ x → inside p x ≡ false
  unfolding inside
  inside_high b = go (leb p.lo x)
    where
      go : (t : Bool) → (t && ltb x p.hi) ≡ false
      go true = le-ltb x p.hi b
      go false = refl

  pub inside_not : (p.lo ≤ x → x < p.hi → ⊥) → inside p x ≡ false
  inside_not f = elim (dec_lt x p.lo) [
    | yes l ↦ inside_low l
    | no l ↦ elim (dec_lt x p.hi) [
      | yes h ↦ absurd (f (omega arith) h)
      | no h ↦ inside_high (omega arith)
    ]
  ]

  pub inside_none : p.hi ≤ p.lo → inside p x ≡ false
  inside_none h = elim (dec_lt x p.lo) [
    | yes l ↦ inside_low l
    | no l ↦ inside_high (omega arith)
  ]

-- A region that parts a stretch does not end before it begins.
pub half_some : (p : Paint) (s n : ℕ) → Half p s n → p.lo ≤ p.hi
half_some p s n h = elim (dec_lt p.hi p.lo) [
  | yes l ↦ absurd (false≢true (sym (inside_none p (s + h.hit) (omega arith)) ∙ h.hit_is))
  | no l ↦ omega arith
]

-- The right of a word after the painting.
module _ (p : Paint) (R : ℕ → ℕ) (x : ℕ) where
  pub painted_at : painted p R (4 * x) ≡ cond (inside p x) p.right (R (4 * x))
  unfolding inside painted
  painted_at = let e : 4 * x / 4 ≡ x = omega arith in
      ap (λ y. cond (leb p.lo y && ltb y p.hi) p.right (R (4 * x))) e

  pub painted_in : inside p x ≡ true → painted p R (4 * x) ≡ p.right
  painted_in h = painted_at ∙ ap (λ t. cond t p.right (R (4 * x))) h

  pub painted_out : inside p x ≡ false → painted p R (4 * x) ≡ R (4 * x)
  painted_out h = painted_at ∙ ap (λ t. cond t p.right (R (4 * x))) h

-- The right of an address after the painting.
module _ (p : Paint) (R : ℕ → ℕ) (a : ℕ) where
  pub painted_covered : covered (region p) a ≡ true → painted p R a ≡ p.right
  unfolding painted
  painted_covered h = ap (λ t. cond t p.right (R a)) h

  pub painted_uncovered : covered (region p) a ≡ false → painted p R a ≡ R a
  unfolding painted
  painted_uncovered h = ap (λ t. cond t p.right (R a)) h

-- Where a right is still the old one or already the painted one, painting again ends the same.
pub painted_again : (p : Paint) (R T : ℕ → ℕ) (a : ℕ) → (T a ≡ R a) ⊎ (T a ≡ painted p R a) → painted p T a
    ≡ painted p R a
painted_again p R T a h = by_cases (covered (region p) a)
    (λ c. painted_covered p T a c ∙ sym (painted_covered p R a c))
    (λ c. painted_uncovered p T a c ∙ ⊎_elim (λ e. e ∙ sym (painted_uncovered p R a c)) (λ e. e) h)

-- Painted rights are rights of words.
pub painted_word_rights : (p : Paint) (R : ℕ → ℕ) → p.right < 4 → WordRights R → WordRights (painted p R)
unfolding painted
painted_word_rights p R h S = painted_rights (region p) p.right R h S

pub painted_small : (p : Paint) (R : ℕ → ℕ) (a : ℕ) → p.right < 4 → R a < 4 → painted p R a < 4
unfolding painted
painted_small p R a h l = go (covered (region p) a)
  where
    go : (t : Bool) → cond t p.right (R a) < 4
    go true = h
    go false = l

pub painted_agree : (p : Paint) (R T : ℕ → ℕ) (a : ℕ) → R a ≡ T a → painted p R a ≡ painted p T a
unfolding painted
painted_agree p R T a e = ap (λ x. cond (covered (region p) a) p.right x) e

-- An empty region leaves every right as it was.
pub painted_none : (p : Paint) (R : ℕ → ℕ) (a : ℕ) → p.hi ≤ p.lo → painted p R a ≡ R a
unfolding inside painted
painted_none p R a h = ap (λ t. cond t p.right (R a)) (inside_none p (a / 4) h)

-- A stretch of words that had one right.
module _ (p : Paint) (R : ℕ → ℕ) (s n : ℕ) where
  pub whole_plain : CoverIs Whole p s n → Plain (painted p R) s n p.right
  whole_plain h j l = painted_in p R (s + j) (h j l)

  module _ (o : ℕ) (plain : Plain R s n o) where
    pub apart_plain : CoverIs Apart p s n → Plain (painted p R) s n o
    apart_plain h j l = painted_out p R (s + j) (h j l) ∙ plain j l

    pub same_plain : o ≡ p.right → Plain (painted p R) s n o
    same_plain e j l = by_cases (inside p (s + j))
        (λ h. painted_in p R (s + j) h ∙ sym e)
        (λ h. painted_out p R (s + j) h ∙ plain j l)

    pub half_two : (o ≡ p.right → ⊥) → Half p s n → (u : ℕ) → Plain (painted p R) s n u → ⊥
    half_two d h u f =
        d (sym (plain h.miss h.miss_below) ∙ sym (painted_out p R (s + h.miss) h.miss_is)
        ∙ f h.miss h.miss_below
        ∙ sym (f h.hit h.hit_below) ∙ painted_in p R (s + h.hit) h.hit_is)

-- A leaf entry.
module _ (p : Paint) (w n : ℕ) where
  pub after_small : (i : ℕ) → p.right < 4 → right_after p w n i < 4
  after_small i h = go (inside p (n + i))
    where
      go : (t : Bool) → cond t p.right (right_at w i) < 4
      go true = h
      go false = right_small w i

  pub said_after : (R : ℕ → ℕ) → GivesLeaf w n R → said_of (painted p R) 0 (n * 64) ≡ pack 0 16 (right_after p w (n * 16))
  said_after R g = pack_same 0 16 _ (right_after p w (n * 16)) (λ i l.
      let e : word_at 0 (n * 64) i 0 ≡ 4 * (n * 16 + i) = omega arith in
      let q : 4 * (n * 16 + i) / 4 % 16 ≡ i = omega arith in
      ap (painted p R) e ∙ painted_at p R (n * 16 + i)
      ∙ ap (λ x. cond (inside p (n * 16 + i)) p.right x) (g (4 * (n * 16 + i)) (omega arith) ∙ ap (right_at w) q))

  pub after_apart : w < 4294967296 → CoverIs Apart p n 16 → w ≡ pack 0 16 (right_after p w n)
  after_apart b h = leaf_packed w b ∙ pack_same 0 16 (right_at w) (right_after p w n)
      (λ i l. ap (λ t. cond t p.right (right_at w i)) (sym (h i l)))

  pub after_whole : CoverIs Whole p n 16 → sixteen_of p.right ≡ pack 0 16 (right_after p w n)
  after_whole h =
      sym (sixteen_pack p.right)
      ∙ pack_same 0 16 (λ i. p.right) (right_after p w n)
      (λ i l. ap (λ t. cond t p.right (right_at w i)) (sym (h i l)))

-- A leaf entry of whose words the first `a` come before the region, and the first `b` before its end: no fewer ..
module _ (p : Paint) (s a b : ℕ) (le : p.lo ≤ p.hi) (x : Before s p.lo a) (y : Before s p.hi b) where
  pub before_order : a ≤ b
  before_order = elim (dec_lt b a) [
    | yes l ↦ absurd (omega (arith, x.upto, x.early b l, y.late b (omega arith) (omega (arith, x.upto))))
    | no l ↦ omega arith
  ]

  -- .. and its rights after the painting are put together from its own and the painted one.
  pub after_partly : (w : ℕ) → w < 4294967296 → p.right < 4 → let same = sixteen_of p.right in
      w % 2 ^ (2 * a) + (same % 2 ^ (2 * b) - same % 2 ^ (2 * a)) + (w - w % 2 ^ (2 * b)) ≡ pack 0 16 (right_after p w s)
  after_partly w small r = parted_packed w (sixteen_of p.right) a b (right_after p w s) small before_order y.upto
      (λ k l. ap (λ t. cond t p.right (right_at w k)) (inside_low p (s + k) (x.early k l)))
      (λ k l m.
      let o : k < 16 = omega (arith, y.upto) in
      ap (λ t. cond t p.right (right_at w k)) (inside_is p (s + k) (x.late k l o) (y.early k m))
      ∙ sym (sixteen_right p.right k r o))
      (λ k l m. ap (λ t. cond t p.right (right_at w k)) (inside_high p (s + k) (y.late k l m)))
