-- How a region meets the blocks of one height: it leaves a block as it was, covers it whole, or begins or ends in it.
use Prim.Native.Nat.{ℕ, zero, suc, ◌+◌, ◌*◌, ◌/◌, ◌%◌, ◌≤◌, ◌<◌}
use mathlib.Core.Path.{◌≡◌, refl, ap, ◌∙◌}
use mathlib.Core.Logic.{◌≢◌, ◌⊎◌, inl, inr}
use mathlib.Core.Bool.{Bool, true, false, cond, ◌&&◌, and-false}
use native.Mathlib.Omega.{arith}
use native.Mathlib.Decide.{ℕ_discrete, dec_lt}
use lib.Dec.{eqb, leb, ltb}
use borrow.Author.Tests.{eq-eqb, ne_eqb, lt-ltb, le-ltb, le-leb, lt-leb}
use Rattle.theory.specs.Pool.{right_of}
use Rattle.words.specs.Region.{covered}
use Rattle.words.proofs.RegionLaws.{covered_bytes}
use Rattle.table.specs.declared.Shape.{Shape}
use Rattle.table.specs.Map.{addresses, block, form_of}
use Rattle.places.specs.Count.{blocks, domain_of}
use Rattle.places.proofs.NumberLaws.{number_is}
use Rattle.places.proofs.ChangedLaws.{changed_uncovered, changed_other}
use Rattle.targets.specs.declared.Paint.{Paint}
use Rattle.targets.specs.Paints.{region}
use Rattle.plan.specs.Aims.{aim_of, aimed_at}
use Rattle.plan.specs.Planning.{Regular, first_of, last_of, end_of}
use Rattle.plan.proofs.AimLaws.{aims_covered}

-- Which of four things block `n` gets, between the first block `f` and the last one `l`: whatever is right in each
-- case is what it gets.
if_same : (n l : ℕ) {b y z : ℕ} → (n ≡ l → b ≡ z) → (n ≢ l → y ≡ z) → cond (eqb n l) b y ≡ z
if_same n l {b} {y} yes-it no-it = elim (ℕ_discrete n l) [
  | yes e ↦ ap (λ t. cond t b y) (eq-eqb n l e) ∙ yes-it e
  | no e ↦ ap (λ t. cond t b y) (ne_eqb n l e) ∙ no-it e
]

if_between : (n f l : ℕ) {c x z : ℕ} → (f < n → n < l → c ≡ z) → ((f < n → n < l → ⊥) → x ≡ z)
    → cond (ltb f n && ltb n l) c x ≡ z
if_between n f l {c} {x} {z} between apart = elim (dec_lt f n) [
  | yes p ↦ ap (λ t. cond (t && ltb n l) c x) (lt-ltb f n p) ∙ below p
  | no p ↦ ap (λ t. cond (t && ltb n l) c x) (le-ltb f n (omega arith)) ∙ apart (λ u v. p u)
]
  where
    below : f < n → cond (ltb n l) c x ≡ z
    below p = elim (dec_lt n l) [
      | yes q ↦ ap (λ t. cond t c x) (lt-ltb n l q) ∙ between p q
      | no q ↦ ap (λ t. cond t c x) (le-ltb n l (omega arith)) ∙ apart (λ u v. q v)
    ]

pub chosen : (n f l : ℕ) {a b c x z : ℕ} → (n ≡ f → a ≡ z) → (n ≡ l → b ≡ z) → (f < n → n < l → c ≡ z)
    → (n ≢ f → n ≢ l → (f < n → n < l → ⊥) → x ≡ z)
    → cond (eqb n f) a (cond (eqb n l) b (cond (ltb f n && ltb n l) c x)) ≡ z
chosen n f l first last between apart = if_same n f first
    (λ e. if_same n l last (λ g. if_between n f l between (λ u. apart e g u)))

-- The ends of a region lie in memory, in order.
pub ends_below : (paint : Paint) → Regular paint → (h : ℕ) → h < 2 → (first_of h paint ≤ last_of h paint)
    × (last_of h paint < blocks h)
ends_below paint g zero hi = (omega arith, omega arith)
ends_below paint g (suc zero) hi = (omega arith, omega arith)
ends_below paint g (suc (suc h)) hi = absurd (omega arith)

pub end_below : (paint : Paint) → Regular paint → (h : ℕ) → h < 2 → (first : Bool) → end_of h paint first < blocks h
end_below paint g h hi true = let (x, y) = ends_below paint g h hi in omega arith
end_below paint g h hi false = (ends_below paint g h hi).1

-- What the region covers, in bytes.
module _ (paint : Paint) (b : ℕ) where
  covered_from : 4 * paint.lo ≤ b → b < 4 * paint.hi → covered (region paint) b ≡ true
  covered_from x y = covered_bytes (region paint) b ∙ ap (λ t. t && ltb b (4 * paint.hi))
      (le-leb (4 * paint.lo) b x) ∙ lt-ltb b (4 * paint.hi) y

  uncovered_low : b < 4 * paint.lo → covered (region paint) b ≡ false
  uncovered_low x = covered_bytes (region paint) b ∙ ap (λ t. t && ltb b (4 * paint.hi)) (lt-leb (4 * paint.lo) b x)

  uncovered_high : 4 * paint.hi ≤ b → covered (region paint) b ≡ false
  uncovered_high x =
      covered_bytes (region paint) b ∙ ap (λ t. leb (4 * paint.lo) b && t) (le-ltb b (4 * paint.hi) x)
      ∙ and-false (leb (4 * paint.lo) b)

  block_low : (h : ℕ) → h < 2 → b / block (suc h) < first_of h paint → b < 4 * paint.lo
  block_low zero hi x = omega arith
  block_low (suc zero) hi x = omega arith
  block_low (suc (suc h)) hi x = absurd (omega arith)

  block_high : (h : ℕ) → h < 2 → last_of h paint < b / block (suc h) → 4 * paint.hi ≤ b
  block_high zero hi x = omega arith
  block_high (suc zero) hi x = omega arith
  block_high (suc (suc h)) hi x = absurd (omega arith)

  block_inside : (h : ℕ) → h < 2 → first_of h paint < b / block (suc h) → b / block (suc h) < last_of h paint
      → (4 * paint.lo ≤ b) × (b < 4 * paint.hi)
  block_inside zero hi x y = (omega arith, omega arith)
  block_inside (suc zero) hi x y = (omega arith, omega arith)
  block_inside (suc (suc h)) hi x y = absurd (omega arith)

module _ (paint : Paint) (h n : ℕ) (hi : h < 2) (b : ℕ) (e : b / block (suc h) ≡ n) where
  -- A block between the ends is covered whole ..
  pub between_covered : first_of h paint < n → n < last_of h paint → covered (region paint) b ≡ true
  between_covered x y = let (p, q) = block_inside paint b h hi (rw e x) (rw e y) in covered_from paint b p q

  -- .. and one that is neither there nor at an end lies apart.
  pub apart_uncovered : n ≢ first_of h paint → n ≢ last_of h paint → (first_of h paint < n → n < last_of h paint → ⊥)
      → covered (region paint) b ≡ false
  apart_uncovered x y z = elim (dec_lt n (first_of h paint)) [
    | yes p ↦ uncovered_low paint b (block_low paint b h hi (rw e p))
    | no p ↦ elim (dec_lt (last_of h paint) n) [
      | yes q ↦ uncovered_high paint b (block_high paint b h hi (rw e q))
      | no q ↦ absurd (z (omega arith) (omega arith))
    ]
  ]

module _ (s : Shape) (d : ℕ) (paint : Paint) (P : ℕ → ℕ) where
  -- The rights of block `i`, of the numbers over all domains, are to stay as they were; they are all to be `r`.
  abbrev pub RightsStay : ℕ → ℕ → Type 0
  RightsStay h i = (b : ℕ) → b < addresses → b / block (suc h) ≡ i % blocks h
      → aimed_at s (aim_of d paint) P (domain_of h i) b ≡ right_of (form_of s) P (domain_of h i) b

  abbrev pub Plain : ℕ → ℕ → ℕ → Type 0
  Plain h i r = (b : ℕ) → b < addresses → b / block (suc h) ≡ i % blocks h
      → aimed_at s (aim_of d paint) P (domain_of h i) b ≡ r

  -- A block that lies apart from the region stays; one between its ends gets the right.
  pub apart_stays : (h i n : ℕ) → h < 2 → i % blocks h ≡ n → n ≢ first_of h paint → n ≢ last_of h paint
      → (first_of h paint < n → n < last_of h paint → ⊥) → RightsStay h i
  apart_stays h i n hi q y z f b bb e = changed_uncovered (right_of (form_of s) P) d (region paint) paint.right
      (domain_of h i) b
      (apart_uncovered paint h n hi b (e ∙ q) y z f)

  pub between_plain : (h i n : ℕ) → h < 2 → domain_of h i ≡ d → i % blocks h ≡ n → first_of h paint < n
      → n < last_of h paint
      → Plain h i paint.right
  between_plain h i n hi x q y z b bb e = aims_covered s d paint P (domain_of h i) b
      (x, between_covered paint h n hi b (e ∙ q) y z)

  -- A block of another domain stays.
  pub other_stays : (h i : ℕ) → domain_of h i ≢ d → RightsStay h i
  other_stays h i x b bb e = changed_other (right_of (form_of s) P) d (region paint) paint.right (domain_of h i) b x

  -- Block `i` stays, gets the right, or is the first or the last block that the region meets.
  pub meeting : (h i : ℕ) → h < 2
      → RightsStay h i ⊎ (Plain h i paint.right
      ⊎ ((first : Bool) × (i ≡ blocks h * d + end_of h paint first)))
  meeting h i hi = elim (ℕ_discrete (domain_of h i) d) [
    | no x ↦ inl (other_stays h i x)
    | yes x ↦ elim (ℕ_discrete (i % blocks h) (first_of h paint)) [
      | yes y ↦ inr (inr (true, number_is h d i _ hi x y))
      | no y ↦ elim (ℕ_discrete (i % blocks h) (last_of h paint)) [
        | yes z ↦ inr (inr (false, number_is h d i _ hi x z))
        | no z ↦ elim (dec_lt (first_of h paint) (i % blocks h)) [
          | yes p ↦ elim (dec_lt (i % blocks h) (last_of h paint)) [
            | yes q ↦ inr (inl (between_plain h i _ hi x refl p q))
            | no q ↦ inl (apart_stays h i _ hi refl y z (λ u v. q v))
          ]
          | no p ↦ inl (apart_stays h i _ hi refl y z (λ u v. p u))
        ]
      ]
    ]
  ]
