-- Which blocks can be fresh in a change, and which tables are kept, as the edges of the region tell it.
use Prim.Native.Nat.{ℕ, ◌+◌, ◌*◌, ◌%◌, ◌<◌}
use mathlib.Core.Path.{◌≡◌, sym, ap, ◌∙◌}
use mathlib.Core.Logic.{◌≢◌}
use mathlib.Core.Bool.{Bool, true, false, cond, ◌||◌}
use native.Mathlib.Omega.{arith}
use native.Mathlib.Decide.{ℕ_discrete, dec_lt}
use lib.Dec.{eqb, ltb}
use borrow.Author.Tests.{eq-eqb, ne_eqb, lt-ltb, le-ltb}
use Rattle.theory.specs.Pool.{right_of}
use Rattle.theory.specs.Settled.{Settled}
use Rattle.theory.proofs.Logic.{by_cases}
use Rattle.table.specs.declared.Shape.{Shape}
use Rattle.table.specs.Map.{leads, form_of}
use Rattle.places.specs.Owners.{fresh}
use Rattle.places.proofs.OwnedLaws.{fresh_wants, fresh_old}
use Rattle.places.specs.Count.{blocks, domain_of, want}
use Rattle.places.specs.Final.{old}
use Rattle.places.proofs.NumberLaws.{number_is}
use Rattle.places.proofs.ChangedLaws.{changed_uncovered, changed_other}
use Rattle.targets.specs.declared.Paint.{Paint}
use Rattle.targets.specs.Paints.{region}
use Rattle.plan.specs.Planning.{first_of, last_of, end_of}
use Rattle.plan.specs.declared.Ends.{Ends}
use Rattle.plan.specs.Aims.{aim_of, aimed_at}
use Rattle.plan.specs.Edges.{stays_of}
use Rattle.plan.proofs.Giving.{EndsTold}
use Rattle.plan.proofs.AimLaws.{aims_covered}
use Rattle.plan.proofs.MeetLaws.{between_covered, apart_uncovered}
use Rattle.plan.proofs.WantedLaws.{plain_want, stays_want, only_edges_fresh}

-- Whichever a block is, at an end, between the ends or apart: what is right in each case is right.
kept_or_not : (n f l : ℕ) {a b z : Bool} → (n ≡ f → a ≡ z) → (n ≡ l → b ≡ z) → (f < n → n < l → false ≡ z)
    → (n ≢ f → n ≢ l → (f < n → n < l → ⊥) → true ≡ z)
    → cond (eqb n f) a (cond (eqb n l) b (ltb n f || ltb l n)) ≡ z
kept_or_not n f l {a} {b} {z} first last between apart = elim (ℕ_discrete n f) [
  | yes x ↦ ap (λ t. cond t a (cond (eqb n l) b (ltb n f || ltb l n))) (eq-eqb n f x) ∙ first x
  | no x ↦ ap (λ t. cond t a (cond (eqb n l) b (ltb n f || ltb l n))) (ne_eqb n f x) ∙ elim (ℕ_discrete n l) [
    | yes y ↦ ap (λ t. cond t b (ltb n f || ltb l n)) (eq-eqb n l y) ∙ last y
    | no y ↦ ap (λ t. cond t b (ltb n f || ltb l n)) (ne_eqb n l y) ∙ elim (dec_lt n f) [
      | yes p ↦ ap (λ t. t || ltb l n) (lt-ltb n f p) ∙ apart x y (λ u v. omega arith)
      | no p ↦ ap (λ t. t || ltb l n) (le-ltb n f (omega arith)) ∙ elim (dec_lt l n) [
        | yes q ↦ lt-ltb l n q ∙ apart x y (λ u v. omega arith)
        | no q ↦ le-ltb l n (omega arith) ∙ between (omega arith) (omega arith)
      ]
    ]
  ]
]

module _ (s : Shape) (d : ℕ) (paint : Paint) {P : ℕ → ℕ} (q : Settled (form_of s) P) (h i : ℕ) (hi : h < 2)
    (bi : i < blocks h * s.domains) where
  abbrev T : ℕ → ℕ → ℕ
  T = aimed_at s (aim_of d paint) P

  abbrev R : ℕ → ℕ → ℕ
  R = right_of (form_of s) P

  -- A block off both ends is not fresh.
  pub apart_not_fresh : ((first : Bool) → i ≢ blocks h * d + end_of h paint first)
      → fresh (want T h) (old P h) i ≡ false
  apart_not_fresh a = by_cases (fresh (want T h) (old P h) i)
      (λ e. let (b, x) = only_edges_fresh s d paint P h i hi bi q (fresh_wants (want T h i) (old P h i) e)
      (fresh_old (want T h i) (old P h i) e) in absurd (a b x))
      (λ e. e)

  -- What a block wants that is in another domain, between the ends of the region, or apart from it.
  other_want : domain_of h i ≢ d → want T h i ≡ old P h i
  other_want x = stays_want s d paint P h i hi bi q
      (λ b bb e. changed_other R d (region paint) paint.right (domain_of h i) b x)

  between_want : domain_of h i ≡ d → first_of h paint < i % blocks h → i % blocks h < last_of h paint → want T h i ≡ false
  between_want x y z = plain_want s d paint P h i hi bi paint.right
      (λ b bb e. aims_covered s d paint P (domain_of h i) b (x, between_covered paint h (i % blocks h) hi b e y z))

  apart_want : i % blocks h ≢ first_of h paint → i % blocks h ≢ last_of h paint
      → (first_of h paint < i % blocks h → i % blocks h < last_of h paint → ⊥)
      → want T h i ≡ old P h i
  apart_want x y z = stays_want s d paint P h i hi bi q (λ b bb e.
      changed_uncovered R d (region paint) paint.right (domain_of h i) b
      (apart_uncovered paint h (i % blocks h) hi b e x y z))

  -- Of a block that has a table, the edges tell whether it is kept.
  pub stays_is : {ends : Ends} → EndsTold s d paint P h ends → old P h i ≡ true
      → stays_of d ends (domain_of h i) (i % blocks h) ≡ want T h i
  stays_is {ends} k o = elim (ℕ_discrete (domain_of h i) d) [
    | no x ↦ ap (λ t. cond t inner true) (ne_eqb (domain_of h i) d x) ∙ sym (other_want x ∙ o)
    | yes x ↦ ap (λ t. cond t inner true) (eq-eqb (domain_of h i) d x) ∙ kept_or_not (i % blocks h) ends.first.number
        ends.last.number
        (λ e. k.first_told.wanted ∙ ap (want T h) (sym (number_is h d i _ hi x (e ∙ k.first_told.number))))
        (λ e. k.last_told.wanted ∙ ap (want T h) (sym (number_is h d i _ hi x (e ∙ k.last_told.number))))
        (λ u v. sym (between_want x (rw k.first_told.number at u) (rw k.last_told.number at v)))
        (λ u v w. sym (apart_want (rw k.first_told.number at u) (rw k.last_told.number at v)
        (rw (k.first_told.number, k.last_told.number) at w) ∙ o))
  ]
    where
      inner : Bool
      inner = cond (eqb (i % blocks h) ends.first.number) (leads 1 ends.first.last)
          (cond (eqb (i % blocks h) ends.last.number) (leads 1 ends.last.last)
          (ltb (i % blocks h) ends.first.number || ltb ends.last.number (i % blocks h)))
