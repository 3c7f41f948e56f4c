-- What blocks want after a change of a settled pool: as before where the rights stay, no table where there is one
-- right; so only the two ends of the region can want a table that they did not have.
use Prim.Native.Nat.{ℕ, zero, suc, ◌+◌, ◌*◌, ◌/◌, ◌%◌, ◌<◌}
use mathlib.Core.Path.{◌≡◌, refl, sym, ◌∙◌}
use mathlib.Core.Logic.{⊎_elim}
use mathlib.Core.Bool.{Bool, true, false, true≢false}
use native.Mathlib.Omega.{arith}
use Rattle.theory.specs.Pool.{right_of}
use Rattle.theory.specs.Settled.{Settled}
use Rattle.table.specs.declared.Shape.{Shape}
use Rattle.table.specs.Map.{block, form_of}
use Rattle.table.proofs.WantLaws.{pool_rights}
use Rattle.places.proofs.Exists.{settled_table}
use Rattle.places.specs.Count.{blocks, domain_of, address_of, want}
use Rattle.places.specs.Final.{old}
use Rattle.places.proofs.NumberLaws.{number_first}
use Rattle.targets.specs.declared.Paint.{Paint}
use Rattle.plan.specs.Planning.{end_of}
use Rattle.plan.specs.Aims.{aim_of, aimed_at}
use Rattle.plan.proofs.BlockRightsLaws.{wants_near, wants_plain}
use Rattle.plan.proofs.MeetLaws.{RightsStay, Plain, meeting}

-- The first address of a block is in the block.
pub first_address : (h i : ℕ) → h < 2 → address_of h i / block (suc h) ≡ i % blocks h
first_address zero i hi = omega arith
first_address (suc zero) i hi = omega arith
first_address (suc (suc h)) i hi = absurd (omega arith)

-- A settled pool has a table where its rights want one.
pub old_wants : (s : Shape) {P : ℕ → ℕ} → Settled (form_of s) P → (h i : ℕ) → h < 2 → i < blocks h * s.domains
    → old P h i ≡ want (right_of (form_of s) P) h i
old_wants s {P} st h i hi bi = settled_table s (λ e a be ba. refl) (λ e be. pool_rights s P e) st h i hi bi

module _ (s : Shape) (d : ℕ) (paint : Paint) (P : ℕ → ℕ) (h i : ℕ) (hi : h < 2) (bi : i < blocks h * s.domains) where
  -- A block of one right wants no table.
  pub plain_want : (r : ℕ) → Plain s d paint P h i r → want (aimed_at s (aim_of d paint) P) h i ≡ false
  plain_want r pl =
      wants_near (aimed_at s (aim_of d paint) P (domain_of h i)) (λ b. r) (suc h) (address_of h i)
      (number_first h s.domains i hi bi).1
      (λ b bb x. pl b bb (x ∙ first_address h i hi))
      ∙ wants_plain r (suc h) (address_of h i)

  module _ (st : Settled (form_of s) P) where
    -- A block whose rights stay wants a table where it had one.
    pub stays_want : RightsStay s d paint P h i → want (aimed_at s (aim_of d paint) P) h i ≡ old P h i
    stays_want same =
        wants_near (aimed_at s (aim_of d paint) P (domain_of h i)) (right_of (form_of s) P (domain_of h i)) (suc h)
        (address_of h i)
        (number_first h s.domains i hi bi).1 (λ b bb x. same b bb (x ∙ first_address h i hi))
        ∙ sym (old_wants s st h i hi bi)

    -- Only the two ends of the region can be fresh.
    pub only_edges_fresh : want (aimed_at s (aim_of d paint) P) h i ≡ true → old P h i ≡ false
        → (first : Bool) × (i ≡ blocks h * d + end_of h paint first)
    only_edges_fresh w o = ⊎_elim
        (λ same. absurd (true≢false (sym w ∙ stays_want same ∙ o)))
        (⊎_elim (λ pl. absurd (true≢false (sym w ∙ plain_want paint.right pl))) (λ x. x))
        (meeting s d paint P h i hi)
