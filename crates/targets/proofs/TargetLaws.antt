-- Laws of a target: its two cases, and that it is the block's.
use Rattle.std.proofs.Common.{None, Some}
use Prim.Native.Nat.{ℕ, ◌/◌}
use mathlib.Core.Path.{◌≡◌, sym, ap, ◌∙◌}
use mathlib.Core.Bool.{true, false, cond}
use native.Mathlib.Omega.{arith}
use Rattle.theory.proofs.Logic.{by_cases}
use Rattle.table.specs.Map.{block}
use Rattle.table.specs.Wants.{wants_of, said_of}
use Rattle.table.proofs.WantLaws.{wants_leaf, wants_block, said_block}
use Rattle.targets.specs.Targets.{target_of}

pub same_said : {x y : ℕ} → Some x ≡ Some y → x ≡ y
same_said e = cc

pub mixed_not_said : {x : ℕ} → None ≡ Some x → ⊥
mixed_not_said e = let z : ◌≡◌ {A = ℕ} 0 1 = cc in omega arith

module _ (R : ℕ → ℕ) (h a : ℕ) where
  -- A target is mixed exactly where a table is wanted ..
  pub wanted_mixed : wants_of R h a ≡ true → target_of R h a ≡ None
  wanted_mixed w = ap (λ t. cond t None (Some (said_of R h a))) w

  -- .. and is rights exactly where none is.
  pub unwanted_said : wants_of R h a ≡ false → target_of R h a ≡ Some (said_of R h a)
  unwanted_said w = ap (λ t. cond t None (Some (said_of R h a))) w

  pub mixed_wanted : target_of R h a ≡ None → wants_of R h a ≡ true
  mixed_wanted e = by_cases (wants_of R h a) (λ w. w) (λ w. absurd (mixed_not_said (sym e ∙ unwanted_said w)))

  pub said_unwanted : {x : ℕ} → target_of R h a ≡ Some x → (wants_of R h a ≡ false) × (x ≡ said_of R h a)
  said_unwanted e = by_cases (wants_of R h a)
      (λ w. absurd (mixed_not_said (sym (wanted_mixed w) ∙ e)))
      (λ w. (w, same_said (sym e ∙ unwanted_said w)))

-- A leaf entry always says its block.
pub leaf_target : (R : ℕ → ℕ) (a t : ℕ) → t ≡ said_of R 0 a → target_of R 0 a ≡ Some t
leaf_target R a t e = unwanted_said R 0 a (wants_leaf R a) ∙ ap Some (sym e)

-- Every address of a block has its target.
pub target_block : (R : ℕ → ℕ) (h a b : ℕ) → a / block h ≡ b / block h → target_of R h a ≡ target_of R h b
target_block R h a b e =
    ap (λ t. cond t None (Some (said_of R h a))) (wants_block R h a b e)
    ∙ ap (λ w. cond (wants_of R h b) None (Some w)) (said_block R h a b e)
