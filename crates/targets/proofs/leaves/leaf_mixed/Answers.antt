-- `targets::leaves::leaf_mixed` meets its contract.
use Prim.Native.Nat.{ℕ, ◌+◌, ◌*◌}
use mathlib.Core.Path.{◌≡◌, refl, ap, ◌∙◌}
use mathlib.Core.Bool.{Bool, true, not, true≢false}
use mathlib.Core.List.{List}
use native.Mathlib.Omega.{arith}
use borrow.Author.Tests.{tests}
use Rattle.std.proofs.Common.{rules}
use Rattle.std.proofs.lemmas.Iterator.{cases_from_any, YieldsList-from_range}
use Rattle.targets.specs.Steps.{EvenEntries}
use Rattle.targets.proofs.ChainLaws.{any_number}
use Rattle.targets.proofs.LeafLaws.{uneven_mixed}
use Rattle.targets.proofs.leaves.leaf_mixed.Goals as goal

-- Sub-block `i` is not one right's.
record Uneven (p : List ℕ) (leaf i : ℕ) : Type 0 where
  pub uneven : EvenEntries p (leaf + 8 * i) → ⊥

seen_uneven : (p : List ℕ) (leaf i : ℕ) (r : Bool) → true ≡ not r → (EvenEntries p (leaf + 8 * i) → r ≡ true) → Uneven p leaf i
seen_uneven p leaf i r e f = record { uneven = λ x. absurd (true≢false (e ∙ ap not (f x))) }

pub returns : goal.returns
returns c = λ t n.
    let a = c.args in
    let (i, b, x) = any_number 8 _ (λ i. Uneven a.pool.now a.leaf.0 i) (λ i. Unit {0})
    (cases_from_any _ _ _ (λ i. Uneven a.pool.now a.leaf.0 i) (λ i. Unit {0}) c.any.ensures.ran
    (YieldsList-from_range 0 8 8 refl refl)
    (λ x q k. search (rules, tests, seen_uneven)) (λ x q k. search (rules, tests))) t in
    uneven_mixed a.pool.now a.leaf.0 n i c.requires.0 b (λ j. omega (arith, c.type_inv.pool j)) x.uneven
