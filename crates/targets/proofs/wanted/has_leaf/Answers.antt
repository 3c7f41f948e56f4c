-- `targets::wanted::has_leaf` meets its contract.
use Prim.Native.Nat.{ℕ, ◌+◌, ◌/◌, ◌<◌}
use mathlib.Core.Path.{◌≡◌, sym, ap, ◌∙◌}
use mathlib.Core.Bool.{Bool, true}
use mathlib.Core.List.{List}
use lib.ListN.{length, drop}
use Rattle.std.specs.Bool.{MatchBool}
use Rattle.std.specs.List.{AllWithin, HoldsAt}
use Rattle.std.proofs.Common.{rules, length-drop, get_or-drop}
use Rattle.std.proofs.lemmas.List.{take_all}
use Rattle.targets.specs.Steps.{LeafIn}
use native.Mathlib.Omega.{arith}
use borrow.Author.Tests.{tests}
use Rattle.std.proofs.lemmas.Iterator.{cases_from_any, YieldsList-from_slice}
use Rattle.targets.proofs.ChainLaws.{any_place}
use Rattle.targets.proofs.wanted.has_leaf.Goals as goal

-- One of the owners of the leaf places is a page of the block.
leaf_in : (o : List ℕ) (n block : ℕ) (r : Bool) → length o ≡ 72 → n < 8
    → MatchBool r ((k : ℕ) × (k < length (drop 8 o)) × HoldsAt (λ page. page / 1024 ≡ block) (drop 8 o) k)
    (AllWithin (λ page. Unit {0}) (drop 8 o) 0 (length (drop 8 o)))
    → r ≡ true → LeafIn o n block
leaf_in o n block r len b m e =
    let (k, l, f) = any_place (drop 8 o) r (λ page. page / 1024 ≡ block) (λ page. Unit {0}) m e in
    record {
      middle = b;
      place = 8 + k;
      above = omega arith;
      below = omega (arith, length-drop 8 o);
      inside = ap (λ x. x / 1024) (sym (get_or-drop 8 o k 0)) ∙ f 0;
    }

pub returns-then-n-lt-FIRST_LEAF : goal.returns-then-n-lt-FIRST_LEAF
returns-then-n-lt-FIRST_LEAF c =
    let a = c.args in
    leaf_in a.owners.now a.n a.block _ c.told-owners c.if-n-lt-FIRST_LEAF.true
    (cases_from_any _ _ _ (λ page. page / 1024 ≡ a.block) (λ page. Unit {0}) c.any.ensures.ran
    (YieldsList-from_slice (drop 8 a.owners.now) (c.iter.ensures.rest ∙ take_all 64 (drop 8 a.owners.now) (omega (arith, length-drop 8 a.owners.now)))) (λ x q k. search (rules, tests)) (λ x q k. search (rules, tests)))
