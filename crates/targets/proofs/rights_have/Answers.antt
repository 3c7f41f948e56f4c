-- `targets::rights_have` meets its contract.
use Prim.Native.Nat.{ℕ, suc}
use mathlib.Core.Path.{◌≡◌, refl, ◌∙◌}
use mathlib.Core.Bool.{false, false≢true}
use lib.Dec.{eqb}
use borrow.Author.Tests.{tests, eq-eqb}
use Rattle.std.specs.Option.{option_eq}
use Rattle.std.proofs.Common.{Some, None, Option, rules}
use Rattle.std.proofs.lemmas.Iterator.{cases_from_all, YieldsList-from_range}
use Rattle.targets.specs.declared.Paint.{Paint}
use Rattle.targets.specs.Targets.{painted, given}
use Rattle.targets.specs.Steps.{PartIs}
use Rattle.table.specs.Wants.{words_in}
use Rattle.table.proofs.BlockLaws.{first_word}
use Rattle.targets.proofs.ChainLaws.{all_decides}
use Rattle.targets.proofs.PartLaws.{part_word, plain_part, parts_plain}
use Rattle.targets.proofs.HaveLaws.{decides_as, plain_one}
use Rattle.targets.proofs.rights_have.Goals as goal

-- Sub-block `i` has not the right `u` throughout.
record Lacks (P : ℕ → ℕ) (p : Paint) (h e n i u : ℕ) : Type 0 where
  pub lacks : PartIs P p h e n i (Some u) → ⊥

-- What a sub-block's one right tells of the right `u`: it has that one throughout ..
module _ (P : ℕ → ℕ) (p : Paint) (h e n i u : ℕ) (r : Option ℕ) (f : (P : ℕ → ℕ) → PartIs P p h e n i r) where
  part_has : r ≡ Some u → PartIs P p h e n i (Some u)
  part_has q = rw q at (f P)

  -- .. or not.
  part_lacks : false ≡ option_eq eqb r (Some u) → Lacks P p h e n i u
  part_lacks q = record { lacks = λ g. go g r (f P) q }
    where
      R : ℕ → ℕ
      R = painted p (given P h e)

      go : PartIs P p h e n i (Some u) → (s : Option ℕ) → PartIs P p h e n i s → false ≡ option_eq eqb s (Some u) → ⊥
      go g (Some v) k z = ne_same (plain_one R (part_word h n i) (words_in h) v u (first_word h) k g) z
        where
          ne_same : v ≡ u → false ≡ eqb v u → ⊥
          ne_same same z = false≢true (z ∙ eq-eqb v u same)
      go g None k z = k u g

pub returns : goal.returns
returns c = λ P.
    let a = c.args in
    let h = suc a.below in
    let R = painted a.paint (given P h a.e) in
    let Yes = λ (i : ℕ). PartIs P a.paint h a.e a.n i (Some a.right) in
    let No = λ (i : ℕ). Lacks P a.paint h a.e a.n i a.right in
    decides_as _ (all_decides 8 _ Yes No (λ k x. x.lacks)
    (cases_from_all _ _ _ Yes No c.all.ensures.ran (YieldsList-from_range 0 8 8 refl refl)
    (λ x q k. search (rules, tests, part_has)) (λ x q k. search (rules, tests, part_lacks))))
    (parts_plain R h a.n a.right) (plain_part R h a.n a.right)
