-- `targets::stands` meets its contract.
use native.Mathlib.Omega.{arith}
use borrow.Author.Tests.{leb-true}
use Rattle.targets.proofs.EntryLaws.{leads_leaf, leads_high, bare_says}
use Rattle.targets.proofs.stands.Goals as goal

pub returns-then-height-eq0 : goal.returns-then-height-eq0
returns-then-height-eq0 c = λ y.
    let a = c.args in
    bare_says a.paint a.height a.e a.n a.same c.if-e-same.true.0 c.if-e-same.true.1 (omega arith) c.requires
    (leads_leaf a.height a.e c.if-height-eq0.true)

pub returns-else-height-eq0 : goal.returns-else-height-eq0
returns-else-height-eq0 c = λ y.
    let a = c.args in
    bare_says a.paint a.height a.e a.n a.same c.if-e-same.true.0 c.if-e-same.true.1 (omega arith) c.requires
    (leads_high a.height a.e (leb-true _ _ y))
