-- `words::all_same` meets its contract. Assumes nothing.
use Prim.Native.Nat.{◌+◌, ◌-◌}
use mathlib.Core.Path.{◌≡◌, sym, ◌∙◌}
use native.Mathlib.Omega.{arith}
use Rattle.words.proofs.PassingLaws.{same_part, part_same}
use Rattle.words.proofs.all_same.Goals as goal

pub returns : goal.returns
returns c = let a = c.args in
    let first = c.index-first.result in
    let z : first + a.count - first ≡ a.count = omega arith in
    let e = rw (z, c.index-first.ensures) at c.all_are.ensures in (
      (λ t. same_part a.pool.now a.at.0 a.count a.value c.requires (sym e ∙ t)),
      λ s. e ∙ part_same a.pool.now a.at.0 a.count a.value c.requires s,
    )
