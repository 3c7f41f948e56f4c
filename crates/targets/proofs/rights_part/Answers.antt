-- `targets::rights_part` meets its contract.
use Prim.Native.Nat.{suc}
use mathlib.Core.Path.{◌≡◌, ap, ◌∙◌}
use native.Mathlib.Numerals.{add-one}
use Rattle.table.specs.Wants.{words_in}
use Rattle.targets.specs.Targets.{given}
use Rattle.targets.proofs.EntryLaws.{rights_found}
use Rattle.targets.proofs.rights_part.Goals as goal
use Rattle.targets.proofs.rights_part.Goals.{After-part_words-long}

-- The words of a sub-block of the entry above.
above : (c : After-part_words-long) → c.part_words-long.result ≡ words_in (suc c.args.below)
above c = c.part_words-long.ensures ∙ ap words_in (add-one c.args.below)

pub returns : goal.returns
returns c = λ P.
    let a = c.args in
    rights_found a.paint P a.below a.e a.n a.i _ _ c.even_part.result c.requires.0 c.requires.3
    c.right_at-o.ensures (above (goal.at.returns c).After-part_words-long) (c.even_part.ensures (given P _ _))
