-- `targets::part` meets its contract.
use Prim.Native.Nat.{suc, ◌+◌, ◌*◌}
use mathlib.Core.Path.{◌≡◌, ap, ◌∙◌}
use mathlib.Core.Bool.{true}
use native.Mathlib.Omega.{arith}
use borrow.Author.Tests.{lt-ltb}
use Rattle.theory.specs.Pool.{words}
use Rattle.table.specs.Map.{leads}
use Rattle.targets.proofs.HeightLaws.{Entries, entries}
use Rattle.targets.proofs.GivenLaws.{painted_given_small}
use Rattle.targets.proofs.HaveLaws.{part_found}
use Rattle.targets.proofs.part.Goals as goal
use Rattle.targets.proofs.part.Goals.{After-part_entries-count, After-index, After-after-word}

-- The numbers of the sub-block's entries.
sub : (c : After-part_entries-count) → let a = c.args in Entries a.below a.n a.i
    c.part_entries-count.result
sub c = entries _ _ _ _ c.requires.below_bound.0 c.part_entries-count.ensures c.requires.below_bound.1 c.requires.below_bound.2

-- The block's entry leads to a table.
lead : (c : After-part_entries-count) → let a = c.args in leads (suc a.below) a.e ≡ true
lead c = lt-ltb c.args.e 2147483648 (omega arith)

-- Where the sub-block's entries begin.
word : (d : After-after-word) → let a = d.args in d.after-word.result.0 ≡ a.e + d.part_entries-count.result * a.i
word d =
    ap (λ w. w.0) d.after-word.ensures
    ∙ ap (λ w. w.0 + d.part_entries-count.result * d.args.i) d.from-table.ensures

begin : (d : After-index) → let a = d.args in d.index.result ≡ a.e + d.part_entries-count.result * a.i
begin d = d.index.ensures ∙ word (goal.at.After-index d).After-after-word

pub entries_have-all-requires-clause-by_index : goal.entries_have-all-requires-clause-by_index
entries_have-all-requires-clause-by_index c = λ j l.
    let at = goal.at.entries_have-all-requires-clause-by_index c in
    let z = word at.After-after-word in
    let x = sub at.After-part_entries-count in
    let y : c.after-word.result.0 + j ≡ c.args.e + (c.part_entries-count.result * c.args.i + j) = omega arith in
    rw y (c.requires.readable.entries (lead at.After-part_entries-count) _ (omega (arith, x.inside)))

pub entries_have-all-requires-clause-height_bound : goal.entries_have-all-requires-clause-height_bound
entries_have-all-requires-clause-height_bound c = (
  omega arith,
  c.requires.below_bound.3,
  rw c.first_right-right.ensures (painted_given_small (words c.args.pool.now) c.args.paint _ _ c.requires.below_bound.3 _),
)

pub returns : goal.returns
returns c = let a = c.args in
    let at = goal.at.returns c in
    rw c.then_some.ensures (part_found a.paint (words a.pool.now) a.below a.e a.n a.i _ _
    (sub at.After-part_entries-count) (lead at.After-part_entries-count) c.entries_have-all.result
    (rw (begin at.After-index) at c.first_right-right.ensures)
    (rw (word at.After-after-word) at c.entries_have-all.ensures))
