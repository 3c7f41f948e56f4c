-- `targets::first_right` meets its contract.
use Prim.Native.Nat.{◌*◌, ◌/◌}
use mathlib.Core.Path.{◌≡◌, sym, ap, ◌∙◌}
use mathlib.Core.Logic.{⊎_elim}
use native.Mathlib.Omega.{arith}
use borrow.Author.Tests.{lt-ltb}
use Rattle.theory.specs.Pool.{words}
use Rattle.words.specs.Rights.{right_at}
use Rattle.table.specs.Map.{block}
use Rattle.targets.specs.Targets.{given}
use Rattle.targets.proofs.PaintLaws.{inside_is, inside_not, painted_in, painted_out}
use Rattle.targets.proofs.GivenLaws.{first_rights, first_leaf}
use Rattle.targets.proofs.EntryLaws.{leads_leaf, leads_high}
use Rattle.targets.proofs.first_right.Goals as goal
use Rattle.targets.proofs.first_right.Goals.{After-block_words}

-- The block's first word.
start : (c : After-block_words) → let a = c.args in a.n * c.block_words.result
    ≡ a.n * (block a.height / 4)
start c = ap (λ x. c.args.n * x) c.block_words.ensures

pub returns-then-s-paint : goal.returns-then-s-paint
returns-then-s-paint c = let a = c.args in
    let z = start (goal.at.returns-then-s-paint c).After-block_words in
    sym (painted_in a.paint _ (a.n * (block a.height / 4))
    (inside_is a.paint _ (omega arith) (omega arith)))

pub returns-then-height-eq0 : goal.returns-then-height-eq0
returns-then-height-eq0 c = let a = c.args in
    let z = start (goal.at.returns-then-height-eq0 c).After-block_words in
    c.right_at.ensures
    ∙ sym (painted_out a.paint (given (words a.pool.now) a.height a.e) _ (inside_not a.paint _ (λ x y. omega arith))
    ∙ first_rights (words a.pool.now) a.height a.e a.n
    (⊎_elim (leads_leaf a.height a.e) (λ (_, l). leads_high a.height a.e l) c.then-height-eq0.either))

pub returns : goal.returns
returns c = let a = c.args in
    let z = start (goal.at.returns c).After-block_words in
    let at : c.index.result ≡ a.e = c.index.ensures ∙ ap (λ w. w.0) c.from-table.ensures in
    c.right_at-2.ensures ∙ ap (λ x. right_at (words a.pool.now x) 0) at
    ∙ sym (painted_out a.paint (given (words a.pool.now) a.height a.e) _ (inside_not a.paint _ (λ x y. omega arith))
    ∙ first_leaf (words a.pool.now) a.height a.e a.n (omega arith) (lt-ltb a.e 2147483648 c.if-e-ge-BIT_31.false))
