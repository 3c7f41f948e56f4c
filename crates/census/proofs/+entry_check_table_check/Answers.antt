-- `census::entry_check` and `census::table_check` meet their contracts.
use Rattle.std.proofs.Common.{◌+◌, ◌-◌, ◌*◌, ℕ, List, refl, sym, ap, ◌∙◌, arith}
use borrow.Author.Tests.{eq-eqb}
use Rattle.theory.specs.Pool.{words}
use Rattle.words.specs.Rights.{good_rights}
use Rattle.table.specs.declared.Shape.{Shape}
use Rattle.census.specs.Tally.{Tally, entry_tally}
use Rattle.census.proofs.TallyLaws.{upper_size, answers_owned, answers_refused, same_answers, owned_answers}
use Rattle.census.proofs.TallyLaws.{refused_answers, through_step, through_stop, through_pass, through_start, through_end}
use Rattle.census.proofs.TallyLaws.{table_leaf, table_through, enter_rights, enter_bad, enter_given, enter_again}
use Rattle.census.proofs.TallyLaws.{rights_pass}
use Rattle.census.proofs.+entry_check_table_check.Goals as goal

-- Root or middle table: what its entries are checked by.
abbrev check : Shape → List ℕ → ℕ → ℕ → ℕ → List ℕ → Tally
check s pool h k = entry_tally s pool h (words pool k)

pub entry_check-returns-in-Rights : goal.entry_check-returns-in-Rights
entry_check-returns-in-Rights t c =
    owned_answers _ _ _ refl (enter_rights _ _ _ (sym c.decode.ensures ∙ c.in-Rights.is))

pub entry_check-returns-in-Bad : goal.entry_check-returns-in-Bad
entry_check-returns-in-Bad t c = refused_answers _ _ _ refl (enter_bad _ _ _ (sym c.decode.ensures ∙ c.in-Bad.is))

pub entry_check-returns-then-height-eq1 : goal.entry_check-returns-then-height-eq1
entry_check-returns-then-height-eq1 t c =
    owned_answers _ _ _ (eq-eqb _ _ c.if-height-eq1.true)
    (enter_given _ _ _ (sym c.decode.ensures ∙ c.in-Leads.is)
    (answers_owned _ _ _ c.give_place.ensures c.if-give_place.true)
    ∙ table_leaf _ _ _ _ _ _ (omega (arith, c.if-height-eq1.true)))

pub entry_check-returns-else-height-eq1 : goal.entry_check-returns-else-height-eq1
entry_check-returns-else-height-eq1 t c =
    same_answers _ _ _ _ (enter_given _ _ _ (sym c.decode.ensures ∙ c.in-Leads.is)
    (answers_owned _ _ _ c.give_place.ensures c.if-give_place.true)) c.table_check.ensures

pub entry_check-returns-else-give_place : goal.entry_check-returns-else-give_place
entry_check-returns-else-give_place t c =
    refused_answers _ _ _ c.if-give_place.false
    (enter_again _ _ _ (sym c.decode.ensures ∙ c.in-Leads.is)
    (answers_refused _ _ _ c.give_place.ensures c.if-give_place.false))

pub table_check-loop-i-init : goal.table_check-loop-i-init
table_check-loop-i-init t c =
    let a = c.args in
    let above = c.requires.height_nonzero.0 in
    let size = upper_size a.height above in (
      omega arith,
      omega (arith, c.requires.height_in_bounds),
      through_start (check a.shape a.pool.now a.height) 1024 a.base.0 (1024 * a.block) a.owners.now
          ∙ sym (table_through a.shape a.pool.now a.height a.base.0 a.block a.owners.now above),
    )

pub table_check-returns-then-not-entry_check : goal.table_check-returns-then-not-entry_check
table_check-returns-then-not-entry_check t c =
    let a = c.args in
    let x = c.index.ensures ∙ ap (λ w. w.0) c.after-word.ensures in
    refused_answers _ _ _ refl (sym c.loop-i.invariant.2
    ∙ through_stop (check a.shape a.pool.now a.height) 1024 a.base.0 (1024 * a.block) c.loop-i.i c.loop-i.owners
    (omega arith)
    (ap (λ k. check a.shape a.pool.now a.height k (1024 * a.block + c.loop-i.i) c.loop-i.owners) (sym x)
    ∙ answers_refused _ _ _ c.entry_check.ensures c.if-not-entry_check.true))

pub table_check-loop-i-preserved-then-n-eq0 : goal.table_check-loop-i-preserved-then-n-eq0
table_check-loop-i-preserved-then-n-eq0 t c =
    let a = c.args in
    let x = c.index.ensures ∙ ap (λ w. w.0) c.after-word.ensures in (
      omega arith,
      c.loop-i.invariant.1,
      sym (through_step (check a.shape a.pool.now a.height) 1024 a.base.0 (1024 * a.block) c.loop-i.i
          c.loop-i.owners (omega arith) _
          (ap (λ k. check a.shape a.pool.now a.height k (1024 * a.block + c.loop-i.i) c.loop-i.owners) (sym x)
          ∙ answers_owned _ _ _ c.entry_check.ensures c.if-not-entry_check.false))
          ∙ c.loop-i.invariant.2,
    )

pub table_check-loop-i-preserved : goal.table_check-loop-i-preserved
table_check-loop-i-preserved t c =
    let a = c.args in
    let P = words a.pool.now in
    let at = a.base.0 in
    let here = ap (λ w. w.0) c.after-word.ensures in (
      omega arith,
      c.loop-i.invariant.1,
      sym (through_pass (check a.shape a.pool.now a.height) 1024 at (1024 * a.block) c.loop-i.i c.loop-i.owners
          c.plain_ahead-n.result c.plain_ahead-n.ensures.0
          (λ e h. rights_pass a.shape a.pool.now a.height (P (at + c.loop-i.i + e))
          (1024 * a.block + c.loop-i.i + e) c.loop-i.owners c.requires.height_nonzero.0
          (omega (arith, c.type_inv.pool (at + c.loop-i.i + e)))
          (ap (λ x. good_rights (P (x + e))) (sym here) ∙ c.plain_ahead-n.ensures.1 e h)))
          ∙ c.loop-i.invariant.2,
    )

pub table_check-returns : goal.table_check-returns
table_check-returns t c =
    let a = c.args in
    owned_answers _ _ _ refl (sym c.loop-i.invariant.2
    ∙ through_end (check a.shape a.pool.now a.height) (1024 - c.loop-i.i) (a.base.0 + c.loop-i.i)
    (1024 * a.block + c.loop-i.i) c.loop-i.owners (omega arith))
