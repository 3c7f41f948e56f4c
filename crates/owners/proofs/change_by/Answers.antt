-- `owners::change_by` meets its contract.
use Rattle.std.proofs.Common.{ℕ, List, Err, sym, subst}
use Rattle.std.proofs.lemmas.Result.{err_from_is_err_and}
use mathlib.Core.Logic.{⊎_elim}
use Rattle.refusals.specs.declared.Refusal.{Refusal}
use Rattle.table.specs.declared.Shape.{Shape}
use Rattle.owners.specs.Changes.{asked_by, ChangesBy, not_asked, not_allowed, allowed}
use Rattle.owners.specs.Reach.{LeaveIs}
use Rattle.owners.proofs.change_by.Goals as goal

module _ (p : List ℕ) (s : Shape) (list : List ℕ) (caller d start len r n : ℕ) (k : Refusal) where
  -- Without leave the change is refused so.
  no_leave : LeaveIs list caller d r (asked_by p s list caller d start len r) (Err k)
      → ChangesBy p s list caller d start len r n (Err k) p
  no_leave l = ⊎_elim (λ e. not_asked k e)
      (λ x. subst (λ i. ChangesBy p s list caller d start len r n (Err i) p) (sym x.0)
      (not_allowed x.1 x.2 x.3)) l

pub returns-in_err-leave_of : goal.returns-in_err-leave_of
returns-in_err-leave_of c = let a = c.args in
    let q = err_from_is_err_and c.from_residual.result c.from_residual.ensures.1 in
    rw (q.1, q.2) (no_leave a.pool.now a.shape a.regions.now a.caller a.domain a.start.0 a.length a.right
    a.allowance _ (rw c.shape_fits-fits.ensures at c.in_err-leave_of.ensures))

pub returns : goal.returns
returns c = let l = rw c.shape_fits-fits.ensures at c.in_ok-leave_of.ensures in
    allowed l.0 l.1 l.2 c.change.ensures
