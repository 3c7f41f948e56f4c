-- `owners::leave_of` meets its contract.
use Rattle.std.proofs.Common.{refl, sym, inr}
use Rattle.owners.proofs.RuleLaws.{true_allowed, false_not_allowed}
use Rattle.owners.proofs.CallLaws.{asked_counted}
use Rattle.owners.proofs.leave_of.Goals as goal

pub allowed-requires : goal.allowed-requires
allowed-requires c = asked_counted _ _ _ _ _ _ _ _ _ (sym c.in_ok-region.ensures)

pub returns-then-allowed : goal.returns-then-allowed
returns-then-allowed c = (_, sym c.in_ok-region.ensures, true_allowed _ _ _ _ _ (sym c.if-allowed.ensures))

pub returns-else-allowed : goal.returns-else-allowed
returns-else-allowed c =
    inr (refl, _, sym c.in_ok-region.ensures, false_not_allowed _ _ _ _ _ (sym c.if-allowed.ensures))
