-- `owners::rules::allowed` meets its contract. The invariant: what is left to ask from `w` on gives the whole answer.
use Prim.Native.Nat.{◌-◌}
use mathlib.Core.Path.{◌≡◌}
use Rattle.owners.specs.Rules.{may_word}
use Rattle.owners.proofs.RuleLaws.{up_to}
use Rattle.owners.proofs.rules.allowed.Given as goal

abbrev pub invariant-loop-w : goal.invariant-loop-w
invariant-loop-w l = up_to (may_word l.ws l.caller l.domain l.right) l.region.hi l.region.lo ≡ up_to (may_word l.ws l.caller l.domain l.right) l.region.hi l.w

abbrev pub decreases-loop-w : goal.decreases-loop-w
decreases-loop-w l = l.region.hi - l.w
