-- `pages::write_fours` meets its contract.
use Rattle.std.proofs.Common.{◌*◌, ◌≤◌, ◌≡◌, length, take}
use Rattle.rights_listing.specs.Text.{text}
use Rattle.rights_listing.proofs.pages.write_fours.Given as goal

abbrev pub invariant-loop-i : goal.invariant-loop-i
invariant-loop-i l = (l.len ≤ 11 * l.i) × (length l.out ≡ length l.initial.out) × (take l.len l.out ≡ text 4 (take l.i l.runs))
