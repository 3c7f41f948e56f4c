-- `goleuthan::results::put` meets its contract. The loop's invariant: the first `i` results are written.
use mathlib.Core.Path.{◌≡◌}
use lib.ListN.{take}
use Rattle.goleuthan.specs.Out.{out_with}
use Rattle.goleuthan.proofs.results.put.Given as goal

abbrev pub invariant-loop-i : goal.invariant-loop-i
invariant-loop-i g l = l.out ≡ out_with (take l.i l.results) l.initial.out
