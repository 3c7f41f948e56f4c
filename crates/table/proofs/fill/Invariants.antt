-- `table::fill` meets its contract. The loop's invariant: the words below `i` have the value, and the others are as they
-- were.
use Rattle.std.proofs.Common.{◌≡◌, ◌++◌, drop, replicate}
use Rattle.table.proofs.fill.Given as goal

abbrev pub invariant-loop-i : goal.invariant-loop-i
invariant-loop-i l = l.part ≡ replicate l.i l.value ++ drop l.i l.initial.part
