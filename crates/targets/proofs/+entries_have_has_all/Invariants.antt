-- `targets::entries_have` and `targets::has_all` call each other. The measure is twice the height, and one more in
-- `entries_have`, which calls at the same height. The invariant of its loop: the blocks of the entries passed have the
-- right on all their words.
use Rattle.std.proofs.Common.{◌+◌, ◌*◌}
use Rattle.theory.specs.Pool.{words}
use Rattle.targets.specs.Steps.{BlocksHave}
use Rattle.targets.proofs.+entries_have_has_all.Given as goal

abbrev pub decreases-entries_have : goal.decreases-entries_have
decreases-entries_have l = 2 * l.height + 1

abbrev pub decreases-has_all : goal.decreases-has_all
decreases-has_all l = 2 * l.height

abbrev pub invariant-entries_have-loop-j : goal.invariant-entries_have-loop-j
invariant-entries_have-loop-j l = BlocksHave (words l.pool) l.paint l.height l.start l.j l.number l.right
