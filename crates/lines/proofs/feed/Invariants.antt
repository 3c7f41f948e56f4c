-- `lines::feed` meets its contract. The loop's invariant: what is left of the chunk gives what the whole gives.
use Rattle.std.proofs.Common.{◌≡◌, drop}
use Rattle.lines.specs.Feeds.{feed_of}
use Rattle.lines.proofs.feed.Given as goal

abbrev pub invariant-loop-i : goal.invariant-loop-i
invariant-loop-i l = feed_of l.i l.line (drop l.i l.chunk) ≡ feed_of l.from l.initial.line (drop l.from l.chunk)
