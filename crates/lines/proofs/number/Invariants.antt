-- `lines::number` meets its contract. The loop's invariant: what is left of the word gives what the whole word gives.
use Rattle.std.proofs.Common.{◌≡◌, ◌≤◌, drop}
use Rattle.lines.specs.Inner.{number_of}
use Rattle.lines.proofs.ReadLaws.{read_on}
use Rattle.lines.proofs.number.Given as goal

abbrev pub invariant-loop-b : goal.invariant-loop-b
invariant-loop-b l = (l.value ≤ 4294967295) × (read_on l.value (drop l.b-index l.word) ≡ number_of l.word)
