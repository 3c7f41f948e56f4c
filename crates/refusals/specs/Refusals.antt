-- The numbers of refusals: the paper's from 1 to 18, ours for callers and their regions, and 101 for lent words of the
-- wrong length.
use Rattle.std.specs.Prelude.{ℕ}
use Rattle.refusals.specs.declared.Refusal.{Refusal}
use Rattle.refusals.specs.declared.Refusal.TheVariants.{NoShape, NoDomain, NoRight, EmptyRegion, PastTheEnd, NotSound, NotSettled}
use Rattle.refusals.specs.declared.Refusal.TheVariants.{NoRoom, NoAccess, NotAligned, GateNotAligned, GatesFull, NoGate}
use Rattle.refusals.specs.declared.Refusal.TheVariants.{GateToItself, StackFull, StackEmpty, OtherReturn, BadState, NotAllowed}
use Rattle.refusals.specs.declared.Refusal.TheVariants.{RegionsFull, WrongLength}

-- What a user of the library is told of a refusal.
abbrev pub number : Refusal → ℕ
number NoShape = 1
number NoDomain = 2
number NoRight = 3
number EmptyRegion = 4
number PastTheEnd = 5
number NotSound = 6
number NotSettled = 7
number NoRoom = 8
number NoAccess = 9
number NotAligned = 10
number GateNotAligned = 11
number GatesFull = 12
number NoGate = 13
number GateToItself = 14
number StackFull = 15
number StackEmpty = 16
number OtherReturn = 17
number BadState = 18
number NotAllowed = 19
number RegionsFull = 20
number WrongLength = 101
