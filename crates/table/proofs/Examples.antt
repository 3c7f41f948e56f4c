-- How far a right reaches, computed for entries of each height.
use Prim.Native.Nat.{ℕ}
use mathlib.Core.Path.{◌≡◌, refl}
use Rattle.words.specs.Stretches.{first_like, last_like}
use Rattle.table.specs.Map.{entry_rights}
use Rattle.table.specs.Stretches.{first_byte, last_byte}

-- The leaf entry 0xA gives its first two words right 2 and the others none. Each byte of a stretch has the same one.
from_two : first_byte (entry_rights 0 0xA) 0 0x1007 ≡ 0x1000
unfolding first_like
from_two = refl

upto_two : last_byte (entry_rights 0 0xA) 0 0x1000 ≡ 0x1007
unfolding last_like
upto_two = refl

from_none : first_byte (entry_rights 0 0xA) 0 0x103F ≡ 0x1008
unfolding first_like
from_none = refl

-- Three sub-blocks of 512 bytes with right 1, then one with 2, then 1 again: the stretch goes over sub-blocks, ends
-- where the right turns, and does not begin again behind it.
abbrev turning : ℕ
turning = 0x80005595

upto_turn : last_byte (entry_rights 1 turning) 1 0x7200 ≡ 0x75FF
unfolding last_like
upto_turn = refl

one_part : (first_byte (entry_rights 1 turning) 1 0x7600 ≡ 0x7600) × (last_byte (entry_rights 1 turning) 1 0x77FF ≡ 0x77FF)
unfolding first_like last_like
one_part = (refl, refl)

from_turn : first_byte (entry_rights 1 turning) 1 0x7FFF ≡ 0x7800
unfolding first_like
from_turn = refl

-- One right for the last 4 MB of memory: the last byte fits into 32 bits.
last_block : (first_byte (entry_rights 2 0x80005555) 2 0xFFFFFFFF ≡ 0xFFC00000)
    × (last_byte (entry_rights 2 0x80005555) 2 0xFFC00000 ≡ 0xFFFFFFFF)
unfolding first_like last_like
last_block = (refl, refl)
