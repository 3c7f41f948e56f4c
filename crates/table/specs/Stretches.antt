-- How far a right goes inside the block of an entry, in bytes. That it goes no further is proved (proofs/StretchLaws).
use Rattle.std.specs.Prelude.{ℕ, ◌+◌, ◌-◌}
use Rattle.words.specs.Stretches.{first_like, last_like}
use Rattle.table.specs.Map.{part, parts, part_at, part_of}

-- The right of each sub-block of the block of height `h` around `a`: that of its first byte.
abbrev pub part_rights : (ℕ → ℕ) → ℕ → ℕ → ℕ → ℕ
part_rights R h a i = R (part_at h a i)

-- The first byte of the first sub-block from which on all have the right of the address.
abbrev pub first_byte : (ℕ → ℕ) → ℕ → ℕ → ℕ
first_byte R h a = part_at h a (first_like (part_rights R h a) (part_of h a))

-- The last byte of the last sub-block up to which all have it.
abbrev pub last_byte : (ℕ → ℕ) → ℕ → ℕ → ℕ
last_byte R h a = part_at h a (last_like (part_rights R h a) (part_of h a) (parts h - 1 - part_of h a)) + (part h - 1)
