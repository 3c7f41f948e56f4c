-- Rights inside a 32-bit word.
use Rattle.std.specs.Prelude.{ℕ, zero, suc, ◌+◌, ◌*◌, ◌/◌, ◌%◌, ◌^◌, Bool, ◌&&◌, eqb}

-- The right in bits 2i+1 and 2i.
abbrev pub right_at : ℕ → ℕ → ℕ
right_at w i = w / 2 ^ (2 * i) % 4

-- Bit 31.
abbrev pub bit31 : ℕ
bit31 = 2147483648

-- An entry is eight rights: bit 31 is set, and bits 30 to 16 are zero.
abbrev pub good_rights : ℕ → Bool
good_rights w = eqb (w / bit31) 1 && eqb (w / 65536 % 32768) 0

-- The number with the rights `f 0`, `f 1`, .. `f (n - 1)` from bit 0 on, and `top` in the bits above them.
unfoldable pub pack : ℕ → ℕ → (ℕ → ℕ) → ℕ
pack top zero f = top
pack top (suc n) f = f 0 + 4 * pack top n (λ i. f (suc i))

-- The root or middle entry that says one right eight times.
abbrev pub eight_of : ℕ → ℕ
eight_of r = bit31 + 21845 * r

-- The leaf entry that says one right sixteen times.
abbrev pub sixteen_of : ℕ → ℕ
sixteen_of r = 1431655765 * r
