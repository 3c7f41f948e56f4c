-- The places of a pool by number, as a decoded entry names them: the middle places from 0 on, the leaf places from 8
-- on.
use Rattle.std.specs.Prelude.{ℕ, zero, suc, ◌+◌, ◌*◌, ◌-◌, cond, ltb}
use Rattle.table.specs.declared.Shape.{Shape}
use Rattle.table.specs.Shape.{max_middles, max_leaves, first_middle, first_leaf}

-- There are so many numbers.
abbrev pub max_places : ℕ
max_places = max_middles + max_leaves

-- The height of the tables that place `n` is for.
abbrev pub place_height : ℕ → ℕ
place_height n = cond (ltb n max_middles) 1 0

-- The number of the first place for tables of a height.
abbrev pub first_number : ℕ → ℕ
first_number zero = max_middles
first_number (suc h) = 0

-- The pool word where place `n` begins.
abbrev pub place_word : Shape → ℕ → ℕ
place_word s n = cond (ltb n max_middles) (first_middle s + 1024 * n)
    (first_leaf s + 64 * (n - max_middles))
