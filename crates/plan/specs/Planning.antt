-- What a change that is planned rests on, and the blocks at the ends of its region.
use Rattle.std.specs.Prelude.{ℕ, suc, ◌*◌, ◌-◌, ◌/◌, ◌≤◌, ◌<◌, Bool, cond}
use Rattle.table.specs.Map.{block}
use Rattle.targets.specs.declared.Paint.{Paint}

-- A region that a change may have: some words, all in memory, and a right.
pub record Regular (paint : Paint) : Type 0 where
  pub some : paint.lo < paint.hi
  pub below : paint.hi ≤ 1073741824
  pub right : paint.right < 4

-- The number in its domain of the first and of the last block that the region meets, of those that may have a
-- table of height `h`.
abbrev pub first_of : ℕ → Paint → ℕ
first_of h paint = 4 * paint.lo / block (suc h)

abbrev pub last_of : ℕ → Paint → ℕ
last_of h paint = (4 * paint.hi - 1) / block (suc h)

-- One of them.
abbrev pub end_of : ℕ → Paint → Bool → ℕ
end_of h paint first = cond first (first_of h paint) (last_of h paint)
