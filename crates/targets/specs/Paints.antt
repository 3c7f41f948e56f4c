-- What a change paints: a right, on the memory words of a region.
use Rattle.std.specs.Prelude.{ℕ}
use Rattle.words.specs.declared.Region.{Region}
use Rattle.targets.specs.declared.Paint.{Paint}

-- The region that is painted; an empty one where `hi` is not above `lo`.
abbrev pub region : Paint → Region
region p = record { lo = p.lo; hi = p.hi }

-- What a region and a right paint, and what paints nothing.
abbrev pub paint_of : Region → ℕ → Paint
paint_of g r = record { lo = g.lo; hi = g.hi; right = r }

abbrev pub no_paint : Paint
no_paint = record { lo = 0; hi = 0; right = 0 }
