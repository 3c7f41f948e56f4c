-- Accesses: their kinds, and which rights they pass on.
use Rattle.std.specs.Prelude.{ℕ, Bool, false, cond, ◌&&◌, eqb, leb}

-- The kinds, as numbers from outside; any other number is no kind.
abbrev pub load : ℕ
load = 0

abbrev pub store : ℕ
store = 1

abbrev pub fetch : ℕ
fetch = 2

-- A load passes on rights 1, 2 and 3, a store on 2, a fetch on 3.
abbrev pub passes_of : ℕ → ℕ → Bool
passes_of kind right =
    cond (eqb kind load) (leb 1 right && leb right 3)
    (cond (eqb kind store) (eqb right 2) (cond (eqb kind fetch) (eqb right 3) false))
