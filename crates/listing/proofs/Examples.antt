-- The paper's listing: the runs that its three changes leave, over the first 1,050 words of the memory, past which
-- all is none.
use Prim.Native.Nat.{ℕ}
use mathlib.Core.Path.{◌≡◌, refl}
use mathlib.Core.Bool.{cond, ◌&&◌}
use mathlib.Core.List.{[], ◌∷◌}
use lib.Dec.{eqb, leb, ltb}
use Rattle.listing.specs.Runs.{flat, shown}
use Rattle.listing.specs.Scan.{ended, next, scan, runs_of, listing_of}

-- `S 1 4096 64 2`, `S 1 4104 4 1` and `S 2 4104 4 2`, as rights of memory words.
changed : ℕ → ℕ → ℕ
changed d w =
    cond (eqb d 1) (cond (eqb w 1026) 1 (cond (leb 1024 w && ltb w 1040) 2 0))
    (cond (eqb d 2 && eqb w 1026) 2 0)

paper_listing : flat (listing_of 4 1050 changed)
    ≡ 1 ∷ 4096 ∷ 4103 ∷ 2
    ∷ 1 ∷ 4104 ∷ 4107 ∷ 1
    ∷ 1 ∷ 4108 ∷ 4159 ∷ 2
    ∷ 2 ∷ 4104 ∷ 4107 ∷ 2 ∷ []
unfolding changed flat listing_of runs_of scan next ended
paper_listing = refl

-- From run number 1 on, into ten words: two runs fit, and the two words past them stay.
paper_part : shown 1 (listing_of 4 1050 changed) (90 ∷ 91 ∷ 92 ∷ 93 ∷ 94 ∷ 95 ∷ 96 ∷ 97 ∷ 98 ∷ 99 ∷ [])
    ≡ 1 ∷ 4104 ∷ 4107 ∷ 1 ∷ 1 ∷ 4108 ∷ 4159 ∷ 2 ∷ 98 ∷ 99 ∷ []
unfolding changed flat listing_of runs_of scan next ended
paper_part = refl

-- A run up to the last word of the memory ends at its last byte.
last_byte : flat (record { domain = 3; first = 0; past = 1073741824; right = 1 } ∷ []) ≡ 3 ∷ 0 ∷ 4294967295 ∷ 1 ∷ []
unfolding flat
last_byte = refl
