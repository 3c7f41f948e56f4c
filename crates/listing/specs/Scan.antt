-- The runs, found by a fold over memory words.
use Rattle.std.specs.Prelude.{ℕ, zero, suc, cond, List, [], ◌∷◌, ◌++◌, eqb}
use Rattle.listing.specs.declared.Run.{Run}

-- The right and the first word of the open run, and the runs closed before it.
pub record Scan : Type 0 where
  pub right : ℕ
  pub first : ℕ
  pub done : List Run

-- The open run of domain `d`, if it ends before word `at`.
abbrev pub open_run : ℕ → ℕ → Scan → Run
open_run d at s = record { domain = d; first = s.first; past = at; right = s.right }

-- The open run ends before word `at`; a run of none is no run.
unfoldable pub ended : ℕ → ℕ → Scan → List Run
ended d at s = cond (eqb s.right 0) s.done (s.done ++ open_run d at s ∷ [])

-- Word `at` has the right `q`.
unfoldable pub next : ℕ → ℕ → ℕ → Scan → Scan
next d q at s = cond (eqb q s.right) s (record { right = q; first = at; done = ended d at s })

-- The first `n` words of domain `d`, with the rights `f`.
unfoldable pub scan : ℕ → ℕ → (ℕ → ℕ) → Scan
scan d zero f = record { right = 0; first = 0; done = [] }
scan d (suc n) f = next d (f n) n (scan d n f)

-- The runs of domain `d`, of `n` words with the rights `f`.
unfoldable pub runs_of : ℕ → ℕ → (ℕ → ℕ) → List Run
runs_of d n f = ended d n (scan d n f)

-- The runs of the first `D` domains, in order of domain.
unfoldable pub listing_of : ℕ → ℕ → (ℕ → ℕ → ℕ) → List Run
listing_of zero n R = []
listing_of (suc D) n R = listing_of D n R ++ runs_of D n (R D)
