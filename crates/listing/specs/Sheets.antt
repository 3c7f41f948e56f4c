-- The listing while it is made: an open run, and the words lent for the runs.
use Rattle.std.specs.Prelude.{ℕ, zero, suc, ◌+◌, ◌*◌, ◌-◌, ◌/◌, ◌<◌, ◌≤◌, ◌≢◌, cond, List, [], ◌∷◌, ltb, eqb, length}
use Rattle.std.proofs.lemmas.List.Edits.{sets}
use Rattle.listing.specs.declared.Run.{Run}
use Rattle.listing.specs.declared.Open.{Open}
use Rattle.listing.specs.Runs.{memory_words, four_of}

-- Run number `n` at its place in the lent words `l`, where it has one.
unfoldable pub put_run : ℕ → ℕ → Run → List ℕ → List ℕ
put_run from n r l = cond (ltb n from) l (cond (ltb (n - from) (length l / 4)) (sets l (4 * (n - from)) (four_of r)) l)

-- Runs number `n`, `n + 1` and so on, each at its place.
unfoldable pub written : ℕ → ℕ → List Run → List ℕ → List ℕ
written from n [] l = l
written from n (r ∷ rs) l = written from (n + 1) rs (put_run from n r l)

-- The open run, and the lent words.
pub record Sheet : Type 0 where
  pub run : Open
  pub out : List ℕ

-- An open run and the lent words.
abbrev pub sheet : Open → List ℕ → Sheet
sheet o l = record { run = o; out = l }

-- The open run with another count.
abbrev pub counted : Open → ℕ → Open
counted o n = record { domain = o.domain; right = o.right; first = o.first; count = n; from = o.from }

-- The open run, if it ends before word `at`.
abbrev pub run_to : ℕ → Open → Run
run_to at o = record { domain = o.domain; first = o.first; past = at; right = o.right }

-- The open run ends before word `at`; a run of none is no run.
unfoldable pub closed : ℕ → Sheet → Sheet
closed at s =
    cond (eqb s.run.right 0) s
    (sheet (counted s.run (s.run.count + 1)) (put_run s.run.from s.run.count (run_to at s.run) s.out))

-- A run of the right `q` opens at word `at`.
abbrev pub opened : ℕ → ℕ → Sheet → Sheet
opened q at s =
    sheet (record { domain = s.run.domain; right = q; first = at; count = s.run.count; from = s.run.from })
    s.out

-- At word `at` the right turns to `q`.
abbrev pub turned : ℕ → ℕ → Sheet → Sheet
turned q at s = opened q at (closed at s)

-- From word `at` on the right is `q`.
unfoldable pub feed : ℕ → ℕ → Sheet → Sheet
feed q at s = cond (eqb q s.run.right) s (turned q at s)

-- The `n` words from word `a` on have the rights that `f` gives them.
unfoldable pub fed : ℕ → (ℕ → ℕ) → ℕ → Sheet → Sheet
fed zero f a s = s
fed (suc n) f a s = feed (f (a + n)) (a + n) (fed n f a s)

-- The numbers of an open run when the words before `a` were seen.
pub record OpenAt (o : Open) (a : ℕ) : Type 0 where
  pub domain : o.domain < 4
  pub some : o.right ≢ 0 → o.first < a
  pub few : o.count ≤ (memory_words + 1) * o.domain + a

-- A domain begins, after `n` runs of others.
abbrev pub opening : ℕ → ℕ → ℕ → Open
opening d n from = record { domain = d; right = 0; first = 0; count = n; from = from }

-- How many runs are closed, and the lent words.
pub record Count : Type 0 where
  pub count : ℕ
  pub out : List ℕ

-- What counts when nothing is open.
abbrev pub count_of : Sheet → Count
count_of s = record { count = s.run.count; out = s.out }
