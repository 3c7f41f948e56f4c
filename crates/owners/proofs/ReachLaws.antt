-- Laws of the reach of a verdict: what a region holds, what is left of a stretch once it is passed, and the first
-- region of every word of the stretch.
use Prim.Native.Nat.{ℕ, ◌+◌, ◌≤◌, ◌<◌, min}
use mathlib.Core.Path.{◌≡◌, sym}
use mathlib.Core.Bool.{true, false}
use mathlib.Core.List.{List}
use native.Mathlib.Omega.{arith}
use native.Mathlib.Decide.{ℕ_discrete}
use borrow.Author.Tests.{ltb-true, leb-true, lt-ltb, le-leb, lt-leb}
use Rattle.theory.proofs.Logic.{by_cases, and_both}
use Rattle.std.proofs.Common.{Some, None}
use Rattle.owners.specs.declared.Owned.{Owned}
use Rattle.owners.specs.Regions.{region_at, count_of, holds}
use Rattle.owners.specs.Reach.{found, Reaches}
use Rattle.owners.proofs.PlaceLaws.{found_is, found_not}

-- A word is held or it is not.
pub held_word : (r : Owned) (w : ℕ) → holds w r ≡ true → (r.lo ≤ w) × (w < r.hi)
held_word r w e = let p = and_both _ _ e in (leb-true r.lo w p.0, ltb-true w r.hi p.1)

pub word_held : (r : Owned) (w : ℕ) → r.lo ≤ w → w < r.hi → holds w r ≡ true
word_held r w g h = rw (le-leb r.lo w g, lt-ltb w r.hi h)

pub not_held : (r : Owned) (w : ℕ) → (holds w r ≡ true → ⊥) → holds w r ≡ false
not_held r w n = by_cases (holds w r) (λ e. absurd (n e)) (λ e. e)

-- No region below number `i` holds a word of the stretch.
abbrev pub Free : List ℕ → ℕ → ℕ → ℕ → Type 0
Free list w until i = (j v : ℕ) → j < i → w ≤ v → v < until → holds v (region_at list j) ≡ false

-- One region more: what holds of those below it, and of it by itself.
one_more : (list : List ℕ) (w until last i : ℕ) → last ≤ until
    → ((v : ℕ) → w ≤ v → v < last → holds v (region_at list i) ≡ false) → Free list w until i → Free list w last (i + 1)
one_more list w until last i below here f j v h g b = elim (ℕ_discrete j i) [
  | yes z ↦ rw z (here v g b)
  | no z ↦ f j v (omega arith) g (omega arith)
]

-- One that begins above `w` ends the stretch where it begins ..
pub free_below : (list : List ℕ) (w until i : ℕ) → Free list w until i
    → Free list w (min until (region_at list i).lo) (i + 1)
free_below list w until i =
    let r = region_at list i in
    one_more list w until (min until r.lo) i (omega arith)
    (λ v g b. rw (lt-leb r.lo v (omega arith)))

-- .. and one that ends at or below it leaves the stretch.
pub free_above : (list : List ℕ) (w until i : ℕ) → (region_at list i).hi ≤ w → Free list w until i
    → Free list w until (i + 1)
free_above list w until i h =
    let r = region_at list i in
    one_more list w until until i (omega arith)
    (λ v g b. not_held r v (λ e. let k = (held_word r v e).1 in omega arith))

-- What the reach of a verdict goes by.
pub ruleset reaching = (free_below, free_above)

-- The region that holds `w` holds the stretch up to its own end.
pub reach_hit : (list : List ℕ) (w until i : ℕ) → i < count_of list → w < until → (region_at list i).lo ≤ w
    → w < (region_at list i).hi → Free list w until i
    → Reaches list w (record { place = Some i; until = min until (region_at list i).hi })
reach_hit list w until i few h from to f =
    let r = region_at list i in
    let same : (v : ℕ) → w ≤ v → v < min until r.hi → found list (holds v) ≡ Some i = λ v g b.
    sym (found_is list (holds v) i few (λ j l. f j v l g (omega arith))
    (word_held r v (omega arith) (omega arith))) in
    record { place = sym (same w (omega arith) (omega arith)); further = omega arith; same = same }

-- Where none holds `w`, none holds the stretch.
pub reach_none : (list : List ℕ) (w until : ℕ) → w < until → Free list w until (count_of list)
    → Reaches list w (record { place = None; until = until })
reach_none list w until h f =
    let same : (v : ℕ) → w ≤ v → v < until → found list (holds v) ≡ None = λ v g b.
    sym (found_not list (holds v) (λ j l. f j v l g b)) in
    record { place = sym (same w (omega arith) h); further = h; same = same }
