-- The lines of an input, each with its newline put back, are the input; and no line holds a newline.
use Prim.Native.Nat.{ℕ}
use mathlib.Core.Bool.{Bool, true, false, cond}
use mathlib.Core.Path.{◌≡◌, refl}
use mathlib.Core.List.{List, [], ◌∷◌, ◌++◌}
use lib.Dec.{eqb}
use borrow.Author.Tests.{eqb-true, eqb-false}
use Rattle.lines.specs.Cuts.{onto, cut_at, lines_of}
use Rattle.lines.proofs.CutLaws.{NoMark}

-- Lines with a newline behind each.
unfoldable pub written : List (List ℕ) → List ℕ
written [] = []
written (l ∷ ls) = l ++ (10 ∷ written ls)

-- An input with a newline at its end, put there where it lacks one.
unfoldable pub closed : List ℕ → List ℕ
closed [] = []
closed (b ∷ []) = cond (eqb b 10) (b ∷ []) (b ∷ 10 ∷ [])
closed (b ∷ c ∷ bs) = b ∷ closed (c ∷ bs)

-- Where a byte is left there is a line.
lines_some : (b : ℕ) (bs : List ℕ) → (l : List ℕ) × (ls : List (List ℕ)) × (lines_of (b ∷ bs) ≡ l ∷ ls)
unfolding cut_at onto
lines_some b bs = go (eqb b 10) (lines_of bs)
  where
    go : (t : Bool) (ps : List (List ℕ)) → (l : List ℕ) × (ls : List (List ℕ)) × (cond t ([] ∷ ps) (onto b ps) ≡ l ∷ ls)
    go true ps = ([], ps, refl)
    go false [] = (b ∷ [], [], refl)
    go false (p ∷ ps) = (b ∷ p, ps, refl)

pub lines_written : (input : List ℕ) → written (lines_of input) ≡ closed input
unfolding cut_at onto written closed
lines_written [] = refl
lines_written (b ∷ []) = go (eqb b 10) refl
  where
    go : (t : Bool) → eqb b 10 ≡ t → written (cond t ([] ∷ []) ((b ∷ []) ∷ [])) ≡ cond t (b ∷ []) (b ∷ 10 ∷ [])
    go true e = rw (eqb-true b 10 e)
    go false e = refl
lines_written (b ∷ c ∷ bs) = go (lines_written (c ∷ bs)) (eqb b 10) refl
  where
    go : written (lines_of (c ∷ bs)) ≡ closed (c ∷ bs) → (t : Bool) → eqb b 10 ≡ t
        → written (cond t ([] ∷ lines_of (c ∷ bs)) (onto b (lines_of (c ∷ bs)))) ≡ b ∷ closed (c ∷ bs)
    go ih true e = rw (ih, eqb-true b 10 e)
    go ih false e =
        let some = lines_some c bs in
        rw some.2 (rw (← ih, some.2))

-- No line holds a newline.
unfoldable pub NoNewlines : List (List ℕ) → Type 0
NoNewlines [] = Unit {0}
NoNewlines (l ∷ ls) = NoMark 10 l × NoNewlines ls

pub lines_no_newline : (input : List ℕ) → NoNewlines (lines_of input)
unfolding cut_at onto NoMark NoNewlines
lines_no_newline [] = tt
lines_no_newline (b ∷ bs) = go (eqb b 10) refl (lines_of bs) (lines_no_newline bs)
  where
    go : (t : Bool) → eqb b 10 ≡ t → (ls : List (List ℕ)) → NoNewlines ls → NoNewlines (cond t ([] ∷ ls) (onto b ls))
    go true e ls h = (tt, h)
    go false e [] h = ((eqb-false b 10 e, tt), h)
    go false e (l ∷ ls) h = ((eqb-false b 10 e, h.0), h.1)
