-- Lines as they come in, in chunks.
use Rattle.std.specs.Prelude.{ℕ, ◌+◌, cond, ◌≡◌, List, [], ◌∷◌, Option, Some, None, ltb, leb, eqb, take, drop, set, replicate}
use Rattle.lines.specs.declared.LineSoFar.{LineSoFar}
use Rattle.lines.specs.declared.Fed.{Fed}
use Rattle.lines.specs.Forms.{Said, no_form, parse_of}

-- A line of which nothing has come yet.
abbrev pub blank_line : LineSoFar
blank_line = record { bytes = replicate 60 0; len = 0 }

-- A byte more: kept where there is room, and else the line is too long, which a length of 61 says.
unfoldable pub pushed : LineSoFar → ℕ → LineSoFar
pushed t b =
    cond (ltb t.len 60) (record { bytes = set t.bytes t.len b; len = t.len + 1 })
    (record { bytes = t.bytes; len = 61 })

-- What the line says if it ends here; above 60 it is too long.
unfoldable pub said_of : LineSoFar → Said
said_of t = cond (leb t.len 60) (parse_of (take t.len t.bytes)) no_form

-- Bytes from place i on, up to a newline or the chunk's end.
unfoldable pub feed_of : ℕ → LineSoFar → List ℕ → Fed
feed_of i t [] = record { found = None; next = i; line = t }
feed_of i t (b ∷ bs) = cond (eqb b 10) (record { found = Some (said_of t); next = i + 1; line = blank_line })
    (feed_of (i + 1) (pushed t b) bs)

-- At the end of the input, a line that has begun counts.
unfoldable pub last_of : LineSoFar → Option Said
last_of t = cond (eqb t.len 0) None (Some (said_of t))

-- A caller hands the chunks over in order, asks on in a chunk until nothing more is found there, and at the end asks
-- for a last line; these are the answers that it gets, from place `at` of the first chunk and the line t on.
pub data Feeding : List (List ℕ) → ℕ → LineSoFar → List Said → Type 0 where
  found : {c : List ℕ} {cs : List (List ℕ)} {at n : ℕ} {t u : LineSoFar} {p : Said} {ps : List Said}
      → feed_of at t (drop at c) ≡ record { found = Some p; next = n; line = u } → Feeding (c ∷ cs) n u ps
      → Feeding (c ∷ cs) at t (p ∷ ps)
  spent : {c : List ℕ} {cs : List (List ℕ)} {at n : ℕ} {t u : LineSoFar} {ps : List Said}
      → feed_of at t (drop at c) ≡ record { found = None; next = n; line = u } → Feeding cs 0 u ps
      → Feeding (c ∷ cs) at t ps
  last : {at : ℕ} {t : LineSoFar} {p : Said} → last_of t ≡ Some p → Feeding [] at t (p ∷ [])
  ended : {at : ℕ} {t : LineSoFar} → last_of t ≡ None → Feeding [] at t []
