-- However the input is cut into chunks, the feed answers its lines in order, each with what it says.
use Prim.Native.Nat.{ℕ, zero, suc, ◌+◌, ◌<◌}
use native.Mathlib.Omega.{arith}
use mathlib.Core.Bool.{Bool, true, false, cond}
use mathlib.Core.Path.{◌≡◌, refl, sym, ap, ◌∙◌, subst}
use mathlib.Core.List.{List, [], ◌∷◌, ◌++◌, map, flatten, append_assoc, append-nil}
use lib.Dec.{eqb}
use lib.ListN.{length, drop, length-drop}
use lib.Seq.{drop-drop}
use borrow.Author.Tests.{eqb-true, eqb-false}
use Rattle.std.proofs.Common.{Option, Some, None}
use Rattle.lines.specs.declared.LineSoFar.{LineSoFar}
use Rattle.lines.specs.declared.Fed.{Fed}
use Rattle.lines.specs.Cuts.{cut_at, lines_of}
use Rattle.lines.specs.Forms.{Said, parse_of}
use Rattle.lines.specs.Feeds.{blank_line, pushed, said_of, feed_of, last_of, Feeding}
use Rattle.lines.specs.Feeds.Feeding.{found, spent, last, ended}
use Rattle.lines.proofs.CutLaws.{NoMark, no_mark_append, cut_piece, cut_open}
use Rattle.lines.proofs.HeldLaws.{Held, held_blank, held_push, held_said, held_none, held_last}
use Rattle.lines.proofs.CallLaws.{feed_moves}

-- The answers at the end of an input: one or none.
unfoldable told_last : Option Said → List Said
told_last (Some p) = p ∷ []
told_last None = []

-- The answers to all that is left of an input, byte by byte.
unfoldable told : LineSoFar → List ℕ → List Said
told t [] = told_last (last_of t)
told t (b ∷ bs) = cond (eqb b 10) (said_of t ∷ told blank_line bs) (told (pushed t b) bs)

-- ---- Byte by byte, it answers the lines

told_lines : (ds bs : List ℕ) (t : LineSoFar) → NoMark 10 ds → Held ds t → told t bs ≡ map parse_of (lines_of (ds ++ bs))
unfolding told told_last cut_at NoMark
told_lines [] [] t m h = rw (held_none t h)
told_lines (d ∷ ds) [] t m h =
    rw (held_last d ds t h)
    (sym (ap (λ (bs : List ℕ). map parse_of (lines_of bs)) (append-nil (d ∷ ds)) ∙ ap (map parse_of) (cut_open 10 d ds m)))
told_lines ds (b ∷ bs) t m h = go (told_lines [] bs blank_line tt held_blank)
    (λ k. told_lines (ds ++ (b ∷ [])) bs (pushed t b) k (held_push ds t b h)) (eqb b 10) refl
  where
    go : told blank_line bs ≡ map parse_of (lines_of bs)
        → (NoMark 10 (ds ++ (b ∷ [])) → told (pushed t b) bs ≡ map parse_of (lines_of (ds ++ (b ∷ []) ++ bs)))
        → (q : Bool) → eqb b 10 ≡ q → cond q (said_of t ∷ told blank_line bs) (told (pushed t b) bs)
        ≡ map parse_of (lines_of (ds ++ (b ∷ bs)))
    go line byte true e = rw (eqb-true b 10 e, cut_piece 10 [] ds bs m, held_said ds t h, line)
    go line byte false e = rw append_assoc at (byte (no_mark_append 10 ds (b ∷ []) m (eqb-false b 10 e, tt)))

-- ---- Call by call, it answers the same

drop_tail : (i : ℕ) (c : List ℕ) {b : ℕ} {bs : List ℕ} → drop i c ≡ b ∷ bs → drop (i + 1) c ≡ bs
drop_tail i c e = sym (drop-drop 1 i c) ∙ ap (drop 1) e

-- What goes on from a line that was found, and from none.
unfoldable on_found : Option Said → List Said → List Said → List Said
on_found (Some p) more none = p ∷ more
on_found None more none = none

-- The answers from a call's own on: behind the line that it found, or behind the chunk.
unfoldable answers_from : List ℕ → List ℕ → Fed → List Said
answers_from c rest x = on_found x.found (told x.line (drop x.next c ++ rest)) (told x.line rest)

call_told : (c rest bs : List ℕ) (i : ℕ) (t : LineSoFar) → drop i c ≡ bs → told t (bs ++ rest)
    ≡ answers_from c rest (feed_of i t bs)
unfolding feed_of told answers_from on_found
call_told c rest [] i t e = refl
call_told c rest (b ∷ bs) i t e = go (call_told c rest bs (i + 1) (pushed t b) (drop_tail i c e)) (eqb b 10)
  where
    go : told (pushed t b) (bs ++ rest) ≡ answers_from c rest (feed_of (i + 1) (pushed t b) bs) → (q : Bool)
        → cond q (said_of t ∷ told blank_line (bs ++ rest)) (told (pushed t b) (bs ++ rest))
        ≡ answers_from c rest (cond q (record { found = Some (said_of t); next = i + 1; line = blank_line })
        (feed_of (i + 1) (pushed t b) bs))
    go ih true = rw (drop_tail i c e)
    go ih false = ih

-- What is left of the input.
unfoldable left_of : List (List ℕ) → ℕ → List ℕ
left_of [] at = []
left_of (c ∷ cs) at = drop at c ++ flatten cs

left_next : (cs : List (List ℕ)) → left_of cs 0 ≡ flatten cs
unfolding left_of flatten
left_next [] = refl
left_next (c ∷ cs) = refl

feeding_told : {cs : List (List ℕ)} {at : ℕ} {t : LineSoFar} {ps : List Said} → Feeding cs at t ps → ps
    ≡ told t (left_of cs at)
unfolding left_of told told_last answers_from on_found
feeding_told (found {c = c} {cs = cs} {at = at} {t = t} {p = p} f g) =
    ap (λ (x : List Said). p ∷ x) (feeding_told g)
    ∙ (sym (ap (answers_from c (flatten cs)) f) ∙ sym (call_told c (flatten cs) (drop at c) at t refl))
feeding_told (spent {c = c} {cs = cs} {at = at} {t = t} {u = u} f g) =
    (feeding_told g ∙ ap (told u) (left_next cs))
    ∙ (sym (ap (answers_from c (flatten cs)) f) ∙ sym (call_told c (flatten cs) (drop at c) at t refl))
feeding_told (last e) = rw e
feeding_told (ended e) = rw e

-- The answers that a caller gets are those of the input's lines, however it is cut into chunks.
pub feeding_lines : {chunks : List (List ℕ)} {ps : List Said} → Feeding chunks 0 blank_line ps → ps
    ≡ map parse_of (lines_of (flatten chunks))
unfolding NoMark
feeding_lines {chunks} g =
    feeding_told g ∙ (ap (told blank_line) (left_next chunks) ∙ told_lines [] (flatten chunks) blank_line tt held_blank)

-- ---- And a caller gets to the end

-- Calls on one chunk, fewer than k of them, and then on the others.
feed_chunk : (k : ℕ) (c : List ℕ) (cs : List (List ℕ)) → ((u : LineSoFar) → Feeding cs 0 u (told u (flatten cs)))
    → (at : ℕ) (t : LineSoFar) → length (drop at c) < k → Feeding (c ∷ cs) at t (told t (drop at c ++ flatten cs))
unfolding answers_from on_found
feed_chunk zero c cs others at t h = absurd (omega arith)
feed_chunk (suc k) c cs others at t h = go (λ n u g. feed_chunk k c cs others n u g) x.found refl
  where
    x : Fed
    x = feed_of at t (drop at c)

    with_found : Option Said → Fed
    with_found f = record { found = f; next = x.next; line = x.line }

    answers : {f : Option Said} → x.found ≡ f → answers_from c (flatten cs) (with_found f) ≡ told t (drop at c ++ flatten cs)
    answers e = sym (call_told c (flatten cs) (drop at c) at t refl
        ∙ ap (λ (f : Option Said). answers_from c (flatten cs) (with_found f)) e)

    nearer : (p : Said) → x.found ≡ Some p → length (drop x.next c) < k
    nearer p e = omega (
      arith,
      (feed_moves c at t e).0,
      (feed_moves c at t e).1,
      length-drop at c,
      length-drop
          x.next c,
    )

    go : ((n : ℕ) (u : LineSoFar) → length (drop n c) < k → Feeding (c ∷ cs) n u (told u (drop n c ++ flatten cs)))
        → (f : Option Said) → x.found ≡ f → Feeding (c ∷ cs) at t (told t (drop at c ++ flatten cs))
    go ih (Some p) e =
        subst (λ (ps : List Said). Feeding (c ∷ cs) at t ps) (answers e)
        (found (ap with_found e) (ih x.next x.line (nearer p e)))
    go ih None e = subst (λ (ps : List Said). Feeding (c ∷ cs) at t ps) (answers e)
        (spent (ap with_found e) (others x.line))

feed_chunks : (cs : List (List ℕ)) (t : LineSoFar) → Feeding cs 0 t (told t (flatten cs))
unfolding told told_last flatten
feed_chunks [] t = go (last_of t) refl
  where
    go : (f : Option Said) → last_of t ≡ f → Feeding [] 0 t (told_last (last_of t))
    go (Some p) e = rw e (last e)
    go None e = rw e (ended e)
feed_chunks (c ∷ cs) t = feed_chunk (suc (length c)) c cs (feed_chunks cs) 0 t (omega arith)

-- There is such a run of calls for every input and every way to cut it.
pub lines_feeding : (chunks : List (List ℕ)) → Feeding chunks 0 blank_line (map parse_of (lines_of (flatten chunks)))
unfolding NoMark
lines_feeding chunks = rw (← told_lines [] (flatten chunks) blank_line tt held_blank) (feed_chunks chunks blank_line)
