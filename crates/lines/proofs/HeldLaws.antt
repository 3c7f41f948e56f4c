-- What has come of a line byte by byte is read as the whole line is.
use Prim.Native.Nat.{ℕ, ◌+◌, ◌<◌, ◌≤◌}
use native.Mathlib.Omega.{arith}
use native.Mathlib.Numerals.{add-one}
use mathlib.Core.Bool.{Bool, true, false, cond}
use mathlib.Core.Logic.{◌⊎◌, inl, inr, ⊎_elim}
use mathlib.Core.Path.{◌≡◌, refl, sym, ◌∙◌}
use mathlib.Core.List.{List, [], ◌∷◌, ◌++◌}
use lib.Dec.{ltb}
use lib.ListN.{length, take, set, length-append, length-set}
use lib.Seq.{take-suc-set}
use borrow.Author.Tests.{ltb-true, ltb-false, le-leb, lt-leb, ne_eqb}
use Rattle.std.proofs.Common.{Some, None}
use Rattle.lines.specs.declared.LineSoFar.{LineSoFar}
use Rattle.lines.specs.Forms.{no_form, parse_of}
use Rattle.lines.specs.Feeds.{blank_line, pushed, said_of, last_of}

-- A line over 60 bytes long is not of the form.
parse_long : (s : List ℕ) → 60 < length s → parse_of s ≡ no_form
unfolding parse_of
parse_long s h = rw (lt-leb _ _ h)

pub record Short (ds : List ℕ) (t : LineSoFar) : Type 0 where
  pub fits : length ds ≤ 60
  pub len : t.len ≡ length ds
  pub kept : take (length ds) t.bytes ≡ ds

pub record Long (ds : List ℕ) (t : LineSoFar) : Type 0 where
  pub over : 60 < length ds
  pub len : t.len ≡ 61

-- The line t holds the bytes ds, or knows that they are too many.
pub record Held (ds : List ℕ) (t : LineSoFar) : Type 0 where
  pub room : length t.bytes ≡ 60
  pub what : Short ds t ⊎ Long ds t

snoc_length : (ds : List ℕ) (b : ℕ) → length (ds ++ (b ∷ [])) ≡ length ds + 1
snoc_length ds b = length-append ds (b ∷ [])

pub held_blank : Held [] blank_line
held_blank = record { room = refl; what = inl (record { fits = omega arith; len = refl; kept = refl }) }

pub held_push : (ds : List ℕ) (t : LineSoFar) (b : ℕ) → Held ds t → Held (ds ++ (b ∷ [])) (pushed t b)
unfolding pushed
held_push ds t b h = go (ltb t.len 60) refl
  where
    n : length (ds ++ (b ∷ [])) ≡ length ds + 1
    n = snoc_length ds b

    go : (q : Bool) → ltb t.len 60 ≡ q
        → Held (ds ++ (b ∷ [])) (cond q (record { bytes = set t.bytes t.len b; len = t.len + 1 })
        (record { bytes = t.bytes; len = 61 }))
    go true e =
        record {
          room = length-set t.bytes t.len b ∙ h.room;
          what = ⊎_elim
              (λ (s : Short ds t). inl (record {
                fits = omega (arith, n, s.len, ltb-true t.len 60 e);
                len = omega (arith, n, s.len);
                kept = rw (n, add-one, s.len) (take-suc-set t.bytes (length ds) b
                    (omega (arith, h.room, s.len, ltb-true t.len 60 e)) ∙ rw s.kept);
              }))
              (λ (l : Long ds t). absurd (omega (arith, l.len, ltb-true t.len 60 e)))
              h.what;
        }
    go false e =
        record {
          room = h.room;
          what = ⊎_elim
              (λ (s : Short ds t). inr (record {
                over = omega (arith, n, s.len, ltb-false t.len 60 e);
                len =
                    refl;
              }))
              (λ (l : Long ds t). inr (record { over = omega (arith, n, l.over); len = refl }))
              h.what;
        }

pub held_said : (ds : List ℕ) (t : LineSoFar) → Held ds t → said_of t ≡ parse_of ds
unfolding said_of
held_said ds t h =
    ⊎_elim
    (λ (s : Short ds t). rw (s.len, le-leb _ _ s.fits, s.kept))
    (λ (l : Long ds t). rw l.len (sym (parse_long ds l.over)))
    h.what

pub held_none : (t : LineSoFar) → Held [] t → last_of t ≡ None
unfolding last_of
held_none t h =
    ⊎_elim
    (λ (s : Short [] t). rw s.len)
    (λ (l : Long [] t). absurd (omega (arith, l.over)))
    h.what

pub held_last : (b : ℕ) (ds : List ℕ) (t : LineSoFar) → Held (b ∷ ds) t → last_of t ≡ Some (parse_of (b ∷ ds))
unfolding last_of
held_last b ds t h = rw (ne_eqb _ _ begun, held_said (b ∷ ds) t h)
  where
    begun : t.len ≡ 0 → ⊥
    begun e =
        ⊎_elim
        (λ (s : Short (b ∷ ds) t). omega (arith, s.len))
        (λ (l : Long (b ∷ ds) t). omega (arith, l.len))
        h.what
