-- What one call of the feed gives, in the words of the bytes that it is given.
use Prim.Native.Nat.{ℕ, ◌+◌, ◌<◌, ◌≤◌}
use native.Mathlib.Omega.{arith}
use native.Mathlib.Nat.{add-zero}
use mathlib.Core.Bool.{Bool, true, false, cond}
use mathlib.Core.Path.{◌≡◌, refl, sym}
use mathlib.Core.List.{List, [], ◌∷◌, ◌++◌, append_assoc, append-nil}
use lib.Dec.{eqb}
use lib.ListN.{length, drop, length-drop}
use borrow.Author.Tests.{ne_eqb, lt-leb, le-ltb}
use Rattle.std.proofs.Common.{Some, None}
use Rattle.lines.specs.declared.LineSoFar.{LineSoFar}
use Rattle.lines.specs.declared.Fed.{Fed}
use Rattle.lines.specs.Forms.{Said, no_form, parse_of}
use Rattle.lines.specs.Feeds.{blank_line, pushed, said_of, feed_of}
use Rattle.lines.proofs.CutLaws.{NoMark}
use Rattle.lines.proofs.HeldLaws.{Held, held_push, held_said}

-- Up to a newline: the whole line, of which ds came in earlier chunks, and the place behind the newline.
pub feed_finds : (ds p rest : List ℕ) (i : ℕ) (t : LineSoFar) → NoMark 10 p → Held ds t
    → feed_of i t (p ++ (10 ∷ rest)) ≡ record {
      found = Some (parse_of (ds ++ p));
      next = i + length p + 1;
      line =
          blank_line;
    }
unfolding feed_of NoMark
feed_finds ds [] rest i t m h = rw (held_said ds t h, append-nil, add-zero)
feed_finds ds (b ∷ p) rest i t m h =
    let e : i + length (b ∷ p) + 1 ≡ i + 1 + length p + 1 = omega arith in
    rw (ne_eqb b 10 m.0, e) (rw append_assoc
    at (feed_finds (ds ++ (b ∷ [])) p rest (i + 1) (pushed t b) m.1 (held_push ds t b h)))

-- With no newline: nothing yet, and the line so far holds what came.
pub record Spent (ds p : List ℕ) (i : ℕ) (x : Fed) : Type 0 where
  pub found : x.found ≡ None
  pub next : x.next ≡ i + length p
  pub held : Held (ds ++ p) x.line

pub feed_spends : (ds p : List ℕ) (i : ℕ) (t : LineSoFar) → NoMark 10 p → Held ds t → Spent ds p i (feed_of i t p)
unfolding feed_of NoMark
feed_spends ds [] i t m h = record { found = refl; next = sym (add-zero i); held = rw append-nil h }
feed_spends ds (b ∷ p) i t m h =
    let s = feed_spends (ds ++ (b ∷ [])) p (i + 1) (pushed t b) m.1 (held_push ds t b h) in
    rw (ne_eqb b 10 m.0) (record {
      found = s.found;
      next = omega (arith, s.next);
      held = rw append_assoc
          at s.held;
    })

-- A call that finds a line goes on in the chunk, which bounds how often it can be called there.
moves : (bs : List ℕ) (i : ℕ) (t : LineSoFar) {p : Said} → (feed_of i t bs).found ≡ Some p → (i < (feed_of i t bs).next)
    × ((feed_of i t bs).next ≤ i + length bs)
unfolding feed_of
moves [] i t f = let z : ◌≡◌ {A = ℕ} 0 1 = cc in absurd (omega arith)
moves (b ∷ bs) i t {p} f = go (λ g. moves bs (i + 1) (pushed t b) g) (eqb b 10) f
  where
    step : Bool → Fed
    step q = cond q (record { found = Some (said_of t); next = i + 1; line = blank_line })
        (feed_of (i + 1) (pushed t b) bs)

    go : ((feed_of (i + 1) (pushed t b) bs).found ≡ Some p → (i + 1 < (feed_of (i + 1) (pushed t b) bs).next)
        × ((feed_of (i + 1) (pushed t b) bs).next ≤ i + 1 + length bs))
        → (q : Bool) → (step q).found ≡ Some p → (i < (step q).next) × ((step q).next ≤ i + length (b ∷ bs))
    go ih true g = (omega arith, omega arith)
    go ih false g = (omega (arith, (ih g).0), omega (arith, (ih g).1))

pub feed_moves : (c : List ℕ) (at : ℕ) (t : LineSoFar) {p : Said} → (feed_of at t (drop at c)).found ≡ Some p
    → (at < (feed_of at t (drop at c)).next) × ((feed_of at t (drop at c)).next ≤ length c)
feed_moves c at t f =
    let m = moves (drop at c) at t f in
    (m.0, omega (arith, m.0, m.1, length-drop at c))

-- A length above 60 is too long, and stays so.
pub over_said : (t : LineSoFar) → 60 < t.len → said_of t ≡ no_form
unfolding said_of
over_said t h = rw (lt-leb _ _ h)

pub over_stays : (t : LineSoFar) (b : ℕ) → 60 < t.len → 60 < (pushed t b).len
unfolding pushed
over_stays t b h = rw (le-ltb t.len 60 (omega arith)) (omega arith)
