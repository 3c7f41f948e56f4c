-- Runs written one by one, each at its place, are the runs from `from` on, as many as fit, before what was there.
use Prim.Native.Nat.{ℕ, suc, ◌+◌, ◌*◌, ◌-◌, ◌/◌, ◌<◌, ◌≤◌}
use native.Mathlib.Omega.{arith}
use native.Mathlib.Nat.{add-zero, zero-add, sub-zero}
use mathlib.Core.Path.{◌≡◌, refl, sym, ◌∙◌}
use mathlib.Core.Logic.{⊎_elim}
use mathlib.Core.List.{List, [], ◌∷◌, ◌++◌, append_assoc, append-nil}
use lib.ListN.{length, take, drop, length-append, take-append-drop, length-drop}
use lib.Seq.{sets-eq, take-nil, drop-nil, take_at, drop_at, drop-drop, length-take-le}
use borrow.Author.Tests.{lt-ltb, le-ltb}
use Rattle.listing.specs.declared.Run.{Run}
use Rattle.listing.specs.Runs.{four_of, flat, shown}
use Rattle.listing.specs.Sheets.{put_run, written}
use Rattle.listing.proofs.RunLaws.{lt_or_ge}

-- One run.

put_early : (from n : ℕ) (r : Run) (l : List ℕ) → n < from → put_run from n r l ≡ l
unfolding put_run
put_early from n r l h = simp (lt-ltb _ _ h)

put_late : (from k : ℕ) (r : Run) (l : List ℕ) → length l / 4 ≤ k → put_run from (from + k) r l ≡ l
unfolding put_run
put_late from k r l h =
    let e : from + k - from ≡ k = omega arith in
    let g : from ≤ from + k = omega arith in
    simp (le-ltb _ _ g, e, le-ltb _ _ h)

put_in : (from k : ℕ) (r : Run) (l : List ℕ) → k < length l / 4 → put_run from (from + k) r l
    ≡ take (4 * k) l ++ four_of r ++ drop (4 * k + 4) l
unfolding put_run
put_in from k r l h =
    let e : from + k - from ≡ k = omega arith in
    let g : from ≤ from + k = omega arith in
    let room : 4 * k + 4 ≤ length l = omega arith in
    simp (le-ltb _ _ g, e, lt-ltb _ _ h) (sets-eq (four_of r) l (4 * k) room)

-- Many runs: none before `from`, none past the room.

none_late : (from k : ℕ) (rs : List Run) (l : List ℕ) → length l / 4 ≤ k → written from (from + k) rs l ≡ l
unfolding written
none_late from k [] l h = refl
none_late from k (r ∷ rs) l h =
    let e : from + k + 1 ≡ from + (k + 1) = omega arith in
    rw (put_late from k r l h, e) (none_late from (k + 1) rs l (omega arith))

none_early : (from n : ℕ) (rs : List Run) (l : List ℕ) → n ≤ from → written from n rs l
    ≡ written from from (drop (from - n) rs) l
unfolding written
none_early from n [] l h = rw (drop-nil (from - n))
none_early from n (r ∷ rs) l h =
    ⊎_elim
    (λ (k : n < from).
    let e : from - n ≡ suc (from - (n + 1)) = omega arith in
    rw (put_early from n r l k, e) (none_early from (n + 1) rs l (omega arith)))
    (λ (k : from ≤ n).
    let e : from - n ≡ 0 = omega arith in
    let g : n ≡ from = omega arith in
    rw (e, g))
    (lt_or_ge n from)

-- A list of `n` words, and then the words of another past them.
module _ (p l : List ℕ) (n : ℕ) (e : length p ≡ n) where
  front : take n (p ++ drop n l) ≡ p
  front = take_at p (drop n l) n e

  back : (x : ℕ) → drop (n + x) (p ++ drop n l) ≡ drop (n + x) l
  back x = rw (← drop-drop x n (p ++ drop n l), ← drop-drop x n l, drop_at p (drop n l) n e)

  long : length (p ++ drop n l) ≡ n + length (drop n l)
  long = length-append p (drop n l) ∙ rw e

join : (a : List ℕ) (r : Run) (t l : List ℕ) (k : ℕ) → length (a ++ four_of r) ≡ 4 * k + 4
    → take (4 * (k + 1)) (a ++ four_of r ++ drop (4 * k + 4) l) ++ t ++ drop (4 * (k + 1) + length t)
    (a ++ four_of r ++ drop (4 * k + 4) l)
    ≡ a ++ (four_of r ++ t) ++ drop (4 * k + length (four_of r ++ t)) l
join a r t l k e =
    let four : 4 * (k + 1) ≡ 4 * k + 4 = omega arith in
    let num : 4 * k + length (four_of r ++ t) ≡ 4 * k + 4 + length t = simp length-append (omega arith) in
    rw (
      four,
      front (a ++ four_of r) l (4 * k + 4) e,
      back (a ++ four_of r) l (4 * k + 4) e (length t),
      num,
      append_assoc a (four_of r) t,
    )

some_in : (from m k : ℕ) (rs : List Run) (l : List ℕ) → length l / 4 ≡ m → k ≤ m
    → written from (from + k) rs l ≡ take (4 * k) l ++ flat (take (m - k) rs) ++ drop
    (4 * k + length (flat (take (m - k) rs))) l
unfolding written flat
some_in from m k [] l e h = rw (take-nil (m - k)) (simp (append-nil, add-zero) (sym (take-append-drop (4 * k) l)))
some_in from m k (r ∷ rs) l e h =
    ⊎_elim
    (λ (q : k < m).
    let j : k < length l / 4 = omega arith in
    let t = flat (take (m - (k + 1)) rs) in
    let more : m - k ≡ suc (m - (k + 1)) = omega arith in
    let one : from + k + 1 ≡ from + (k + 1) = omega arith in
    let p = take (4 * k) l ++ four_of r in
    let len : length p ≡ 4 * k + 4 = length-append (take (4 * k) l) (four_of r)
    ∙ rw (length-take-le (4 * k) l (omega arith)) in
    let size : length (p ++ drop (4 * k + 4) l) ≡ length l = long p l (4 * k + 4) len
    ∙ rw (length-drop) (omega arith) in
    let next = some_in from m (k + 1) rs (p ++ drop (4 * k + 4) l) (rw size e) (omega arith) in
    rw (put_in from k r l j, one, more) (next ∙ join (take (4 * k) l) r t l k len))
    (λ (q : m ≤ k).
    let g : m - k ≡ 0 = omega arith in
    let one : from + k + 1 ≡ from + (k + 1) = omega arith in
    rw (put_late from k r l (omega arith), g, one, none_late from (k + 1) rs l (omega arith))
    (simp (append-nil, add-zero) (sym (take-append-drop (4 * k) l))))
    (lt_or_ge k m)

pub written_shown : (from : ℕ) (rs : List Run) (l : List ℕ) → written from 0 rs l ≡ shown from rs l
written_shown from rs l =
    let a = simp sub-zero at (none_early from 0 rs l (omega arith)) in
    let b = simp (add-zero, zero-add, sub-zero)
    at (some_in from (length l / 4) 0 (drop from rs) l refl (omega arith)) in
    a ∙ b
