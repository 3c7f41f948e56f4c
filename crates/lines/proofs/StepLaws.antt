-- A chunk taken byte by byte.
use Prim.Native.Nat.{ℕ, ◌+◌, ◌<◌, ◌≤◌}
use native.Mathlib.Numerals.{add-one}
use mathlib.Core.Path.{◌≡◌}
use mathlib.Core.List.{List}
use lib.ListN.{length, drop, get_or, set, drop_of_length-le}
use lib.Seq.{drop-cons}
use borrow.Author.Tests.{lt-ltb, le-ltb, eq-eqb, ne_eqb}
use Rattle.std.proofs.Common.{Some, None}
use Rattle.lines.specs.declared.LineSoFar.{LineSoFar}
use Rattle.lines.specs.declared.Fed.{Fed}
use Rattle.lines.specs.Forms.{Said}
use Rattle.lines.specs.Feeds.{blank_line, pushed, said_of, feed_of}

module _ (chunk : List ℕ) (t : LineSoFar) (i : ℕ) where
  pub feed_end : length chunk ≤ i → feed_of i t (drop i chunk) ≡ record { found = None; next = i; line = t }
  unfolding feed_of
  feed_end h = rw (drop_of_length-le chunk h)

  module _ (h : i < length chunk) where
    pub feed_newline : get_or chunk i 0 ≡ 10 → {p : Said} {u : LineSoFar} → p ≡ said_of t → u ≡ blank_line
        → ◌≡◌ {A = Fed} (record { found = Some p; next = i + 1; line = u }) (feed_of i t (drop i chunk))
    unfolding feed_of
    feed_newline e f g = rw (drop-cons chunk i 0 h, eq-eqb _ _ e, f, g)

    module _ (n : get_or chunk i 0 ≡ 10 → ⊥) where
      pub feed_room : t.len < 60
          → feed_of i t (drop i chunk) ≡ feed_of (i + 1)
          (record { bytes = set t.bytes t.len (get_or chunk i 0); len = t.len + 1 }) (drop (i + 1) chunk)
      unfolding feed_of pushed
      feed_room k = rw (drop-cons chunk i 0 h, ne_eqb _ _ n, lt-ltb _ _ k, add-one i)

      pub feed_full : 60 ≤ t.len → feed_of i t (drop i chunk) ≡ feed_of (i + 1) (record { bytes = t.bytes; len = 61 })
          (drop (i + 1) chunk)
      unfolding feed_of pushed
      feed_full k = rw (drop-cons chunk i 0 h, ne_eqb _ _ n, le-ltb _ _ k, add-one i)

-- What the feed goes by.
pub ruleset feeding = (feed_end, feed_newline, feed_room, feed_full)
