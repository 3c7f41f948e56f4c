-- An input in chunks is heard as its lines, whatever the chunks.
use Prim.Native.Nat.{ℕ, ◌+◌, ◌<◌}
use native.Mathlib.Omega.{arith}
use mathlib.Core.Path.{◌≡◌, refl, ◌∙◌}
use mathlib.Core.List.{List, [], ◌∷◌, ◌++◌, append_assoc, map, flatten}
use lib.ListN.{length, length-append}
use Rattle.lines.specs.declared.LineSoFar.{LineSoFar}
use Rattle.lines.specs.Cuts.{lines_of}
use Rattle.lines.specs.Forms.{Said, parse_of}
use Rattle.lines.specs.Feeds.{blank_line, Feeding}
use Rattle.lines.specs.Feeds as feeds
use Rattle.lines.proofs.FeedLaws.{feeding_lines}
use Rattle.std.specs.Prelude.{⊤, IfErr}
use Rattle.std.proofs.Common.{true, false, Result, Ok, Err}
use Rattle.rights_listing.specs.declared.Stopped.{Stopped}
use Rattle.rights_listing.specs.declared.Stopped.TheVariants.{TooLong, NoOutput}
use Rattle.rights_listing.specs.declared.serving.Served.{Served}
use Rattle.rights_listing.specs.Serves.{Replies, Chunk, ServesChunk, Last, ServesLast, Hears}
use Rattle.rights_listing.specs.Serves.{HearsOnce, HearsLast, Chunks, most_chunks, HearsAll}
use Rattle.rights_listing.specs.Serves as serves
use Rattle.rights_listing.proofs.ServesLaws.{one_replies}

-- What was heard, as what was said and how it was answered.
record Answered (cs : List (List ℕ)) (at : ℕ) (t : LineSoFar) (p ns q : List ℕ) : Type 0 where
  said : List Said
  fed : Feeding cs at t said
  replies : Replies p said ns q

chunk_heard : {c : List ℕ} {cs : List (List ℕ)} {at : ℕ} {t u : LineSoFar} {p q r ks ns : List ℕ}
    → Chunk c at t p ks u q → Answered cs 0 u q ns r → Answered (c ∷ cs) at t p (ks ++ ns) r
chunk_heard (serves.spent e) h = record { said = h.said; fed = feeds.spent e h.fed; replies = h.replies }
chunk_heard (serves.found {said = s} e a c) h =
    let g = chunk_heard c h in
    record { said = s ∷ g.said; fed = feeds.found e g.fed; replies = serves.next a g.replies }

last_heard : {t : LineSoFar} {p q ks : List ℕ} → Last t p ks q → Answered [] 0 t p ks q
last_heard (serves.none e) = record { said = []; fed = feeds.ended e; replies = serves.none }
last_heard (serves.one {said = s} e a) =
    record { said = s ∷ []; fed = feeds.last e; replies = serves.next a serves.none }

heard : {cs : List (List ℕ)} {t : LineSoFar} {p ns q : List ℕ} → Hears cs t p ns q → Answered cs 0 t p ns q
heard (serves.more c h) = chunk_heard c (heard h)
heard (serves.ended l) = last_heard l

-- The numbers are those of the input's lines, in their order.
pub hears_lines : {cs : List (List ℕ)} {p ns q : List ℕ} → Hears cs blank_line p ns q
    → Replies p (map parse_of (lines_of (flatten cs))) ns q
hears_lines h = let g = heard h in rw (feeding_lines g.fed) at g.replies

-- An input has one outcome, in whatever chunks it comes.
pub one_hears : {cs ds : List (List ℕ)} {p q r ns ms : List ℕ} → flatten cs ≡ flatten ds → Hears cs blank_line p ns q
    → Hears ds blank_line p ms r → (ns ≡ ms) × (q ≡ r)
one_hears e g h = one_replies (hears_lines g) (rw (← e) at (hears_lines h))

-- ---- Chunk after chunk.

-- Chunks that came one after the other, and what is heard after them.
chunks_then : {t : LineSoFar} {p : List ℕ} {cs ds : List (List ℕ)} {u : LineSoFar} {q r ks ns : List ℕ} → Chunks t p cs ks u q
    → Hears ds u q ns r → Hears (cs ++ ds) t p (ks ++ ns) r
chunks_then serves.none h = h
chunks_then (serves.more {c = c} {cs = cs} {ks = ks} {ns = ms} g s k) h =
    rw (append_assoc cs (c ∷ []) _, append_assoc ks ms _) (chunks_then g (serves.more k h))

-- A chunk of `n` bytes was served; its answers were written, or not.
module _ {c p q out : List ℕ} {t : LineSoFar} {r : Served} {n : ℕ} (s : ServesChunk c t p r q out) (l : n ≡ length c)
    (e : n ≡ 0 → ⊥) where
  pub hears_chunk : HearsOnce t p (Ok true) r.line q
  hears_chunk = serves.chunk {c = c} (omega arith) s.chunk

  pub hears_unwritten : HearsOnce t p (Err NoOutput) r.line q
  hears_unwritten = serves.not_written {c = c} (omega arith) s.chunk

-- The end of the input was served; its answer was written, or not.
module _ {p q out : List ℕ} {t : LineSoFar} {n : ℕ} (s : ServesLast t p n q out) where
  pub hears_last : (r : Result ⊤ Stopped) → IfErr r (λ e. e ≡ NoOutput) → HearsLast t p r q
  hears_last (Ok x) h = serves.last_written s.last
  hears_last (Err e) h = rw h (serves.last_not_written s.last)

-- What was heard in `n` turns.
pub record Hearing (p₀ : List ℕ) (t : LineSoFar) (p : List ℕ) (n : ℕ) : Type 0 where
  pub chunks : List (List ℕ)
  pub numbers : List ℕ
  pub heard : Chunks blank_line p₀ chunks numbers t p
  pub many : length chunks ≡ n
  pub long : length p ≡ length p₀

-- Nothing was heard yet.
pub hearing_begins : {p : List ℕ} {t : LineSoFar} → t ≡ blank_line → Hearing p t p 0
hearing_begins e = record { chunks = []; numbers = []; heard = rw e serves.none; many = refl; long = refl }

-- The turns ran out.
pub hearing_out : {p q : List ℕ} {t : LineSoFar} {n : ℕ} → Hearing p t q n → n ≡ most_chunks
    → HearsAll p (Err TooLong) q
hearing_out h e = serves.too_long h.heard (h.many ∙ e)

module _ {p₀ p : List ℕ} {t : LineSoFar} {n : ℕ} (g : Hearing p₀ t p n) where
  -- A chunk more.
  heard_more : {c q ks : List ℕ} {u : LineSoFar} → 0 < length c → Chunk c 0 t p ks u q
      → Chunks blank_line p₀ (g.chunks ++ c ∷ []) (g.numbers ++ ks) u q
  heard_more s k = serves.more g.heard s k

  -- A chunk came, and its answers were written: a turn more.
  pub hearing_on : {u : LineSoFar} {q : List ℕ} → HearsOnce t p (Ok true) u q → length q ≡ length p
      → Hearing p₀ u q (n + 1)
  hearing_on (serves.chunk {c = c} s k) l =
      let m = g.many in
      let z = length-append g.chunks (c ∷ []) in
      record { chunks = _; numbers = _; heard = heard_more s k; many = omega arith; long = l ∙ g.long }

  -- It stopped: no more could be read, or the answers not be written.
  pub hearing_stops : {e : Stopped} {u : LineSoFar} {q : List ℕ} → HearsOnce t p (Err e) u q → HearsAll p₀ (Err e) q
  hearing_stops serves.not_read = serves.no_input g.heard
  hearing_stops (serves.not_written s k) = serves.no_output (heard_more s k)

  -- The input came to its end.
  pub hearing_ends : {u : LineSoFar} {q z : List ℕ} {r : Result ⊤ Stopped} → HearsOnce t p (Ok false) u q
      → HearsLast u q r z → HearsAll p₀ r z
  hearing_ends serves.nothing (serves.last_written l) = serves.whole_input (chunks_then g.heard (serves.ended l))
  hearing_ends serves.nothing (serves.last_not_written l) =
      serves.no_last_output (chunks_then g.heard (serves.ended l))
