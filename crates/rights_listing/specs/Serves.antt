-- What the program answers to lines: a number for each, and what becomes of the pool.
use Rattle.std.specs.Prelude.{ℕ, ◌<◌, ◌≡◌, Bool, true, false, List, [], ◌∷◌, ◌++◌, Some, None, Result, Ok, Err, ⊤, length, take, drop}
use Rattle.io.specs.Counts.{IsPrefixLen}
use Rattle.table.specs.declared.Shape.{Shape}
use Rattle.refusals.specs.declared.Refusal.{Refusal}
use Rattle.change.specs.declared.Ending.{Ending}
use Rattle.change.specs.Answers.{numbers, Changes}
use Rattle.lines.specs.declared.LineSoFar.{LineSoFar}
use Rattle.lines.specs.Forms.{Said, asks, no_form}
use Rattle.lines.specs.Feeds.{blank_line, feed_of, last_of}
use Rattle.rights_listing.specs.declared.Stopped.{Stopped}
use Rattle.rights_listing.specs.declared.Stopped.TheVariants.{TooLong, NoInput, NoOutput}
use Rattle.rights_listing.specs.declared.serving.Served.{Served}
use Rattle.rights_listing.specs.Text.{text}

-- The program's pool has D 4, M 8, L 64.
abbrev pub whole : Shape
whole = record { domains = 4; middles = 8; leaves = 64 }

-- An allowance that suffices: no pool has as many words.
abbrev pub suffices : ℕ
suffices = 4294967295

-- A request is answered with the paper's number for its change, 0 for none: it is never cut, so that 0 means done
-- (`ServesLaws`). A line that is not of the form is answered with 99.
pub data Serves (p : List ℕ) : Said → ℕ → List ℕ → Type 0 where
  not_of_form : Serves p no_form 99 p
  request : {d start len r : ℕ} {a : Result Ending Refusal} {q : List ℕ} → Changes p whole d start len r suffices a q
      → Serves p (asks d start len r) (numbers a).refusal q

-- Lines are answered one after the other, each from the pool that the one before it left.
pub data Replies : List ℕ → List Said → List ℕ → List ℕ → Type 0 where
  none : {p : List ℕ} → Replies p [] [] p
  next : {p q r : List ℕ} {said : Said} {more : List Said} {k : ℕ} {ks : List ℕ} → Serves p said k q
      → Replies q more ks r → Replies p (said ∷ more) (k ∷ ks) r

-- From place `at` of a chunk and the line `t` on, the lines that end in the chunk are answered with these numbers, and
-- `u` has begun.
pub data Chunk (c : List ℕ) : ℕ → LineSoFar → List ℕ → List ℕ → LineSoFar → List ℕ → Type 0 where
  spent : {at n : ℕ} {t u : LineSoFar} {p : List ℕ}
      → feed_of at t (drop at c) ≡ record { found = None; next = n; line = u } → Chunk c at t p [] u p
  found : {at n : ℕ} {t u v : LineSoFar} {p q r : List ℕ} {said : Said} {k : ℕ} {ks : List ℕ}
      → feed_of at t (drop at c) ≡ record { found = Some said; next = n; line = u } → Serves p said k q
      → Chunk c n u q ks v r → Chunk c at t p (k ∷ ks) v r

-- A chunk is served: its lines are answered, and their numbers stand in the lent bytes, one to a line.
pub record ServesChunk (c : List ℕ) (t : LineSoFar) (p : List ℕ) (r : Served) (q out : List ℕ) : Type 0 where
  pub numbers : List ℕ
  pub chunk : Chunk c 0 t p numbers r.line q
  pub written : take r.len out ≡ text 1 numbers
  pub inside : IsPrefixLen r.len out

-- What is left at the end of the input: a line that has begun counts.
pub data Last (t : LineSoFar) : List ℕ → List ℕ → List ℕ → Type 0 where
  none : {p : List ℕ} → last_of t ≡ None → Last t p [] p
  one : {p q : List ℕ} {said : Said} {k : ℕ} → last_of t ≡ Some said → Serves p said k q → Last t p (k ∷ []) q

-- The end of the input is served.
pub record ServesLast (t : LineSoFar) (p : List ℕ) (n : ℕ) (q out : List ℕ) : Type 0 where
  pub numbers : List ℕ
  pub last : Last t p numbers q
  pub written : take n out ≡ text 1 numbers
  pub inside : IsPrefixLen n out

-- What one reading answers and leaves of the line `t` and the pool: a chunk that is not empty was served, or nothing
-- came. Whether a call reads or writes is beyond any contract.
pub data HearsOnce (t : LineSoFar) (p : List ℕ) : Result Bool Stopped → LineSoFar → List ℕ → Type 0 where
  nothing : HearsOnce t p (Ok false) t p
  not_read : HearsOnce t p (Err NoInput) t p
  chunk : {c : List ℕ} {u : LineSoFar} {q ks : List ℕ} → 0 < length c → Chunk c 0 t p ks u q
      → HearsOnce t p (Ok true) u q
  not_written : {c : List ℕ} {u : LineSoFar} {q ks : List ℕ} → 0 < length c → Chunk c 0 t p ks u q
      → HearsOnce t p (Err NoOutput) u q

-- Chunks came one after the other, none empty: the numbers of their lines, and the line that has begun.
pub data Chunks (t : LineSoFar) (p : List ℕ) : List (List ℕ) → List ℕ → LineSoFar → List ℕ → Type 0 where
  none : Chunks t p [] [] t p
  more : {c : List ℕ} {cs : List (List ℕ)} {u v : LineSoFar} {q r ks ns : List ℕ} → Chunks t p cs ks u q
      → 0 < length c → Chunk c 0 u q ns v r → Chunks t p (cs ++ c ∷ []) (ks ++ ns) v r

-- The end of the input leaves the pool `q`, and what it answers was written, or not.
pub data HearsLast (t : LineSoFar) (p : List ℕ) : Result ⊤ Stopped → List ℕ → Type 0 where
  last_written : {q ks : List ℕ} → Last t p ks q → HearsLast t p (Ok tt) q
  last_not_written : {q ks : List ℕ} → Last t p ks q → HearsLast t p (Err NoOutput) q

-- An input in chunks is heard: chunk after chunk, and then its end.
pub data Hears : List (List ℕ) → LineSoFar → List ℕ → List ℕ → List ℕ → Type 0 where
  more : {c : List ℕ} {cs : List (List ℕ)} {t u : LineSoFar} {p q r ks ns : List ℕ} → Chunk c 0 t p ks u q
      → Hears cs u q ns r → Hears (c ∷ cs) t p (ks ++ ns) r
  ended : {t : LineSoFar} {p q ks : List ℕ} → Last t p ks q → Hears [] t p ks q

-- As many chunks as a number of 64 bits counts.
abbrev pub most_chunks : ℕ
most_chunks = 18446744073709551615

-- The input was heard to its end; or it has not ended after so many chunks; or after some chunks no more could be
-- read, or the answers not be written.
pub data HearsAll (p : List ℕ) : Result ⊤ Stopped → List ℕ → Type 0 where
  whole_input : {cs : List (List ℕ)} {ns q : List ℕ} → Hears cs blank_line p ns q → HearsAll p (Ok tt) q
  too_long : {cs : List (List ℕ)} {t : LineSoFar} {ns q : List ℕ} → Chunks blank_line p cs ns t q
      → length cs ≡ most_chunks → HearsAll p (Err TooLong) q
  no_input : {cs : List (List ℕ)} {t : LineSoFar} {ns q : List ℕ} → Chunks blank_line p cs ns t q
      → HearsAll p (Err NoInput) q
  no_output : {cs : List (List ℕ)} {t : LineSoFar} {ns q : List ℕ} → Chunks blank_line p cs ns t q
      → HearsAll p (Err NoOutput) q
  no_last_output : {cs : List (List ℕ)} {ns q : List ℕ} → Hears cs blank_line p ns q → HearsAll p (Err NoOutput) q
