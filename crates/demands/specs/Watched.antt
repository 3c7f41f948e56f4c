-- A buffer in use beside a table: the buffer was emptied, and since then there were checks, changes, tidyings and
-- flushes, in any order.
use Rattle.std.specs.Prelude.{ℕ, List, Result, Ok, Err}
use Rattle.refusals.specs.declared.Refusal.{Refusal}
use Rattle.words.specs.Region.{region_of}
use Rattle.words.specs.declared.Region.{Region}
use Rattle.table.specs.declared.Shape.{Shape}
use Rattle.plan.specs.Aims.{Aim}
use Rattle.change.specs.declared.Ending.{Ending}
use Rattle.change.specs.declared.Ending.TheVariants.{Done, Cut}
use Rattle.change.specs.Answers.{Changes, Tidies}
use Rattle.lookaside.specs.Slots.{Buffer, empty_buffer}
use Rattle.lookaside.specs.Check.{check_of}
use Rattle.lookaside.specs.Flushes.{Whole, OfDomain, flushed_whole, flushed_domain, flushed_region}
use Rattle.lookaside.specs.Agree.{Places, nowhere, within, clears, both, less}
use Rattle.owners.specs.Changes.{ChangesBy}
use Rattle.demands.specs.Series.{History, made as freshly, after, aimed as set, tidied as tidying, listed, aim_in}

-- The places of domain `d` in a region, as it was rounded; none where it was refused.
abbrev pub places_of : Result Region Refusal → ℕ → Places
places_of (Ok g) d = within d g
places_of (Err k) d = nowhere

-- The places whose rights an aim may have altered: what it covers, finished or cut; none where it was refused.
abbrev pub altered : Result Ending Refusal → Aim → Places
altered (Ok (Done k)) A = A.covers
altered (Ok Cut) A = A.covers
altered (Err k) A = nowhere

-- The buffer `b` was emptied beside some pool and used since; the pool is now `p`, and the places `x` are stale: a
-- change covered them, and no flush has covered them since.
pub data Watched (s : Shape) : List ℕ → Buffer → Places → Type 0 where
  emptied : (p : List ℕ) → Watched s p empty_buffer nowhere
  checked : {p : List ℕ} {b : Buffer} {x : Places} → Watched s p b x
      → (d kind size a : ℕ) → Watched s p (check_of p s b d kind size a).buffer x
  changed : {p q : List ℕ} {b : Buffer} {x : Places} {d start len r n : ℕ} {c : Result Ending Refusal}
      → Watched s p b x → Changes p s d start len r n c q
      → Watched s q b (both x (altered c (aim_in (region_of start len) d r)))
  changed_by : {p q list : List ℕ} {b : Buffer} {x : Places} {caller d start len r n : ℕ}
      {c : Result Ending Refusal} → Watched s p b x → ChangesBy p s list caller d start len r n c q
      → Watched s q b (both x (altered c (aim_in (region_of start len) d r)))
  tidied : {p q : List ℕ} {b : Buffer} {x : Places} {n : ℕ} {c : Result Ending Refusal}
      → Watched s p b x → Tidies p s n c q → Watched s q b x
  flushed_all : {p : List ℕ} {b : Buffer} {x : Places} → Watched s p b x
      → Watched s p (flushed_whole b).buffer (less x (clears Whole))
  domain_flushed : {p : List ℕ} {b : Buffer} {x : Places} → Watched s p b x
      → (d : ℕ) → Watched s p (flushed_domain b d).buffer (less x (clears (OfDomain d)))
  region_flushed : {p : List ℕ} {b : Buffer} {x : Places} → Watched s p b x → (d start len : ℕ)
      → Watched s p (flushed_region b d start len).buffer (less x (places_of (region_of start len) d))

-- What is stale in a buffer that was last emptied as the pool was made, and not flushed since.
abbrev pub unflushed : History → Places
unflushed freshly = nowhere
unflushed (after h (set A c)) = both (unflushed h) (altered c A)
unflushed (after h (tidying c)) = unflushed h
unflushed (after h listed) = unflushed h
