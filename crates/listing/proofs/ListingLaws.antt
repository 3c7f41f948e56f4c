-- What is made in the lent words is what the fold finds; and there is one answer.
use Prim.Native.Nat.{ℕ, zero, suc, ◌+◌, ◌*◌, ◌<◌, ◌≤◌}
use native.Mathlib.Omega.{arith}
use native.Mathlib.Nat.{zero-add, add-zero}
use native.Mathlib.Numerals.{add-one}
use mathlib.Core.Path.{◌≡◌, refl, ap, ◌∙◌}
use mathlib.Core.Bool.{Bool, true, false, cond}
use mathlib.Core.List.{List, [], ◌∷◌, ◌++◌, append_assoc, append-nil}
use lib.ListN.{length, length-append}
use lib.Dec.{eqb}
use Rattle.theory.specs.Pool.{words, SoundPool}
use Rattle.table.specs.declared.Shape.{Shape}
use Rattle.table.specs.Shape.{Fits}
use Rattle.table.specs.Map.{form_of}
use Rattle.listing.specs.declared.Run.{Run}
use Rattle.listing.specs.declared.Open.{Open}
use Rattle.std.specs.Prelude.{Result, Ok}
use Rattle.refusals.specs.declared.Refusal.{Refusal}
use Rattle.listing.specs.Runs.{memory_words, shown}
use Rattle.listing.specs.Scan.{Scan, open_run, ended, next, scan, runs_of, listing_of}
use Rattle.listing.specs.Sheets.{put_run, written, Sheet, sheet, counted, closed, opened, feed, fed, OpenAt}
use Rattle.listing.specs.Sheets.{opening, Count, count_of}
use Rattle.listing.specs.Listing.{word_right, Lists, no_shape, unsound, listed}
use Rattle.listing.proofs.RunLaws.{one_all_runs}
use Rattle.listing.proofs.ScanLaws.{listing_all}
use Rattle.listing.proofs.ShownLaws.{written_shown}
use Rattle.listing.proofs.SheetLaws.{open_fed}

-- One run more is written after the others.
written_more : (from n : ℕ) (rs : List Run) (r : Run) (l : List ℕ)
    → written from n (rs ++ r ∷ []) l ≡ put_run from (n + length rs) r (written from n rs l)
unfolding written
written_more from n [] r l = rw add-zero
written_more from n (x ∷ rs) r l =
    let e : n + 1 + length rs ≡ n + length (x ∷ rs) = omega arith in
    rw (← e) (written_more from (n + 1) rs r (put_run from n x l))

-- Domain `d`, after the runs `rs` of earlier ones.
module _ (d from : ℕ) (rs : List Run) (l : List ℕ) where
  -- What is made at a point of the scan.
  unfoldable sheet_at : Scan → Sheet
  sheet_at s =
      sheet (record { domain = d; right = s.right; first = s.first; count = length (rs ++ s.done); from = from })
      (written from 0 (rs ++ s.done) l)

  more : (done : List Run) (r : Run) → written from 0 (rs ++ (done ++ r ∷ [])) l ≡ put_run from (length (rs ++ done)) r
      (written from 0 (rs ++ done) l)
  more done r = rw (← append_assoc rs done (r ∷ []))
      (written_more from 0 (rs ++ done) r l ∙ rw (zero-add (length (rs ++ done))))

  long : (done : List Run) (r : Run) → length (rs ++ (done ++ r ∷ [])) ≡ length (rs ++ done) + 1
  long done r = rw (← append_assoc rs done (r ∷ []), length-append) refl

  closed_ended : (at : ℕ) (s : Scan) → closed at (sheet_at s)
      ≡ sheet_at (record { right = s.right; first = s.first; done = ended d at s })
  unfolding sheet_at closed ended
  closed_ended at s = go (eqb s.right 0)
    where
      go : (t : Bool)
          → cond t (sheet_at s) (sheet (counted (sheet_at s).run (length (rs ++ s.done) + 1))
          (put_run from (length (rs ++ s.done)) (open_run d at s) (written from 0 (rs ++ s.done) l)))
          ≡ sheet_at (record {
            right = s.right;
            first = s.first;
            done = cond t s.done
                (s.done ++ open_run d at s ∷ []);
          })
      go true = refl
      go false = rw (long s.done (open_run d at s), more s.done (open_run d at s))

  feed_next : (q at : ℕ) (s : Scan) → feed q at (sheet_at s) ≡ sheet_at (next d q at s)
  unfolding feed next sheet_at
  feed_next q at s = go (eqb q s.right)
    where
      go : (t : Bool)
          → cond t (sheet_at s) (opened q at (closed at (sheet_at s)))
          ≡ sheet_at (cond t s (record { right = q; first = at; done = ended d at s }))
      go true = refl
      go false = ap (opened q at) (closed_ended at s)

  fed_scan : (n : ℕ) (f : ℕ → ℕ) → fed n f 0 (sheet_at (scan d 0 f)) ≡ sheet_at (scan d n f)
  unfolding fed scan
  fed_scan zero f = refl
  fed_scan (suc n) f = rw (zero-add n, fed_scan n f) (feed_next (f n) n (scan d n f))

  begins : (f : ℕ → ℕ) → sheet (opening d (length rs) from) (written from 0 rs l) ≡ sheet_at (scan d 0 f)
  unfolding sheet_at scan
  begins f = rw append-nil

  domain_runs : (n : ℕ) (f : ℕ → ℕ)
      → count_of (closed n (fed n f 0 (sheet (opening d (length rs) from) (written from 0 rs l))))
      ≡ record { count = length (rs ++ runs_of d n f); out = written from 0 (rs ++ runs_of d n f) l }
  unfolding runs_of sheet_at
  domain_runs n f = rw (begins f, fed_scan n f) (ap count_of (closed_ended n (scan d n f)))

-- The numbers of the open run as a domain begins, and as it ends.
pub open_begin : (d n from : ℕ) → d < 4 → n ≤ (memory_words + 1) * d → OpenAt (opening d n from) 0
open_begin d n from b h = record { domain = b; some = λ z. absurd (z refl); few = omega arith }

pub open_end : (o : Open) (f : ℕ → ℕ) (s : Sheet) → OpenAt s.run 0 → o ≡ (fed memory_words f 0 s).run
    → OpenAt o memory_words
open_end o f s h e = rw e (open_fed memory_words f 0 s h)

-- There are no more runs than words.

ended_few : (d at : ℕ) (s : Scan) → length (ended d at s) ≤ length s.done + 1
unfolding ended
ended_few d at s = go (eqb s.right 0)
  where
    go : (t : Bool) → length (cond t s.done (s.done ++ open_run d at s ∷ [])) ≤ length s.done + 1
    go true = omega arith
    go false = simp length-append (omega arith)

-- `n` words have at most `n`, the open run among them, wherever it ends.
scan_few : (d n : ℕ) (f : ℕ → ℕ) (at : ℕ) → length (ended d at (scan d n f)) ≤ n
unfolding scan next ended
scan_few d zero f at = omega arith
scan_few d (suc n) f at = go (scan d n f) (scan_few d n f) (eqb (f n) (scan d n f).right)
  where
    go : (s : Scan) → ((e : ℕ) → length (ended d e s) ≤ n) → (t : Bool)
        → length (ended d at (cond t s (record { right = f n; first = n; done = ended d n s }))) ≤ suc n
    go s h true = omega (arith, h at)
    go s h false = omega (arith, h n, ended_few d at (record { right = f n; first = n; done = ended d n s }))

-- .. and so have `D` domains, of their words.
pub listing_few : (D n : ℕ) (R : ℕ → ℕ → ℕ) → length (listing_of D n R) ≤ D * n
unfolding listing_of runs_of
listing_few zero n R = omega arith
listing_few (suc D) n R =
    let e : suc D * n ≡ D * n + n = omega arith in
    simp length-append (omega (arith, listing_few D n R, scan_few D n (R D) n))

-- The runs of the first `k` of `D` domains are made: `n` of them, in the words `out`, which were `l`.
pub record Upto (D : ℕ) (R : ℕ → ℕ → ℕ) (from : ℕ) (l : List ℕ) (k n : ℕ) (out : List ℕ) : Type 0 where
  pub high : k ≤ D
  pub count : n ≡ length (listing_of k memory_words R)
  pub words : out ≡ written from 0 (listing_of k memory_words R) l

module _ (D : ℕ) (R : ℕ → ℕ → ℕ) (from : ℕ) (l : List ℕ) where
  pub upto_start : Upto D R from l 0 0 l
  unfolding listing_of written
  upto_start = record { high = omega arith; count = refl; words = refl }

  pub upto_few : (k n : ℕ) (out : List ℕ) → Upto D R from l k n out → n ≤ (memory_words + 1) * k
  upto_few k n out u = omega (arith, u.count, listing_few k memory_words R)

  pub upto_next : (k n m : ℕ) (out end : List ℕ) → Upto D R from l k n out → k < D
      → ◌≡◌ {A = Count} (record { count = m; out = end })
      (count_of (closed memory_words (fed memory_words (R k) 0 (sheet (opening k n from) out))))
      → Upto D R from l (k + 1) m end
  unfolding listing_of
  upto_next k n m out end u h e =
      let g = rw (u.count, u.words, domain_runs k from (listing_of k memory_words R) l memory_words (R k)) at e in
      record { high = omega arith; count = rw add-one (ap (λ c. c.count) g); words = rw add-one (ap (λ c. c.out) g) }

  pub upto_end : (k n : ℕ) (out : List ℕ) → Upto D R from l k n out → D ≤ k
      → (n ≡ length (listing_of D memory_words R)) × (out ≡ written from 0 (listing_of D memory_words R) l)
  upto_end k n out u h = let e : k ≡ D = omega (arith, u.high) in (rw e at u.count, rw e at u.words)

module _ (p : List ℕ) (s : Shape) (from : ℕ) (old : List ℕ) where
  -- What the fold finds, written, is an answer.
  pub lists_found : (n : ℕ) (new : List ℕ) → Fits s (length p) → SoundPool (form_of s) (words p)
      → n ≡ length (listing_of s.domains memory_words (word_right s p))
      → new ≡ written from 0 (listing_of s.domains memory_words (word_right s p)) old → Lists p s from old (Ok n) new
  lists_found n new fits sound en ew =
      rw (en, ew, written_shown from (listing_of s.domains memory_words (word_right s p)) old)
      (listed fits sound (listing_of s.domains memory_words (word_right s p))
      (listing_all s.domains memory_words (word_right s p)))

  -- There is one answer, and one content of the lent words.
  pub one_listing : {q r : Result ℕ Refusal} {x y : List ℕ} → Lists p s from old q x → Lists p s from old r y → (q ≡ r) × (x ≡ y)
  one_listing (no_shape a) (no_shape b) = (refl, refl)
  one_listing (no_shape a) (unsound f b) = absurd (a f)
  one_listing (no_shape a) (listed f o rs g) = absurd (a f)
  one_listing (unsound f a) (no_shape b) = absurd (b f)
  one_listing (unsound f a) (unsound g b) = (refl, refl)
  one_listing (unsound f a) (listed g o rs h) = absurd (a o)
  one_listing (listed f o rs g) (no_shape b) = absurd (b f)
  one_listing (listed f o rs g) (unsound h b) = absurd (b o)
  one_listing (listed f o rs g) (listed h i ts k) =
      let e = one_all_runs g k in (ap (λ z. Ok (length z)) e, ap (λ z. shown from z old) e)
