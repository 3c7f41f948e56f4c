-- The pages of the listing one after the other: they end, and their text is the listing's.
use Prim.Native.Nat.{ℕ, ◌+◌, ◌*◌, ◌-◌, ◌≤◌, ◌<◌}
use native.Mathlib.Omega.{arith}
use native.Mathlib.Nat.{zero-add}
use mathlib.Core.Path.{◌≡◌, refl, sym, ap, ◌∙◌}
use mathlib.Core.Logic.{◌≢◌}
use mathlib.Core.List.{List, [], ◌++◌, append_assoc}
use lib.ListN.{length, take, drop, length-drop}
use lib.Seq.{take_all, drop-drop}
use Rattle.theory.specs.Pool.{words, SoundPool}
use Rattle.table.specs.Shape.{Fits}
use Rattle.table.specs.Map.{form_of}
use Rattle.listing.specs.declared.Run.{Run}
use Rattle.listing.specs.Runs.{memory_words, AllRuns, flat}
use Rattle.listing.specs.Scan.{listing_of}
use Rattle.listing.specs.Listing.{word_right}
use Rattle.listing.proofs.RunLaws.{one_all_runs}
use Rattle.listing.proofs.ScanLaws.{listing_all}
use Rattle.listing.proofs.ListingLaws.{listing_few}
use Rattle.std.proofs.Common.{Ok, Err}
use Rattle.rights_listing.specs.declared.Stopped.{Stopped}
use Rattle.rights_listing.specs.declared.pages.Page.{Page}
use Rattle.rights_listing.specs.Text.{text}
use Rattle.rights_listing.specs.Serves.{whole}
use Rattle.rights_listing.specs.Pages.{ShowsPage, no_listing, page, HandsOver, ShowsPages, ShowsAll, to_the_last}
use Rattle.rights_listing.specs.Pages as pages
use Rattle.rights_listing.proofs.PageLaws.{one_page, page_then}

-- ---- One page after another.

-- The runs of a pool.
abbrev pub runs : List ℕ → List Run
runs p = listing_of 4 memory_words (word_right whole p)

-- There are no more than words, so that the number of each fits 32 bits.
runs_few : (p : List ℕ) → length (runs p) ≤ 4294967296
runs_few p = listing_few 4 memory_words (word_right whole p)

-- Where runs are left after a page, it ends before the last.
page_left : {p out : List ℕ} {from : ℕ} {g : Page} → ShowsPage p from g out → g.left ≢ 0
    → from + 1024 < length (runs p)
page_left (no_listing u) e = absurd (e refl)
page_left {p = p} (page f s rs a t i) e =
    let z = ap length (one_all_runs a (listing_all 4 memory_words (word_right whole p))) in
    by_sub (length rs) _ e z
  where
    by_sub : (n m : ℕ) → n - m ≢ 0 → {k : ℕ} → n ≡ k → m < k
    by_sub n m e z = omega arith

-- `count` pages were handed over; with those that come after them they are all.
pub record Showing (p : List ℕ) (count : ℕ) : Type 0 where
  pub bytes : List ℕ
  pub rest : (k : ℕ) (more : List ℕ) → ShowsPages p (count * 1024) k more
      → ShowsPages p 0 (count + k) (bytes ++ more)
  -- The number of the next page's first run fits 32 bits.
  pub fits : count * 1024 < 4294967296

-- Nothing was handed over yet.
pub showing_begins : (p : List ℕ) → Showing p 0
showing_begins p = record { bytes = []; rest = λ k more h. rw (zero-add k) h; fits = omega arith }

-- A page that was handed over: `left` runs come after it.
record Handed (p : List ℕ) (from left : ℕ) : Type 0 where
  page : Page
  out : List ℕ
  shows : ShowsPage p from page out
  is : page.left ≡ left

handed : {p : List ℕ} {from left : ℕ} → HandsOver p from (Ok left) → Handed p from left
handed (pages.written {g = g} {out = out} s) = record { page = g; out = out; shows = s; is = refl }

-- It could not be written.
pub showing_stops : {p : List ℕ} {from : ℕ} {e : Stopped} → HandsOver p from (Err e) → ShowsAll p (Err e)
showing_stops (pages.not_written s) = pages.no_page

module _ {p : List ℕ} {count left : ℕ} (g : Showing p count) (h : HandsOver p (count * 1024) (Ok left)) where
  -- Nothing is left after this page.
  pub showing_ends : left ≡ 0 → ShowsAll p (Ok (count + 1))
  showing_ends e = let k = handed h in to_the_last (g.rest 1 _ (pages.last k.shows (k.is ∙ e)))

  -- Runs are left after this page: it is within the listing, and one page more was handed over.
  module _ (e : left ≢ 0) where
    real : (handed h).page.left ≢ 0
    real z = e (sym (handed h).is ∙ z)

    pub showing_less : count * 1024 + 1024 < length (runs p)
    showing_less = page_left (handed h).shows real

    pub showing_on : Showing p (count + 1)
    showing_on = let k = handed h in record {
      bytes = g.bytes ++ take k.page.len k.out;
      rest = λ i more s.
          let w : (count + 1) * 1024 ≡ count * 1024 + 1024 = omega arith in
          let y : count + (i + 1) ≡ count + 1 + i = omega arith in
          rw (append_assoc, ← y) (g.rest (i + 1) _ (pages.next k.shows real (rw w at s)));
      fits = let z = showing_less in let f = runs_few p in omega arith;
    }

-- ---- The pages are the listing.

-- Pages have one outcome: how many, and their text.
pub one_pages : {p bytes more : List ℕ} {from k m : ℕ} → ShowsPages p from k bytes → ShowsPages p from m more
    → (k ≡ m) × (bytes ≡ more)
one_pages (pages.last s e) (pages.last t f) = (refl, (one_page s t).1)
one_pages (pages.last s e) (pages.next t f n) = absurd (f (sym (ap (λ g. g.left) (one_page s t).0) ∙ e))
one_pages (pages.next s e m) (pages.last t f) = absurd (e (ap (λ g. g.left) (one_page s t).0 ∙ f))
one_pages (pages.next s e m) (pages.next t f n) =
    let z = one_pages m n in
    let y = (one_page s t).1 in
    (rw z.0, rw (y, z.1))

module _ {p : List ℕ} {rs : List Run} (f : Fits whole (length p)) (u : SoundPool (form_of whole) (words p))
    (a : AllRuns 4 memory_words (word_right whole p) rs) where
  -- The text of a page, and what is left after it, from the runs of the pool.
  page_is : {out : List ℕ} {from : ℕ} {g : Page} → ShowsPage p from g out
      → (take g.len out ≡ text 4 (flat (take 1024 (drop from rs)))) × (g.left ≡ length rs - (from + 1024))
  page_is (no_listing v) = absurd (v f u)
  page_is {from = from} (page g v ts b t i) =
      let e = one_all_runs b a in
      (t ∙ ap (λ l. text 4 (flat (take 1024 (drop from l)))) e, ap (λ l. length l - (from + 1024)) e)

  -- The text of all pages from run number `from` on.
  pages_from : {bytes : List ℕ} {from k : ℕ} → ShowsPages p from k bytes → bytes ≡ text 4 (flat (drop from rs))
  pages_from {from = from} (pages.last s e) =
      let (t, l) = page_is s in
      let d = length-drop from rs in
      t ∙ ap (λ l. text 4 (flat l)) (take_all 1024 (drop from rs) (omega arith))
  pages_from {from = from} (pages.next {out = out} {more = more} s e m) =
      let (t, l) = page_is s in
      let z = pages_from m in
      rw (t, z, ← drop-drop) (page_then 1024 (drop from rs))

  -- All the pages of a pool have the text of all its runs.
  pub pages_whole : {bytes : List ℕ} {k : ℕ} → ShowsPages p 0 k bytes → bytes ≡ text 4 (flat rs)
  pages_whole s = pages_from s
