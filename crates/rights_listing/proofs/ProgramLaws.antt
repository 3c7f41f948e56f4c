-- The whole program: its output is one for each input, and is what it hears and shows.
use Prim.Native.Nat.{ℕ}
use native.Mathlib.Omega.{arith}
use mathlib.Core.Path.{◌≡◌, sym, ap, ◌∙◌}
use mathlib.Core.List.{List, ◌++◌, flatten}
use lib.ListN.{length, replicate, length-append, length-replicate}
use Rattle.theory.specs.Pool.{words}
use Rattle.theory.specs.Settled.{Settled}
use Rattle.table.specs.Shape.{Fits}
use Rattle.table.specs.Map.{form_of}
use Rattle.table.specs.Fresh.{fresh_pool}
use Rattle.table.proofs.FreshWordLaws.{fresh_settled}
use Rattle.std.proofs.Common.{Result}
use Rattle.refusals.specs.declared.Refusal.{Refusal}
use Rattle.change.specs.declared.Ending.{Ending}
use Rattle.change.specs.Answers.{Changes}
use Rattle.change.specs.Answers as answers
use Rattle.lines.specs.Forms.{Said}
use Rattle.lines.specs.Feeds.{blank_line}
use Rattle.listing.specs.Runs.{memory_words}
use Rattle.listing.specs.Listing.{word_right}
use Rattle.listing.proofs.RunLaws.{one_all_runs}
use Rattle.listing.proofs.ScanLaws.{listing_all}
use Rattle.rights_listing.specs.Text.{text}
use Rattle.rights_listing.specs.Serves.{whole, suffices, not_of_form, request, Replies, Hears}
use Rattle.rights_listing.specs.Serves as serves
use Rattle.rights_listing.specs.Pages.{ShowsPages}
use Rattle.rights_listing.specs.Program.{Writes}
use Rattle.rights_listing.proofs.ServesLaws.{never_cut, one_replies}
use Rattle.rights_listing.proofs.HearsLaws.{hears_lines}
use Rattle.rights_listing.proofs.ShowLaws.{runs, pages_whole}

-- An input has one output.
pub one_output : {i o e : List ℕ} → Writes i o → Writes i e → o ≡ e
one_output g h =
    let (n, q) = one_replies g.replies h.replies in
    let r = one_all_runs g.all (rw (← q) at h.all) in
    g.is ∙ rw (n, r) (sym h.is)

-- ---- The pool stays settled.

-- A pool of the program's shape that is settled.
record Good (p : List ℕ) : Type 0 where
  fits : Fits whole (length p)
  settled : Settled (form_of whole) (words p)

-- A fresh pool has the length of its shape.
fresh_long : length (fresh_pool whole) ≡ 16384
fresh_long =
    let n = length-append (replicate 4096 0x80000000) (replicate {A = ℕ} 12288 0) in
    let a = length-replicate {A = ℕ} 4096 0x80000000 in
    let b = length-replicate {A = ℕ} 12288 0 in
    omega arith

-- The fresh pool is one,
good_fresh : Good (fresh_pool whole)
good_fresh = record {
  fits = record {
    range = record { some_domain = omega arith; domains = omega arith; middles = omega arith; leaves = omega arith };
    long = fresh_long;
  };
  settled = fresh_settled whole;
}

-- a change leaves one,
good_change : {p q : List ℕ} {d start len r : ℕ} {a : Result Ending Refusal} → Good p → Changes p whole d start len r suffices a q
    → Good q
good_change g (answers.no_shape f) = g
good_change g (answers.no_domain f h) = g
good_change g (answers.no_right f h k) = g
good_change g (answers.no_region f h k m z) = g
good_change g (answers.in_order x o (answers.unsound u)) = g
good_change g (answers.in_order x o (answers.unsettled u v)) = g
good_change g (answers.in_order x o (answers.no_room u v)) = g
good_change g (answers.in_order x o (answers.done t q z)) =
    record { fits = rw z.long g.fits; settled = z.finished.settled }
good_change g (answers.in_order x o (answers.cut t q z)) =
    absurd (never_cut (answers.in_order x o (answers.cut t q z)))

-- and so do all the lines.
good_replies : {p q : List ℕ} {said : List Said} {ns : List ℕ} → Good p → Replies p said ns q → Good q
good_replies g serves.none = g
good_replies g (serves.next not_of_form r) = good_replies g r
good_replies g (serves.next (request c) r) = good_replies (good_change g c) r

-- ---- What is heard and shown is what must be written.

-- An input that was heard to its end, and all pages of the pool that it left.
pub heard_shown : {cs : List (List ℕ)} {ns q bytes : List ℕ} {k : ℕ} → Hears cs blank_line (fresh_pool whole) ns q
    → ShowsPages q 0 k bytes → Writes (flatten cs) (text 1 ns ++ bytes)
heard_shown {ns = ns} {q = q} h s =
    let r = hears_lines h in
    let g = good_replies good_fresh r in
    let a = listing_all 4 memory_words (word_right whole q) in
    record {
      numbers = ns;
      pool = q;
      runs = runs q;
      replies = r;
      all = a;
      is = ap (λ l. text 1 ns ++ l) (pages_whole g.fits g.settled.sound a s);
    }
