-- A change of a fresh pool, M 1, that paints a region of one entry: its finished pool as a list, and its outcomes.
use Prim.Native.Nat.{ℕ, suc, ◌+◌, ◌*◌, ◌/◌, ◌≤◌, ◌<◌}
use mathlib.Core.Path.{◌≡◌, sym, ap, ◌∙◌}
use mathlib.Core.Logic.{◌≢◌}
use mathlib.Core.Bool.{true, false, cond}
use mathlib.Core.List.{List}
use native.Mathlib.Omega.{arith}
use lib.ListN.{length}
use Rattle.std.specs.Prelude.{Ok}
use Rattle.theory.specs.Pool.{words}
use Rattle.theory.specs.Finished.{Finished}
use Rattle.theory.proofs.Logic.{by_cases}
use Rattle.theory.proofs.FinishedLaws.{finished_same, finished_words}
use Rattle.words.specs.Region.{region_of, covered}
use Rattle.words.specs.declared.Region.{Region}
use Rattle.table.specs.Shape.{max_leaves}
use Rattle.table.specs.Map.{addresses, block, part, form_of}
use Rattle.table.specs.Wants.{wants_of, said_of}
use Rattle.table.specs.Fresh.{fresh_pool}
use Rattle.table.proofs.WantLaws.{wants_says, none_rights, painted_rights}
use Rattle.table.proofs.FreshWordLaws.{fresh_settled}
use Rattle.plan.specs.Aims.{change_aim, aimed_at}
use Rattle.change.specs.declared.Ending.TheVariants.{Done}
use Rattle.change.specs.Cuts.{differing}
use Rattle.change.specs.Answers.{IsCut, Asked}
use Rattle.benchmarks.specs.Rows.{shape, Sets}
use Rattle.benchmarks.proofs.RowLaws.{fresh_fits, in_range_lem, aims_fresh, change_done, change_cut, listed}
use Rattle.benchmarks.proofs.RowLaws.{listed_long, listed_words}
use Rattle.benchmarks.proofs.PageLaws.{OnePage, after, after_past, page_finished}

-- The new right on the covered words, and none elsewhere.
abbrev pub painted : Region → ℕ → ℕ → ℕ
painted g r a = cond (covered g a) r 0

-- A region of one entry, of the block of `a0`; `c0` lies beside it.
pub one_page : (L low : ℕ) (g : Region) (r a0 c0 : ℕ) → low < 2 → (low ≡ 0 → 1 ≤ L) → a0 < addresses → c0 < addresses
    → r ≢ 0 → r < 4
    → ((b : ℕ) → covered g b ≡ true → b / block low ≡ a0 / block low) → covered g a0 ≡ true → covered g c0 ≡ false
    → a0 / part (suc low) ≡ c0 / part (suc low) → wants_of (painted g r) low a0 ≡ false
    → OnePage L low (painted g r) a0 c0 (said_of (painted g r) low a0)
one_page L low g r a0 c0 lo room ba bc some small near here there part no_table = record {
  lowest = lo;
  room = room;
  inside = ba;
  beside = bc;
  quiet = λ b bb n. by_cases (covered g b) (λ e. absurd (n (near b e))) (λ e. ap (λ t. cond t r 0) e);
  said = wants_says (shape 1 L) (painted g r) low a0 (painted_rights g r (λ x. 0) small none_rights) (omega arith) ba
      no_table;
  together = part;
  differ = λ e. some (sym (ap (λ t. cond t r 0) here) ∙ e ∙ ap (λ t. cond t r 0) there);
}

-- The finished pool as a list.
abbrev pub page_pool : (L low a0 w : ℕ) → List ℕ
page_pool L low a0 w = listed (after low a0 w) 0 (2048 + 64 * L)

module _ {L low : ℕ} (g : Region) (r : ℕ) {a0 c0 w : ℕ} (o : OnePage L low (painted g r) a0 c0 w) (hl : L ≤ max_leaves)
  where
    pub page_word : (j : ℕ) → words (page_pool L low a0 w) j ≡ after low a0 w j
    page_word = listed_words (after low a0 w) (2048 + 64 * L) (λ j h. after_past o j h)

    pub page_long : length (page_pool L low a0 w) ≡ length (fresh_pool (shape 1 L))
    page_long = listed_long (after low a0 w) 0 (2048 + 64 * L)
        ∙ sym (fresh_fits (shape 1 L) (in_range_lem 1 L (omega arith) hl)).long

    pub page_done_finished : Finished (form_of (shape 1 L)) (words (fresh_pool (shape 1 L)))
        (aimed_at (shape 1 L) (change_aim 0 g r) (words (fresh_pool (shape 1 L)))) (words (page_pool L low a0 w))
    page_done_finished = finished_words (form_of (shape 1 L)) _ _ (λ j. sym (page_word j))
        (finished_same (form_of (shape 1 L)) _ (λ d. painted g r) _
        (λ d a bd ba. sym (aims_fresh (shape 1 L) g r d a bd bd)) (page_finished o))

    module _ (start len : ℕ) (hr : r ≤ 3) (e : region_of start len ≡ Ok g) where
      pub page_asked : Asked (fresh_pool (shape 1 L)) (shape 1 L) 0 start len r g
      page_asked = record {
        fits = fresh_fits (shape 1 L) (in_range_lem 1 L (omega arith) hl);
        domain = omega arith;
        right =
            hr;
        region = e;
      }

      -- With an allowance that suffices, and with a smaller one.
      pub page_done : (n k : ℕ) → differing (fresh_pool (shape 1 L)) (page_pool L low a0 w) ≡ k → k ≤ n
          → Sets 1 L start len r n (Ok (Done k)) (page_pool L low a0 w)
      page_done n k d h =
          change_done (fresh_pool (shape 1 L)) (shape 1 L) 0 start len r n g page_asked (fresh_settled (shape 1 L))
          (page_pool L low a0 w) k page_done_finished page_long d h

      pub page_cut : (n k : ℕ) → differing (fresh_pool (shape 1 L)) (page_pool L low a0 w) ≡ k → n < k → (x : List ℕ)
          × IsCut (shape 1 L) (change_aim 0 g r) (fresh_pool (shape 1 L)) n x
      page_cut n k d h =
          change_cut (fresh_pool (shape 1 L)) (shape 1 L) 0 start len r n g page_asked (fresh_settled (shape 1 L))
          (page_pool L low a0 w) page_done_finished page_long (rw d h)
