-- Row 10: the last word of memory.
use Prim.Native.Nat.{ℕ, zero, suc, ◌≤◌, ◌<◌}
use mathlib.Core.Path.{◌≡◌, refl, sym, ◌∙◌}
use mathlib.Core.Logic.{◌≢◌}
use mathlib.Core.Bool.{Bool, true, false, cond}
use mathlib.Core.List.{List}
use native.Mathlib.Omega.{arith}
use Rattle.std.specs.Prelude.{Ok}
use Rattle.refusals.specs.declared.Refusal.TheVariants.{PastTheEnd}
use Rattle.theory.specs.Pool.{words, right_of}
use Rattle.theory.specs.Finished.{Finished}
use Rattle.theory.proofs.FinishedLaws.{finished_same, settled_finished}
use Rattle.words.specs.Rights.{pack}
use Rattle.words.specs.Region.{rounded, region_of, covered}
use Rattle.words.specs.declared.Region.{Region}
use Rattle.words.proofs.RegionLaws.{covered_range}
use Rattle.table.specs.Map.{form_of}
use Rattle.table.specs.Wants.{said_of}
use Rattle.table.specs.Fresh.{fresh_pool}
use Rattle.table.proofs.WantLaws.{wants_leaf}
use Rattle.table.proofs.FreshWordLaws.{fresh_right, fresh_settled}
use Rattle.plan.specs.Aims.{change_aim, aimed_at}
use Rattle.change.specs.declared.Ending.TheVariants.{Done}
use Rattle.change.specs.Cuts.{differing}
use Rattle.change.specs.Answers.{no_region, in_order, cut}
use Rattle.change.proofs.DifferLaws.{differing_self}
use Rattle.benchmarks.specs.Rows.{shape, Always, AnsweredCut, AnsweredRefused, Sets, LastWord}
use Rattle.benchmarks.proofs.RowLaws.{always_change, aims_fresh}
use Rattle.benchmarks.proofs.RowLaws.{change_done, listed}
use Rattle.benchmarks.proofs.CutRows.{fresh, fresh_fit}
use Rattle.benchmarks.proofs.PageLaws.{OnePage, after}
use Rattle.benchmarks.proofs.PagePools.{painted, one_page, page_pool, page_done_finished, page_asked, page_done}
use Rattle.benchmarks.proofs.PagePools.{page_cut}

abbrev last : Region
last = rounded 0xFFFFFFFC 4

-- The entry of the last 64 bytes.
abbrev entry : ℕ → ℕ
entry r = said_of (painted last r) 0 0xFFFFFFFC

last_page : (r : ℕ) → r ≢ 0 → r ≤ 3 → OnePage 1 0 (painted last r) 0xFFFFFFFC 0xFFFFFFF8 (entry r)
last_page r some small = one_page 1 0 last r 0xFFFFFFFC 0xFFFFFFF8 (omega arith) (λ z. omega arith) (omega arith)
    (omega arith) some (omega arith)
    (λ b e. let k = covered_range last b e in omega arith) refl refl refl (wants_leaf (painted last r) 0xFFFFFFFC)

-- The finished pool of a right other than none: root word 1023, the middle table, and the last entry of the leaf.
abbrev last_pool : ℕ → List ℕ
last_pool r = page_pool 1 0 0xFFFFFFFC (entry r)

last_stores_lem : (r : ℕ) → r ≢ 0 → r ≤ 3 → differing fresh (last_pool r) ≡ 1026
unfolding differing listed after pack
last_stores_lem zero n h = absurd (n refl)
last_stores_lem (suc zero) n h = refl
last_stores_lem (suc (suc zero)) n h = refl
last_stores_lem (suc (suc (suc zero))) n h = refl
last_stores_lem (suc (suc (suc (suc r)))) n h = absurd (omega arith)

module _ (r : ℕ) (some : r ≢ 0) (h : r ≤ 3) (n : ℕ) where
  gives_right : 1026 ≤ n → Sets 1 1 0xFFFFFFFC 4 r n (Ok (Done 1026)) (last_pool r)
  unfolding region_of
  gives_right b =
      page_done last r (last_page r some h) (omega arith) 0xFFFFFFFC 4 h refl n 1026 (last_stores_lem r some h) b

  right_given : right_of (form_of (shape 1 1)) (words (last_pool r)) 0 0xFFFFFFFC ≡ r
  right_given =
      (page_done_finished last r (last_page r some h) (omega arith)).rights 0 0xFFFFFFFC (omega arith) (omega arith)
      ∙ aims_fresh (shape 1 1) last r 0 0xFFFFFFFC (omega arith) (omega arith)

  is_cut : n < 1026 → Always (Sets 1 1 0xFFFFFFFC 4 r n) (λ a q. AnsweredCut a)
  unfolding region_of
  is_cut b =
      let page = last_page r some h in
      let (x, c) = page_cut last r page (omega arith) 0xFFFFFFFC 4 h refl n 1026 (last_stores_lem r some h) b in
      let asked = page_asked last r page (omega arith) 0xFFFFFFFC 4 h refl in
      always_change (in_order last asked (cut (fresh_settled (shape 1 1)) x c)) refl

-- With the right 0 nothing changes.
still : Finished (form_of (shape 1 1)) (words fresh) (aimed_at (shape 1 1) (change_aim 0 last 0) (words fresh))
    (words fresh)
still = finished_same (form_of (shape 1 1)) (words fresh) (right_of (form_of (shape 1 1)) (words fresh)) _
    (λ d a bd ba. fresh_right (shape 1 1) d a bd
    ∙ sym (aims_fresh (shape 1 1) last 0 d a bd bd ∙ either (covered last a)))
    (settled_finished (form_of (shape 1 1)) (fresh_settled (shape 1 1)))
  where
    either : (b : Bool) → ◌≡◌ {A = ℕ} (cond b 0 0) 0
    either true = refl
    either false = refl

takes_none : (n : ℕ) → Sets 1 1 0xFFFFFFFC 4 0 n (Ok (Done 0)) fresh
unfolding region_of
takes_none n =
    change_done fresh (shape 1 1) 0 0xFFFFFFFC 4 0 n last
    (record { fits = fresh_fit; domain = omega arith; right = omega arith; region = refl })
    (fresh_settled (shape 1 1)) fresh 0 still refl (differing_self fresh) (omega arith)

refused_5 : (r n : ℕ) → r ≤ 3
    → Always (Sets 1 1 0xFFFFFFFC 5 r n) (λ a q. AnsweredRefused 5 a × (q ≡ fresh_pool (shape 1 1)))
unfolding region_of
refused_5 r n h = always_change (no_region fresh_fit (omega arith) h PastTheEnd refl) (refl, refl)

pub row_10 : LastWord
row_10 zero n h = (
  λ b. always_change (takes_none n) (refl, fresh_right (shape 1 1) 0 0xFFFFFFFC (omega arith)),
  λ b. absurd (omega arith),
  refused_5 0 n h,
)
row_10 (suc r) n h =
    let some : suc r ≢ 0 = λ e. omega arith in (
      λ b. always_change (gives_right (suc r) some h n b) (refl, right_given (suc r) some h n),
      is_cut (suc r) some h n,
      refused_5 (suc r) n h,
    )
