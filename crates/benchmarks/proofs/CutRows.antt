-- The rows about what comes after or instead of row 2: a cut before its last store (4), the same region to none (5).
use Prim.Native.Nat.{ℕ, suc, ◌+◌, ◌*◌, ◌/◌, ◌%◌, ◌≤◌, ◌<◌}
use mathlib.Core.Path.{◌≡◌, refl, sym, ap, ◌∙◌}
use mathlib.Core.Logic.{◌⊎◌, inl, inr, ⊎_elim}
use mathlib.Core.Bool.{false, cond, true≢false}
use mathlib.Core.List.{List}
use native.Mathlib.Omega.{arith}
use native.Mathlib.Decide.{ℕ_discrete}
use lib.ListN.{length, set, length-set}
use lib.Seq.{get_or-set_same, get_or-set_other}
use Rattle.std.specs.Prelude.{Ok}
use Rattle.theory.specs.Pool.{words, right_of}
use Rattle.theory.specs.Finished.{Finished}
use Rattle.theory.proofs.Logic.{by_cases}
use Rattle.words.specs.Rights.{right_at}
use Rattle.words.specs.Region.{region_of, covered}
use Rattle.words.proofs.RightsLaws.{eight_right}
use Rattle.words.proofs.RegionLaws.{covered_range}
use Rattle.table.specs.Shape.{Fits}
use Rattle.table.specs.Map.{addresses, form_of}
use Rattle.table.specs.Fresh.{fresh_pool}
use Rattle.table.proofs.LookupLaws.{sound_lookup}
use Rattle.table.proofs.FreshWordLaws.{fresh_right, fresh_settled}
use Rattle.plan.proofs.AimLaws.{covers_change, change_covers, aimed_covered, aimed_other}
use Rattle.plan.specs.Aims.{change_aim, aimed_at}
use Rattle.change.specs.declared.Ending.TheVariants.{Done}
use Rattle.change.specs.Cuts.{CutAt}
use Rattle.change.specs.Answers.{Changes, in_order, cut}
use Rattle.change.specs.Answers.{IsCut as WasCut}
use Rattle.change.proofs.ChangesLaws.{one_change}
use Rattle.change.proofs.DifferLaws.{differing_set, differing_self}
use Rattle.benchmarks.specs.Rows.{shape, NoneOrTwo, CutBeforeTheLast, GivesUpBoth}
use Rattle.benchmarks.proofs.RowLaws.{always_change, finds, fresh_fits, in_range_lem, aims_fresh}
use Rattle.benchmarks.proofs.RowLaws.{change_done, listed}
use Rattle.benchmarks.proofs.FlatLaws.{flat_finished, flat_right}
use Rattle.benchmarks.proofs.PageLaws.{after, after_root}
use Rattle.benchmarks.proofs.PagePools.{page_asked, page_cut, page_word, page_long, page_done_finished}
use Rattle.benchmarks.proofs.PageRows.{in_leaf, leaf_page, leaf_pool, leaf_stores, leaf_set}

abbrev pub fresh : List ℕ
fresh = fresh_pool (shape 1 1)

pub fresh_fit : Fits (shape 1 1) (length fresh)
fresh_fit = fresh_fits (shape 1 1) (in_range_lem 1 1 (omega arith) (omega arith))

-- Row 4: what a cut leaves.
module _ {n : ℕ} {x : List ℕ} (c : CutAt (shape 1 1) (change_aim 0 in_leaf 2) fresh n x) where
  cut_right : (a : ℕ) → a < addresses
      → (right_of (form_of (shape 1 1)) (words x) 0 a ≡ 0)
      ⊎ ((right_of (form_of (shape 1 1)) (words x) 0 a ≡ 2) × (0x1000 ≤ a) × (a ≤ 0x103F))
  cut_right a ba = by_cases ((change_aim 0 in_leaf 2).covers 0 a)
      (λ z. let k = covered_range in_leaf a (covers_change 0 in_leaf 2 0 a z).1 in
      ⊎_elim (λ e. inl (e ∙ fresh_right (shape 1 1) 0 a (omega arith))) (λ e. inr (e, omega arith, omega arith))
      (c.covered 0 a (omega arith) ba z))
      (λ z. inl (c.others 0 a (omega arith) ba z ∙ fresh_right (shape 1 1) 0 a (omega arith)))

  cut_looks : NoneOrTwo x (shape 1 1) 0x1000 0x103F
  cut_looks a ba =
      let (y, e, q) = sound_lookup x (shape 1 1) 0 a c.sound (rw c.long fresh_fit) (omega arith) in (
        y.right,
        y.entry,
        y.loads,
        y.first.0,
        y.last.0,
        finds x (shape 1 1) a (Ok y) e,
        rw q (cut_right a ba),
      )

leaf_cut : (x : List ℕ) × WasCut (shape 1 1) (change_aim 0 in_leaf 2) fresh 1025 x
unfolding region_of
leaf_cut = page_cut in_leaf 2 leaf_page (omega arith) 0x1000 64 (omega arith) refl 1025 1026 leaf_stores (omega arith)

pub row_4 : CutBeforeTheLast
unfolding region_of
row_4 =
    let (x, c) = leaf_cut in
    always_change
    (in_order in_leaf (page_asked in_leaf 2 leaf_page (omega arith) 0x1000 64 (omega arith) refl)
    (cut (fresh_settled (shape 1 1)) x c))
    (refl, cut_looks c.cut, c.cut.sound)

-- Row 5: both tables are given up by one root word.
pub leaf_long : length leaf_pool ≡ 2112
leaf_long = page_long in_leaf 2 leaf_page (omega arith) ∙ fresh_fit.long

abbrev pub given_up : List ℕ
given_up = set leaf_pool 0 0x80000000

pub root_first : words leaf_pool 0 ≡ 1024
unfolding listed after
root_first = refl

pub root_word : (j : ℕ) → j < 1024 → words given_up j ≡ 0x80000000
root_word j h = elim (ℕ_discrete j 0) [
  | yes e ↦ rw e (get_or-set_same leaf_pool 0 0x80000000 0 (rw leaf_long (omega arith)))
  | no e ↦ get_or-set_other leaf_pool 0 j 0x80000000 0 e ∙ page_word in_leaf 2 leaf_page (omega arith) j
      ∙ after_root 0 0x1000 0xAAAAAAAA j h e
]

pub given_right : (d a : ℕ) → d < 1 → right_of (form_of (shape 1 1)) (words given_up) d a ≡ 0
given_right d a bd =
    flat_right (shape 1 1) (words given_up) (λ j h. rw (root_word j h) refl) d a bd
    ∙ ap (λ w. right_at w (a / 524288 % 8)) (root_word (1024 * d + a / 4194304 % 1024) (omega arith))
    ∙ eight_right 0 (a / 524288 % 8) (omega arith) (omega arith)

-- What the change aims at is no right anywhere.
none_aimed : (d a : ℕ) → d < 1 → a < addresses → aimed_at (shape 1 1) (change_aim 0 in_leaf 0) (words leaf_pool) d a ≡ 0
none_aimed d a bd ba = by_cases ((change_aim 0 in_leaf 0).covers d a)
    (λ z. aimed_covered (shape 1 1) (change_aim 0 in_leaf 0) (words leaf_pool) d a z)
    (λ z.
    let n : covered in_leaf a ≡ false = by_cases (covered in_leaf a)
    (λ e. absurd (true≢false (sym (change_covers 0 in_leaf 0 d a (omega arith) e) ∙ z))) (λ e. e) in
    aimed_other (shape 1 1) (change_aim 0 in_leaf 0) (words leaf_pool) d a z
    ∙ (page_done_finished in_leaf 2 leaf_page (omega arith)).rights d a bd ba
    ∙ aims_fresh (shape 1 1) in_leaf 2 d a bd bd ∙ ap (λ t. cond t 2 0) n)

pub given_finished : Finished (form_of (shape 1 1)) (words leaf_pool)
    (aimed_at (shape 1 1) (change_aim 0 in_leaf 0) (words leaf_pool)) (words given_up)
given_finished = flat_finished (shape 1 1) (words given_up) (λ j h. rw (root_word j h) refl) (words leaf_pool)
    (aimed_at (shape 1 1) (change_aim 0 in_leaf 0) (words leaf_pool))
    (λ d a bd ba. given_right d a bd ∙ sym (none_aimed d a bd ba))
    (λ j h. get_or-set_other leaf_pool 0 j 0x80000000 0 (λ e. omega arith))

gives_up : (m : ℕ) → 1 ≤ m → Changes leaf_pool (shape 1 1) 0 0x1000 64 0 m (Ok (Done 1)) given_up
unfolding region_of
gives_up m h =
    change_done leaf_pool (shape 1 1) 0 0x1000 64 0 m in_leaf
    (record {
      fits = rw (page_long in_leaf 2 leaf_page (omega arith)) fresh_fit;
      domain = omega arith;
      right = omega arith;
      region = refl;
    })
    (page_done_finished in_leaf 2 leaf_page (omega arith)).settled given_up 1 given_finished
    (length-set leaf_pool 0 0x80000000)
    (differing_set leaf_pool leaf_pool 0 0x80000000 refl (rw leaf_long (omega arith)) refl
    (λ z. let y = root_first in omega arith)
    ∙ ap suc (differing_self leaf_pool)) h

pub row_5 : GivesUpBoth
row_5 n m h k b p x =
    let (_, e) = one_change x (leaf_set n h) in
    rw e (always_change (gives_up m k) (refl, root_word 0 (omega arith)))
