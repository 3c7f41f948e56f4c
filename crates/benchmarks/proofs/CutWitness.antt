-- Before its last store the change leaves 128 pages to be read; so there is a cut, and a series with a tidying that
-- makes a store.
use Prim.Native.Nat.{ℕ, ◌+◌, ◌-◌, ◌/◌, ◌≤◌, ◌<◌}
use mathlib.Core.Path.{◌≡◌, refl, sym, ap, ◌∙◌}
use mathlib.Core.Logic.{◌≢◌, ◌⊎◌, inl, inr, ⊎_elim}
use mathlib.Core.Bool.{Bool, true, false, cond, ◌&&◌, ◌||◌}
use mathlib.Core.List.{List}
use native.Mathlib.Omega.{arith}
use native.Mathlib.Decide.{ℕ_discrete, dec_lt}
use lib.Dec.{eqb, ltb}
use lib.ListN.{length, set}
use lib.Seq.{ext_get_or}
use borrow.Author.Tests.{lt-ltb, le-ltb, ltb-true}
use Rattle.std.specs.Prelude.{Ok, Err}
use Rattle.refusals.specs.declared.Refusal.TheVariants.{NotSettled}
use Rattle.theory.specs.Pool.{words, right_of}
use Rattle.theory.specs.Settled.{Settled}
use Rattle.theory.specs.Stores.{Kept, top, down}
use Rattle.theory.specs.Phase.{phase}
use Rattle.theory.proofs.Logic.{by_cases}
use Rattle.words.specs.Region.{rounded, region_of}
use Rattle.table.specs.Shape.{Fits}
use Rattle.table.specs.Map.{addresses, form_of, leads}
use Rattle.table.specs.Fresh.{fresh_pool, MakesFresh}
use Rattle.table.proofs.ShapeLaws.{fits_test}
use Rattle.table.proofs.FormLaws.{eight_good}
use Rattle.table.proofs.FreshLaws.{makes_fresh}
use Rattle.plan.specs.Aims.{aim_of}
use Rattle.change.specs.declared.Ending.TheVariants.{Done, Cut}
use Rattle.change.specs.Cuts.{differing}
use Rattle.change.specs.Answers.{IsCut, Changes, Tidies, in_order, unsettled, cut}
use Rattle.change.proofs.DifferLaws.{differing_less}
use Rattle.change.proofs.OutcomeLaws.{one_goal}
use Rattle.demands.specs.Series.{made, after as then, setting, change, tidy, Series, fresh, call}
use Rattle.benchmarks.specs.Rows.{shape}
use Rattle.benchmarks.specs.Witnesses.{SomeCut, SomeSeries}
use Rattle.benchmarks.specs.CallerWitnesses.{no_regions}
use Rattle.benchmarks.proofs.RowLaws.{fresh_fits, in_range_lem, aims_fresh, listed, listed_long}
use Rattle.benchmarks.proofs.FlatLaws.{first_part}
use Rattle.benchmarks.proofs.PageLaws.{after}
use Rattle.benchmarks.proofs.PagePools.{page_done_finished}
use Rattle.benchmarks.proofs.PageRows.{in_middle, middle_page, middle_pool, middle_set}
use Rattle.benchmarks.proofs.OneTable.{table_sound, settled_divided}
use Rattle.benchmarks.proofs.RootTidy.{tidied_first, tidied_root, tidies_root}
use Rattle.benchmarks.proofs.CutPools.{one_middle, until, read_pool, pages, reading, goal, read_in, read_same}
use Rattle.benchmarks.proofs.CutPools.{read_one, read_right, middle_one}
use Rattle.benchmarks.proofs.CutPools.{goal_finished, middle_fits, middle_settled, asked, some_outcome}

abbrev pub cut_pool : List ℕ
cut_pool = read_pool 128

cut_stores : differing middle_pool cut_pool ≡ 128
unfolding differing listed after
cut_stores = refl

-- Every cut after 128 stores is that pool.
module _ {x : List ℕ} (c : IsCut one_middle (aim_of 0 reading) middle_pool 128 x) where
  goal_is : (j : ℕ) → c.cut.goal j ≡ words goal j
  goal_is = one_goal one_middle (aim_of 0 reading) middle_pool (words goal) goal_finished c.cut

  -- All words of the table are stored in the third phase, in their order.
  is_kept : (j : ℕ) → 1024 ≤ j → j < 2048 → c.way.kept j ≡ true
  is_kept j lo hi =
      let same = middle_one.first ∙ sym (goal_is 0 ∙ (read_one 129 (omega arith) (omega arith)).first) in
      let e : words middle_pool 0 + (j - 1024) ≡ j = let z = middle_one.first in omega arith in
      let k : Kept (form_of one_middle) (words middle_pool) c.cut.goal 2 0 =
      top (0, 0, refl, refl, omega arith, omega arith) in
      c.way.tells.is 1 j (rw e at (down (j - 1024) k same (rw middle_one.first refl) (omega arith)))

  third : (j : ℕ) → 1024 ≤ j → j < 2048 → phase (form_of one_middle) (words middle_pool) c.way.kept j ≡ 3
  third j lo hi =
      let zone : (form_of one_middle).zone j ≡ 1 = rw (le-ltb j 1024 lo, lt-ltb j 2048 hi) refl in
      ap (λ b. cond b (cond (leads ((form_of one_middle).zone j) (words middle_pool j)) 1 3) 2) (is_kept j lo hi)
      ∙ ap (λ h. cond (leads h (words middle_pool j)) 1 3) zone
      ∙ ap (λ t. cond t 1 3) (eight_good (shape 1 0) 0 (words middle_pool j) (omega arith)
      (middle_one.middle j lo hi)).1

  abbrev reached : ℕ → Bool
  reached j = ltb 3 c.way.phase_reached || (eqb 3 c.way.phase_reached && ltb j c.way.word_reached)

  cut_word : (j : ℕ) → 1024 ≤ j → j < 2048 → words x j ≡ cond (reached j) (c.cut.goal j) (words middle_pool j)
  cut_word j lo hi =
      c.way.is j
      ∙ ap
      (λ p. cond (ltb p c.way.phase_reached || (eqb p c.way.phase_reached && ltb j c.way.word_reached))
      (c.cut.goal j) (words middle_pool j))
      (third j lo hi)

  before : (j k : ℕ) → j ≤ k → reached k ≡ true → reached j ≡ true
  before j k h = go (ltb 3 c.way.phase_reached) (eqb 3 c.way.phase_reached)
    where
      go : (a b : Bool) → (a || (b && ltb k c.way.word_reached)) ≡ true
          → (a || (b && ltb j c.way.word_reached)) ≡ true
      go true b e = refl
      go false true e = lt-ltb j c.way.word_reached (let z = ltb-true k c.way.word_reached e in omega arith)
      go false false e = e

  -- The last store is the one that is missing: were it made, all would be.
  whole : reached 1152 ≡ true → (j : ℕ) → words x j ≡ c.cut.goal j
  whole t j = elim (dec_lt j 1024) [
    | yes h ↦ still (λ lo hi. omega arith)
    | no h ↦ elim (dec_lt j 1153) [
      | yes k ↦ cut_word j (omega arith) (omega arith)
          ∙ ap (λ b. cond b (c.cut.goal j) (words middle_pool j)) (before j 1152 (omega arith) t)
      | no k ↦ still (λ lo hi. omega arith)
    ]
  ]
    where
      still : (1024 ≤ j → j < 1153 → ⊥) → words x j ≡ c.cut.goal j
      still f = ⊎_elim (λ e. e ∙ sym (goal_is j ∙ read_same 129 (omega arith) (omega arith) j f)) (λ e. e)
          (c.cut.each j)

  last_old : words x 1152 ≡ words middle_pool 1152
  last_old = by_cases (reached 1152)
      (λ t. absurd (let z = c.more x c.cut.long (whole t) in let y = c.cut.count in omega arith))
      (λ t. cut_word 1152 (omega arith) (omega arith)
      ∙ ap (λ b. cond b (c.cut.goal 1152) (words middle_pool 1152)) t)

  others : (j : ℕ) → j ≢ 1152 → words goal j ≡ words cut_pool j
  others j n = elim (dec_lt j 1024) [
    | yes h ↦ same (λ lo hi. omega arith)
    | no h ↦ elim (dec_lt j 1152) [
      | yes k ↦ read_in 129 (omega arith) (omega arith) j (omega arith) (omega arith)
          ∙ sym (read_in 128 (omega arith) (omega arith) j (omega arith) k)
      | no k ↦ same (λ lo hi. n (omega arith))
    ]
  ]
    where
      same : (1024 ≤ j → j < 1153 → ⊥) → words goal j ≡ words cut_pool j
      same f = read_same 129 (omega arith) (omega arith) j f
          ∙ sym (read_same 128 (omega arith) (omega arith) j (λ lo hi. f lo (omega arith)))

  among : (j : ℕ) → (words x j ≡ words middle_pool j) ⊎ (words x j ≡ words cut_pool j)
  among j = elim (ℕ_discrete j 1152) [
    | yes e ↦ rw e (inl last_old)
    | no n ↦ ⊎_elim inl (λ e. inr (e ∙ goal_is j ∙ others j n)) (c.cut.each j)
  ]

  is_cut_pool : x ≡ cut_pool
  is_cut_pool =
      let long : length cut_pool ≡ length middle_pool = listed_long (until 128) 0 2048 ∙ sym middle_fits.long in
      ext_get_or 0 x cut_pool (c.cut.long ∙ sym long) (λ j h. elim (ℕ_discrete (words x j) (words cut_pool j)) [
        | yes e ↦ e
        | no n ↦ absurd
            (let inside = rw c.cut.long at h in
            let z = differing_less middle_pool x cut_pool j c.cut.long long among inside (λ e. n (sym e)) in
            let y = c.cut.count in
            let w = cut_stores in
            omega arith)
      ])

the_cut : IsCut one_middle (aim_of 0 reading) middle_pool 128 cut_pool
the_cut = let (x, c) = some_outcome in rw (is_cut_pool c) at c

cut_right : (a : ℕ) → a < addresses → right_of (form_of one_middle) (words cut_pool) 0 a ≡ cond (ltb (a / 4096) 128) 1 0
cut_right a ba = read_right 128 (omega arith) (omega arith) 0 a (omega arith) ba

pub some_cut : SomeCut
some_cut = record {
  shape = one_middle;
  domain = 0;
  paint = reading;
  old = middle_pool;
  stores = 128;
  pool = cut_pool;
  some = omega arith;
  cut = the_cut;
  word = 0;
  address = omega arith;
  covers = refl;
  had_not = λ e.
      let old = (page_done_finished in_middle 2 middle_page (omega arith)).rights 0 0 (omega arith) (omega arith) in
      none (sym (old ∙ aims_fresh one_middle in_middle 2 0 0 (omega arith) (omega arith)) ∙ e);
  has = cut_right 0 (omega arith);
}
  where
    none : ◌≡◌ {A = ℕ} 0 1 → ⊥
    none e = omega arith

-- The table has become needless: each 512 KB has one right.
cut_unsettled : Settled (form_of one_middle) (words cut_pool) → ⊥
cut_unsettled t =
    let (b, c, bb, bc, x, y, z) = settled_divided 0 (read_one 128 (omega arith) (omega arith)) t in
    z (cut_right b bb ∙ ap (λ t. cond t 1 0) (low b ∙ ap (λ n. ltb n 1) y ∙ sym (low c)) ∙ sym (cut_right c bc))
  where
    low : (a : ℕ) → ltb (a / 4096) 128 ≡ ltb (a / 524288) 1
    low a = elim (dec_lt (a / 4096) 128) [
      | yes h ↦ lt-ltb (a / 4096) 128 h ∙ sym (lt-ltb (a / 524288) 1 (omega arith))
      | no h ↦ le-ltb (a / 4096) 128 (omega arith) ∙ sym (le-ltb (a / 524288) 1 (omega arith))
    ]

cut_fits : Fits one_middle (length cut_pool)
cut_fits = rw (listed_long (until 128) 0 2048 ∙ sym middle_fits.long) middle_fits

refused_7 : Changes cut_pool one_middle 0 0 4 0 0 (Err NotSettled) cut_pool
unfolding region_of
refused_7 = in_order (rounded 0 4)
    (record { fits = cut_fits; domain = omega arith; right = omega arith; region = refl })
    (unsettled (table_sound 0 (read_one 128 (omega arith) (omega arith))) cut_unsettled)

-- The root word says what the table said.
pub tidies_cut : Tidies cut_pool one_middle 1 (Ok (Done 1)) (set cut_pool 0 0x80000001)
tidies_cut =
    let one = read_one 128 (omega arith) (omega arith) in
    let word = tidied_first 0 cut_pool cut_fits.long one 0x80000001 refl in
    let rest = tidied_root 0 cut_pool cut_fits.long one 0x80000001 refl in
    tidies_root 0 cut_pool cut_fits.long one 0x80000001 refl
    (λ a ba. first_part (words (set cut_pool 0 0x80000001)) word rest a ba
    ∙ ap (λ t. cond t 1 0) (low a) ∙ sym (cut_right a ba))
    (omega arith) 1 (omega arith)
  where
    low : (a : ℕ) → ltb a 524288 ≡ ltb (a / 4096) 128
    low a = elim (dec_lt a 524288) [
      | yes h ↦ lt-ltb a 524288 h ∙ sym (lt-ltb (a / 4096) 128 (omega arith))
      | no h ↦ le-ltb a 524288 (omega arith) ∙ sym (le-ltb (a / 4096) 128 (omega arith))
    ]

pub begun : Changes middle_pool one_middle 0 0 528384 1 128 (Ok Cut) cut_pool
begun = in_order pages asked (cut middle_settled cut_pool the_cut)

made_fresh : MakesFresh one_middle (fresh_pool one_middle) (Ok tt) (fresh_pool one_middle)
made_fresh =
    let fits = fresh_fits one_middle (in_range_lem 1 0 (omega arith) (omega arith)) in
    makes_fresh one_middle (fresh_pool one_middle) (fresh_pool one_middle)
    (fits_test one_middle (length (fresh_pool one_middle)) fits) refl

-- The series up to the cut.
pub cut_series : (list : List ℕ) → Series one_middle cut_pool list
    (then (then made (setting 0 0x1000 512 2 (Ok (Done 1025)))) (setting 0 0 528384 1 (Ok Cut)))
cut_series list = call (call (fresh made_fresh list) (change (middle_set 1025 (omega arith)))) (change begun)

pub some_series : SomeSeries
some_series = record {
  shape = one_middle;
  pool = set cut_pool 0 0x80000001;
  made_stores = 1025;
  tidied_stores = 1;
  some = omega arith;
  list = no_regions;
  series = call (call (cut_series no_regions) (change refused_7)) (tidy tidies_cut);
}
