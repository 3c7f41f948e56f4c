-- A change that a cut leaves unsettled. After row 6 the first 129 pages are to be read, and the change is cut before
-- its last store: then the first 128 pages are read, which is 512 KB, and the middle table has become needless.
use Prim.Native.Nat.{ℕ, ◌+◌, ◌/◌, ◌%◌, ◌≤◌, ◌<◌}
use mathlib.Core.Path.{◌≡◌, refl, sym, ap, ◌∙◌}
use mathlib.Core.Logic.{◌≢◌}
use mathlib.Core.Bool.{false, cond, ◌&&◌}
use mathlib.Core.List.{List}
use native.Mathlib.Omega.{arith}
use native.Mathlib.Decide.{ℕ_discrete, dec_lt}
use lib.Dec.{leb, ltb}
use lib.ListN.{length}
use borrow.Author.Tests.{lt-ltb, le-ltb, le-leb, leb-true}
use Rattle.theory.proofs.Logic.{by_cases}
use Rattle.theory.specs.Pool.{words, right_of}
use Rattle.theory.specs.Settled.{Settled}
use Rattle.theory.specs.Finished.{Finished}
use Rattle.words.specs.Rights.{right_at}
use Rattle.words.specs.Region.{rounded, region_of}
use Rattle.words.specs.declared.Region.{Region}
use Rattle.words.proofs.RightsLaws.{eight_right}
use Rattle.words.proofs.RegionLaws.{covered_yes, covered_no}
use Rattle.table.specs.declared.Shape.{Shape}
use Rattle.table.specs.Shape.{Fits}
use Rattle.table.specs.Map.{addresses, form_of}
use Rattle.targets.specs.declared.Paint.{Paint}
use Rattle.plan.proofs.AimLaws.{change_covers, change_misses, aimed_covered, aimed_other}
use Rattle.targets.specs.Paints.{paint_of}
use Rattle.plan.specs.Aims.{aim_of, change_aim, aimed_at}
use Rattle.change.specs.Cuts.{differing}
use Rattle.change.specs.Answers.{IsCut, Asked}
use Rattle.benchmarks.specs.Rows.{shape}
use Rattle.benchmarks.proofs.RowLaws.{fresh_fits, in_range_lem}
use Rattle.benchmarks.proofs.RowLaws.{aims_fresh, change_cut, listed, listed_long, listed_words}
use Rattle.benchmarks.proofs.PageLaws.{after, at_root, at_middle, after_root, after_middle, after_past}
use Rattle.benchmarks.proofs.PagePools.{page_word, page_long, page_done_finished}
use Rattle.benchmarks.proofs.PageRows.{in_middle, middle_page, middle_pool}
use Rattle.benchmarks.proofs.OneTable.{OneTable, table_right_lem, elsewhere_right, table_settled, table_finished}

-- One root and one middle place.
abbrev pub one_middle : Shape
one_middle = shape 1 0

-- The pool of row 6 with the pages below `n` to be read.
abbrev pub until : ℕ → ℕ → ℕ
until n j = cond (leb 1024 j && ltb j (1024 + n)) 0x80005555 (after 1 0x1000 0x80000002 j)

abbrev pub read_pool : ℕ → List ℕ
read_pool n = listed (until n) 0 2048

until_in : (n j : ℕ) → 1024 ≤ j → j < 1024 + n → until n j ≡ 0x80005555
until_in n j lo hi = rw (le-leb 1024 j lo, lt-ltb j (1024 + n) hi) refl

until_out : (n j : ℕ) → (1024 ≤ j → j < 1024 + n → ⊥) → until n j ≡ after 1 0x1000 0x80000002 j
until_out n j f = elim (dec_lt j 1024) [
  | yes h ↦ ap (λ t. cond (t && ltb j (1024 + n)) 0x80005555 (after 1 0x1000 0x80000002 j)) (lt_leb h)
  | no h ↦ rw (le-leb 1024 j (omega arith), le-ltb j (1024 + n) (past (omega arith))) refl
]
  where
    lt_leb : j < 1024 → leb 1024 j ≡ false
    lt_leb h = by_cases (leb 1024 j) (λ e. let z = leb-true 1024 j e in absurd (omega arith)) (λ e. e)

    past : 1024 ≤ j → 1024 + n ≤ j
    past lo = elim (dec_lt j (1024 + n)) [ yes h ↦ absurd (f lo h) | no h ↦ omega arith ]

module _ (n : ℕ) (lo : 2 ≤ n) (hi : n ≤ 1024) where
  read_word : (j : ℕ) → words (read_pool n) j ≡ until n j
  read_word = listed_words (until n) 2048 (λ j h. until_out n j (λ x y. omega arith) ∙ after_past middle_page j h)

  pub read_in : (j : ℕ) → 1024 ≤ j → j < 1024 + n → words (read_pool n) j ≡ 0x80005555
  read_in j x y = read_word j ∙ until_in n j x y

  read_out : (j : ℕ) → 1024 + n ≤ j → j < 2048 → words (read_pool n) j ≡ 0x80000000
  read_out j x y = read_word j ∙ until_out n j (λ u v. omega arith) ∙ after_middle 1 0x1000 0x80000002 j (omega arith)
      y (λ e. omega arith)

  pub read_same : (j : ℕ) → (1024 ≤ j → j < 1024 + n → ⊥) → words (read_pool n) j ≡ words middle_pool j
  read_same j f = read_word j ∙ until_out n j f ∙ sym (page_word in_middle 2 middle_page (omega arith) j)

  read_rest : (j : ℕ) → (1024 ≤ j → j < 2048 → ⊥) → words (read_pool n) j ≡ words middle_pool j
  read_rest j f = read_same j (λ x y. f x (omega arith))

  pub read_one : OneTable (words (read_pool n))
  read_one = record {
    first = read_rest 0 (λ x y. omega arith) ∙ page_word in_middle 2 middle_page (omega arith) 0
        ∙ at_root 1 0x1000 0x80000002;
    roots = λ j e h. read_rest j (λ x y. omega arith) ∙ page_word in_middle 2 middle_page (omega arith) j
        ∙ after_root 1 0x1000 0x80000002 j h e;
    middle = λ j x y. elim (dec_lt j (1024 + n)) [
      | yes h ↦ rw (read_in j x h) refl
      | no h ↦ rw (read_out j (omega arith) y) refl
    ];
  }

  pub read_right : (d a : ℕ) → d < 1 → a < addresses → right_of (form_of one_middle) (words (read_pool n)) d a
      ≡ cond (ltb (a / 4096) n) 1 0
  read_right d a bd ba = elim (ℕ_discrete (a / 4194304 % 1024) 0) [
    | yes e ↦ table_right_lem 0 read_one d a bd e ∙ elim (dec_lt (a / 4096) n) [
      | yes h ↦ ap (λ w. right_at w (a / 512 % 8)) (read_in (1024 + a / 4096 % 1024) (omega arith) (omega arith))
          ∙ eight_right 1 (a / 512 % 8) (omega arith) (omega arith) ∙ ap (λ t. cond t 1 0) (sym (lt-ltb (a / 4096) n h))
      | no h ↦ ap (λ w. right_at w (a / 512 % 8)) (read_out (1024 + a / 4096 % 1024) (omega arith) (omega arith))
          ∙ eight_right 0 (a / 512 % 8) (omega arith) (omega arith) ∙ ap (λ t. cond t 1 0)
          (sym (le-ltb (a / 4096) n (omega arith)))
    ]
    | no e ↦ elsewhere_right 0 read_one d a bd e ∙ ap (λ t. cond t 1 0) (sym (le-ltb (a / 4096) n (omega arith)))
  ]

-- The change: 129 pages to 1.
abbrev pub pages : Region
pages = rounded 0 528384

abbrev pub reading : Paint
reading = paint_of pages 1

abbrev pub goal : List ℕ
goal = read_pool 129

pub middle_one : OneTable (words middle_pool)
middle_one = record {
  first = page_word in_middle 2 middle_page (omega arith) 0 ∙ at_root 1 0x1000 0x80000002;
  roots = λ j e h. page_word in_middle 2 middle_page (omega arith) j ∙ after_root 1 0x1000 0x80000002 j h e;
  middle = λ j x y. elim (ℕ_discrete j 1025) [
    | yes e ↦ rw (e, page_word in_middle 2 middle_page (omega arith) 1025 ∙ at_middle 1 0x1000 0x80000002) refl
    | no e ↦ rw (page_word in_middle 2 middle_page (omega arith) j ∙ after_middle 1 0x1000 0x80000002 j x y e) refl
  ];
}

goal_aimed : (d a : ℕ) → d < 1 → a < addresses → cond (ltb (a / 4096) 129) 1 0 ≡ aimed_at one_middle (aim_of 0 reading)
    (words middle_pool) d a
goal_aimed d a bd ba = elim (dec_lt (a / 4096) 129) [
  | yes h ↦ ap (λ t. cond t 1 0) (lt-ltb (a / 4096) 129 h)
      ∙ sym (aimed_covered one_middle (change_aim 0 pages 1) (words middle_pool) d a
      (change_covers 0 pages 1 d a (omega arith) (covered_yes pages a (omega arith) (omega arith))))
  | no h ↦ ap (λ t. cond t 1 0) (le-ltb (a / 4096) 129 (omega arith))
      ∙ sym (aimed_other one_middle (change_aim 0 pages 1) (words middle_pool) d a
      (change_misses 0 pages 1 d a (covered_no pages a (λ x y. omega arith)))
      ∙ (page_done_finished in_middle 2 middle_page (omega arith)).rights d a bd ba
      ∙ aims_fresh one_middle in_middle 2 d a bd bd ∙ ap (λ t. cond t 2 0)
      (covered_no in_middle a (λ x y. omega arith)))
]

pub goal_finished : Finished (form_of one_middle) (words middle_pool) (aimed_at one_middle (aim_of 0 reading)
    (words middle_pool))
    (words goal)
goal_finished =
    let right = read_right 129 (omega arith) (omega arith) in
    table_finished 0 middle_one (read_one 129 (omega arith) (omega arith)) _
    (table_settled 0 (read_one 129 (omega arith) (omega arith)) (
      524288,
      528384,
      omega arith,
      omega arith,
      refl,
      refl,
      differ (right 0 524288 (omega arith) (omega arith))
          (right 0 528384 (omega arith) (omega arith)),
    ))
    (λ d a bd ba. right d a bd ba ∙ goal_aimed d a bd ba)
    (read_rest 129 (omega arith) (omega arith))
  where
    differ : {x y : ℕ} → x ≡ 1 → y ≡ 0 → x ≢ y
    differ a b e = omega arith

pub middle_fits : Fits one_middle (length middle_pool)
middle_fits = rw (page_long in_middle 2 middle_page (omega arith))
    (fresh_fits one_middle (in_range_lem 1 0 (omega arith) (omega arith)))

pub middle_settled : Settled (form_of one_middle) (words middle_pool)
middle_settled = (page_done_finished in_middle 2 middle_page (omega arith)).settled

pub asked : Asked middle_pool one_middle 0 0 528384 1 pages
unfolding region_of
asked = record { fits = middle_fits; domain = omega arith; right = omega arith; region = refl }

pub goal_stores : differing middle_pool goal ≡ 129
unfolding differing listed after
goal_stores = refl

pub some_outcome : (x : List ℕ) × IsCut one_middle (aim_of 0 reading) middle_pool 128 x
some_outcome =
    change_cut middle_pool one_middle 0 0 528384 1 128 pages asked middle_settled goal goal_finished
    (listed_long (until 129) 0 2048 ∙ sym middle_fits.long) (rw goal_stores (omega arith))
