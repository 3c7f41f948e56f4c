-- Two needless middle tables: to tidy the pool takes two stores, so with an allowance of one the tidying is cut.
use Prim.Native.Nat.{ℕ, ◌+◌, ◌*◌, ◌/◌, ◌%◌, ◌≤◌, ◌<◌}
use mathlib.Core.Path.{◌≡◌, refl, sym, ap, ◌∙◌}
use mathlib.Core.Bool.{true}
use mathlib.Core.List.{List}
use native.Mathlib.Omega.{arith}
use native.Mathlib.Decide.{ℕ_discrete, dec_lt}
use lib.ListN.{length, set, replicate, length-set, length-replicate, get_or-replicate}
use lib.Seq.{get_or-set_other}
use Rattle.theory.specs.Pool.{words, right_of}
use Rattle.theory.specs.Finished.{Finished}
use Rattle.words.specs.Rights.{right_at, good_rights}
use Rattle.words.proofs.RightsLaws.{eight_right}
use Rattle.table.specs.Shape.{Fits}
use Rattle.table.specs.Map.{form_of}
use Rattle.plan.specs.Aims.{no_aim, aimed_at}
use Rattle.change.specs.Cuts.{differing}
use Rattle.benchmarks.specs.Rows.{shape}
use Rattle.benchmarks.specs.Witnesses.{SomeTidyCut}
use Rattle.benchmarks.proofs.RowLaws.{in_range_lem, tidy_done, tidy_cut}
use Rattle.benchmarks.proofs.FlatLaws.{flat_right, flat_finished}
use Rattle.benchmarks.proofs.FirstTables.{FirstTables, first_sound, first_right_lem, rest_right}

-- Tidied: no right anywhere, and no table.
abbrev bare : List ℕ
bare = replicate 3072 0x80000000

-- The first two root words lead to tables that say nothing.
abbrev two_needless : List ℕ
two_needless = set (set bare 0 1024) 1 2048

bare_word : (j : ℕ) → j < 3072 → words bare j ≡ 0x80000000
bare_word j h = get_or-replicate 3072 j 0x80000000 0 h

bare_long : length bare ≡ 3072
bare_long = length-replicate {A = ℕ} 3072 0x80000000

needless_long : length two_needless ≡ length bare
needless_long = length-set (set bare 0 1024) 1 2048 ∙ length-set bare 0 1024

needless_other : (j : ℕ) → 2 ≤ j → words two_needless j ≡ words bare j
needless_other j h = get_or-set_other (set bare 0 1024) 1 j 2048 0 (λ e. omega arith)
    ∙ get_or-set_other bare 0 j 1024 0 (λ e. omega arith)

tables : FirstTables 2 (words two_needless)
tables = record {
  lead = λ j h. elim (ℕ_discrete j 0) [
    | yes e ↦ rw e refl
    | no n ↦ (let e : j ≡ 1 = omega (arith, n) in rw e refl)
  ];
  roots = λ j lo hi. needless_other j lo ∙ bare_word j (omega arith);
  middle = λ j lo hi. rw (needless_other j (omega arith) ∙ bare_word j (omega arith)) refl;
}

-- There is no right before ..
needless_right : (d a : ℕ) → d < 1 → right_of (form_of (shape 2 0)) (words two_needless) d a ≡ 0
needless_right d a bd = elim (dec_lt (a / 4194304 % 1024) 2) [
  | yes h ↦
      let j : ℕ = 1024 + 1024 * (a / 4194304 % 1024) + a / 4096 % 1024 in
      first_right_lem 2 0 (omega arith) (omega arith) tables d a bd h
      ∙ ap (λ w. right_at w (a / 512 % 8)) (needless_other j (omega arith) ∙ bare_word j (omega arith))
      ∙ eight_right 0 (a / 512 % 8) (omega arith) (omega arith)
  | no h ↦ rest_right 2 0 (omega arith) (omega arith) tables d a bd (omega arith)
]

-- .. and none after.
bare_flat : (j : ℕ) → j < 1024 → good_rights (words bare j) ≡ true
bare_flat j h = rw (bare_word j (omega arith)) refl

bare_right : (d a : ℕ) → d < 1 → right_of (form_of (shape 2 0)) (words bare) d a ≡ 0
bare_right d a bd =
    flat_right (shape 2 0) (words bare) bare_flat d a bd
    ∙ ap (λ w. right_at w (a / 524288 % 8)) (bare_word (1024 * d + a / 4194304 % 1024) (omega arith))
    ∙ eight_right 0 (a / 524288 % 8) (omega arith) (omega arith)

finished : Finished (form_of (shape 2 0)) (words two_needless) (aimed_at (shape 2 0) no_aim (words two_needless))
    (words bare)
finished = flat_finished (shape 2 0) (words bare) bare_flat (words two_needless)
    (aimed_at (shape 2 0) no_aim (words two_needless))
    (λ d a bd ba. bare_right d a bd ∙ sym (needless_right d a bd))
    (λ j h. sym (needless_other j (omega arith)))

two_stores : differing two_needless bare ≡ 2
unfolding differing
two_stores = refl

fits : Fits (shape 2 0) (length two_needless)
fits = record { range = in_range_lem 2 0 (omega arith) (omega arith); long = needless_long ∙ bare_long }

pub some_tidy_cut : SomeTidyCut
some_tidy_cut =
    let sound = first_sound 2 0 (omega arith) (omega arith) tables in
    let (x, c) = tidy_cut two_needless (shape 2 0) 1 fits sound bare finished (sym needless_long)
    (rw two_stores (omega arith)) in
    record {
      shape = shape 2 0;
      old = two_needless;
      stores = 1;
      pool = x;
      some = omega arith;
      cut = c;
      wanted = 2;
      more = omega arith;
      tidied = bare;
      done = tidy_done two_needless (shape 2 0) 2 fits sound bare 2 finished (sym needless_long) two_stores
          (omega arith);
    }
