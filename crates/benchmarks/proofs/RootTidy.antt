-- A tidying that gives up the one middle table: one store, of the root word that says what the table said.
use Prim.Native.Nat.{ℕ, suc, ◌+◌, ◌*◌, ◌/◌, ◌%◌, ◌≤◌, ◌<◌}
use mathlib.Core.Path.{◌≡◌, refl, sym, ap, ◌∙◌}
use mathlib.Core.Logic.{◌≢◌}
use mathlib.Core.Bool.{true, true≢false}
use mathlib.Core.List.{List}
use native.Mathlib.Omega.{arith}
use native.Mathlib.Decide.{ℕ_discrete}
use lib.ListN.{length, set, length-set}
use lib.Seq.{get_or-set_same, get_or-set_other}
use Rattle.std.specs.Prelude.{Ok}
use Rattle.theory.specs.Pool.{words, right_of}
use Rattle.theory.specs.Finished.{Finished}
use Rattle.words.specs.Rights.{right_at, good_rights}
use Rattle.table.specs.Shape.{Fits, max_leaves}
use Rattle.table.specs.Map.{addresses, form_of}
use Rattle.plan.specs.Aims.{no_aim, aimed_at}
use Rattle.change.specs.declared.Ending.TheVariants.{Done}
use Rattle.change.specs.Cuts.{differing}
use Rattle.change.specs.Answers.{Tidies}
use Rattle.change.proofs.DifferLaws.{differing_set, differing_self}
use Rattle.benchmarks.specs.Rows.{shape}
use Rattle.benchmarks.proofs.RowLaws.{in_range_lem, tidy_done}
use Rattle.benchmarks.proofs.FlatLaws.{flat_finished, flat_right}
use Rattle.benchmarks.proofs.OneTable.{OneTable, table_sound}

module _ (L : ℕ) (p : List ℕ) (long : length p ≡ 2048 + 64 * L) (o : OneTable (words p)) (w : ℕ)
    (good : good_rights w ≡ true) where
  abbrev tidied : List ℕ
  tidied = set p 0 w

  pub tidied_first : words tidied 0 ≡ w
  tidied_first = get_or-set_same p 0 w 0 (omega arith)

  pub tidied_root : (j : ℕ) → j ≢ 0 → j < 1024 → words tidied j ≡ 0x80000000
  tidied_root j n h = get_or-set_other p 0 j w 0 n ∙ o.roots j n h

  flat : (j : ℕ) → j < 1024 → good_rights (words tidied j) ≡ true
  flat j h = elim (ℕ_discrete j 0) [
    | yes e ↦ rw (e, tidied_first) good
    | no n ↦ rw (tidied_root j n h) refl
  ]

  one_store : differing p tidied ≡ 1
  one_store = differing_set p p 0 w refl (omega arith) refl (λ z. true≢false (sym good ∙ ap good_rights (z ∙ o.first)))
      ∙ ap suc (differing_self p)

  module _ (rights : (a : ℕ) → a < addresses
      → right_at (words tidied (a / 4194304 % 1024)) (a / 524288 % 8) ≡ right_of (form_of (shape 1 L)) (words p) 0 a) where
    tidied_finished : Finished (form_of (shape 1 L)) (words p) (aimed_at (shape 1 L) no_aim (words p)) (words tidied)
    tidied_finished = flat_finished (shape 1 L) (words tidied) flat (words p) (aimed_at (shape 1 L) no_aim (words p))
        (λ d a bd ba.
        let i : 1024 * d + a / 4194304 % 1024 ≡ a / 4194304 % 1024 = omega arith in
        let z : d ≡ 0 = omega arith in
        flat_right (shape 1 L) (words tidied) flat d a bd ∙ ap (λ j. right_at (words tidied j) (a / 524288 % 8)) i
        ∙ rights a ba
        ∙ ap (λ e. right_of (form_of (shape 1 L)) (words p) e a) (sym z))
        (λ j h. get_or-set_other p 0 j w 0 (λ e. omega arith))

    pub tidies_root : L ≤ max_leaves → (n : ℕ) → 1 ≤ n → Tidies p (shape 1 L) n (Ok (Done 1)) tidied
    tidies_root hl n h =
        let f : Fits (shape 1 L) (length p) = record { range = in_range_lem 1 L (omega arith) hl; long = long } in
        tidy_done p (shape 1 L) n f (table_sound L o) tidied 1 tidied_finished (length-set p 0 w) one_store h
