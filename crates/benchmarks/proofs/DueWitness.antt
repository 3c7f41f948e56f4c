-- A store of each kind that is due, about one entry of a leaf: in the fresh pool a word of the new middle table is to
-- be filled; in the pool of row 2 the root word is to give up both tables; and where they were given up but still hold
-- what they held, the root word is to lead to them again.
use Prim.Native.Nat.{ℕ, ◌<◌}
use mathlib.Core.Path.{◌≡◌, refl, sym, ap, ◌∙◌}
use mathlib.Core.Logic.{◌≢◌, ◌⊎◌, inl, inr}
use mathlib.Core.Bool.{true, true≢false}
use native.Mathlib.Omega.{arith}
use native.Mathlib.Decide.{ℕ_discrete}
use lib.ListN.{length-set}
use lib.Seq.{get_or-set_other}
use borrow.Author.Tests.{lt-ltb}
use Rattle.theory.specs.Form.{Form}
use Rattle.theory.specs.Pool.{words, Roots}
use Rattle.theory.specs.Finished.{Finished}
use Rattle.theory.specs.Stores.{Kept, top, give, fill, link}
use Rattle.theory.proofs.FinishedLaws.{finished_same, finished_words}
use Rattle.words.specs.Rights.{good_rights}
use Rattle.table.specs.Map.{form_of}
use Rattle.table.proofs.FormLaws.{eight_good}
use Rattle.table.proofs.FreshWordLaws.{fresh_word, fresh_settled}
use Rattle.targets.specs.Paints.{paint_of}
use Rattle.plan.specs.Aims.{change_aim, aimed_at}
use Rattle.benchmarks.specs.Rows.{shape}
use Rattle.benchmarks.specs.Witnesses.{gives, fills, links, SomeDue}
use Rattle.benchmarks.proofs.RowLaws.{aims_bare, listed}
use Rattle.benchmarks.proofs.FlatLaws.{flat_kept}
use Rattle.benchmarks.proofs.PageLaws.{after, page_finished_from}
use Rattle.benchmarks.proofs.PagePools.{painted, page_word, page_done_finished}
use Rattle.benchmarks.proofs.PageRows.{in_leaf, leaf_page, leaf_pool}
use Rattle.benchmarks.proofs.CutRows.{fresh, fresh_fit, leaf_long, given_up, root_first, root_word, given_right}
use Rattle.benchmarks.proofs.CutRows.{given_finished}

abbrev F : Form
F = form_of (shape 1 1)

root : Roots F 2 0
root = (0, 0, refl, refl, omega arith, omega arith)

-- The root word that leads to both tables gives them up.
pub some_give : SomeDue gives
some_give = record {
  shape = shape 1 1;
  domain = 0;
  paint = paint_of in_leaf 0;
  pool = leaf_pool;
  word = 0;
  value = 0x80000000;
  due = record {
    goal = words given_up;
    finished = given_finished;
    sound = (page_done_finished in_leaf 2 leaf_page (omega arith)).settled.sound;
    next = give 2 (top root) (rw root_first refl) (record { kept = λ m j k. inl refl; rest = λ j n. refl });
    value = sym (root_word 0 (omega arith));
    differs = λ e. let z = root_first in omega arith;
    inside = rw leaf_long (omega arith);
  };
  is = refl;
}

-- A root that leads nowhere keeps nothing but itself, and no word of it leads.
module _ (X Q : ℕ → ℕ) (flat : (j : ℕ) → j < 1024 → good_rights (X j) ≡ true) where
  unled : (m j : ℕ) → Kept F X Q m j → F.leads m (X j) ≡ true → ⊥
  unled m j k l =
      let (e, h) = flat_kept (shape 1 1) X flat Q k in
      true≢false (sym l ∙ ap (λ n. F.leads n (X j)) e ∙ (eight_good (shape 1 1) 1 (X j) (omega arith) (flat j h)).1)

-- In the fresh pool the first word of the middle table is filled.
pub some_fill : SomeDue fills
unfolding listed after
some_fill = record {
  shape = shape 1 1;
  domain = 0;
  paint = paint_of in_leaf 2;
  pool = fresh;
  word = 1024;
  value = 0x80000000;
  due = record {
    goal = words leaf_pool;
    finished = page_done_finished in_leaf 2 leaf_page (omega arith);
    sound = (fresh_settled (shape 1 1)).sound;
    next = fill
        (λ m k. let (_, h) = flat_kept (shape 1 1) (words fresh) flat (words leaf_pool) k in omega arith)
        (record {
          gave = λ m j k l. absurd (unled (words fresh) (words leaf_pool) flat m j k l);
          kept = λ m j k l. refl;
        });
    value = refl;
    differs = λ e. let z = fresh_word (shape 1 1) 1024 in omega arith;
    inside = rw fresh_fit.long (omega arith);
  };
  is = refl;
}
  where
    flat : (j : ℕ) → j < 1024 → good_rights (words fresh j) ≡ true
    flat j h = rw (fresh_word (shape 1 1) j, lt-ltb j 1024 h) refl

given_flat : (j : ℕ) → j < 1024 → good_rights (words given_up j) ≡ true
given_flat j h = rw (root_word j h) refl

given_same : (j : ℕ) → j ≢ 0 → words given_up j ≡ words leaf_pool j
given_same j n = get_or-set_other leaf_pool 0 j 0x80000000 0 n

-- The change made again: the root word alone is wanted.
again_finished : Finished F (words given_up) (aimed_at (shape 1 1) (change_aim 0 in_leaf 2) (words given_up))
    (words leaf_pool)
again_finished = finished_words F _ _ (λ j. sym (page_word in_leaf 2 leaf_page (omega arith) j))
    (finished_same F _ (λ d. painted in_leaf 2) _
    (λ d a bd ba. sym (aims_bare (shape 1 1) in_leaf 2 (words given_up) d a bd (given_right d a bd)))
    (page_finished_from leaf_page (words given_up) given_flat each))
  where
    each : (j : ℕ) → (words given_up j ≡ words fresh j) ⊎ (words given_up j ≡ after 0 0x1000 0xAAAAAAAA j)
    each j = elim (ℕ_discrete j 0) [
      | yes e ↦ rw e (inl (root_word 0 (omega arith) ∙ sym (fresh_word (shape 1 1) 0)))
      | no n ↦ inr (given_same j n ∙ page_word in_leaf 2 leaf_page (omega arith) j)
    ]

-- Where the tables hold what they are to hold, the root word leads to them.
pub some_link : SomeDue links
some_link = record {
  shape = shape 1 1;
  domain = 0;
  paint = paint_of in_leaf 2;
  pool = given_up;
  word = 0;
  value = 1024;
  due = record {
    goal = words leaf_pool;
    finished = again_finished;
    sound = given_finished.settled.sound;
    next = link 2 (top root) (record {
      kept = λ m j k. inl refl;
      gave = λ m j k l. absurd (unled (words given_up) (words leaf_pool) given_flat m j k l);
      rest = λ j n. elim (ℕ_discrete j 0) [
        | yes e ↦ absurd (n 2 (rw e (top root)))
        | no e ↦ given_same j e
      ];
    });
    value = sym root_first;
    differs = λ e. let z = root_word 0 (omega arith) in omega arith;
    inside = rw (length-set leaf_pool 0 0x80000000 ∙ leaf_long) (omega arith);
  };
  is = refl;
}
