-- Laws of one right on all the words of a block: as its entry says it, and as the entries of its table have it.
use Prim.Native.Nat.{ℕ, suc, ◌+◌, ◌*◌, ◌/◌, ◌≤◌, ◌<◌}
use mathlib.Core.Path.{◌≡◌, refl, sym, ap, ◌∙◌}
use mathlib.Core.Bool.{Bool, true, false, false≢true}
use native.Mathlib.Omega.{arith}
use native.Mathlib.Nat.{mul_comm}
use lib.Dec.{eqb}
use borrow.Author.Tests.{eq-eqb, eqb-true}
use Rattle.words.specs.Rights.{right_at}
use Rattle.words.proofs.RightsLaws.{pack_digit}
use Rattle.table.specs.Shape.{size}
use Rattle.table.specs.Map.{block, parts, leads}
use Rattle.table.specs.Wants.{above}
use Rattle.table.specs.Entries.{same_of}
use Rattle.table.proofs.BlockLaws.{first_word}
use Rattle.table.proofs.WantLaws.{same_pack}
use Rattle.targets.specs.declared.Paint.{Paint}
use Rattle.std.proofs.Common.{Some, None}
use Rattle.std.specs.Bool.{then_some}
use Rattle.targets.specs.Targets.{painted, given, target_of, Decides}
use Rattle.targets.specs.Steps.{Plain, PartIs, BlockHas, BlocksHave}
use Rattle.targets.proofs.PaintLaws.{painted_agree}
use Rattle.targets.proofs.TargetLaws.{same_said}
use Rattle.targets.proofs.PartLaws.{plain_target, target_plain}
use Rattle.targets.proofs.HeightLaws.{some_word, entry_word_lem, entry_number, entry_below, word_entry, table_first}
use Rattle.targets.proofs.HeightLaws.{table_whole, Entries}
use Rattle.targets.proofs.GivenLaws.{gives_entry}

-- A test is passed where what it asks holds ..
pub decides_yes : {A : Type 0} → A → Decides true A
decides_yes a = record { holds = λ e. a; passes = λ b. refl }

-- .. and not passed where that does not.
pub decides_no : {A : Type 0} → (A → ⊥) → Decides false A
decides_no f = record { holds = λ e. absurd (false≢true e); passes = λ a. absurd (f a) }

-- A test of two numbers decides what holds exactly where they are one.
decides_equal : {A : Type 0} (x y : ℕ) → (x ≡ y → A) → (A → x ≡ y) → Decides (eqb x y) A
decides_equal x y f g = record { holds = λ e. f (eqb-true x y e); passes = λ a. eq-eqb x y (g a) }

-- What decides the one decides what says the same.
pub decides_as : {A B : Type 0} (r : Bool) → Decides r A → (A → B) → (B → A) → Decides r B
decides_as r d f g = record { holds = λ e. f (d.holds e); passes = λ b. d.passes (g b) }

-- A stretch has but one right throughout ..
pub plain_one : (R : ℕ → ℕ) (s n u v : ℕ) → 0 < n → Plain R s n u → Plain R s n v → u ≡ v
plain_one R s n u v l f g = sym (f 0 l) ∙ g 0 l

-- .. so where it has one, whether it has another is a test of the two.
pub plain_decides : (R : ℕ → ℕ) (s n u v : ℕ) → 0 < n → Plain R s n u → Decides (eqb u v) (Plain R s n v)
plain_decides R s n u v l f = decides_equal u v (λ q. rw q at f) (plain_one R s n u v l f)

-- The block of height `h` numbered `n`, and the right `u`.
module _ (R : ℕ → ℕ) (h n u : ℕ) where
  -- Where it has the right throughout, its entry should be that right's ..
  plain_said : Plain R (n * (block h / 4)) (block h / 4) u → target_of R h (n * block h) ≡ Some (same_of h u)
  plain_said f = plain_target R h n u f ∙ ap Some (same_pack h u)

  -- .. and only there.
  pub said_plain : ((a : ℕ) → R a < 4) → u < 4 → target_of R h (n * block h) ≡ Some (same_of h u)
      → Plain R (n * (block h / 4)) (block h / 4) u
  said_plain small b e = target_plain R h n small (same_of h u) e u (λ i l.
      ap (λ w. right_at w i) (sym (same_pack h u)) ∙ pack_digit (above h) (parts h) i (λ i. u) (λ j m. b) l)

  -- So whether it has the right is a test of the entry that it should have.
  pub said_decides : (w same : ℕ) → ((a : ℕ) → R a < 4) → u < 4 → same ≡ same_of h u
      → target_of R h (n * block h) ≡ Some w → Decides (eqb w same) (Plain R (n * (block h / 4)) (block h / 4) u)
  said_decides w same small b is e = decides_equal w same
      (λ q. said_plain small b (e ∙ ap Some (q ∙ is)))
      (λ f. same_said (sym e ∙ plain_said f) ∙ sym is)

-- Of the block numbered `n` whose entry `e` leads to a table: the `m` entries of the table from number `i` on, whose
-- blocks are numbered from `q` on.
module _ (p : Paint) (P : ℕ → ℕ) (b e n i m q : ℕ) (low : b < 2) (lead : leads (suc b) e ≡ true)
    (room : i + m ≤ size b) (is : q ≡ n * size b + i) where
  -- The rights once painted.
  abbrev after : ℕ → ℕ
  after = painted p (given P (suc b) e)

  -- In the block of entry `j`, rights are those that the entry gives.
  entry_right_lem : (j x a : ℕ) → j < m → x ≡ e + i + j → a / block b ≡ q + j → after a ≡ painted p (given P b (P x)) a
  entry_right_lem j x a l at in_block = painted_agree p (given P (suc b) e) (given P b (P x)) a
      (gives_entry P b e n (i + j) x (q + j) low lead (omega arith) (omega arith) (omega arith) a in_block)

  -- Where the blocks of all the entries have a right throughout, so has the stretch of their words ..
  entries_plain : (u : ℕ) → BlocksHave P p b (e + i) m q u → Plain after (q * (block b / 4)) (block b / 4 * m) u
  entries_plain u f x l =
      let (j, k, bj, bk, z) = word_entry b m x l in
      let y : q * (block b / 4) + x ≡ (q + j) * (block b / 4) + k =
      ap (λ v. q * (block b / 4) + v) z ∙ entry_word_lem b q j k in
      ap (λ v. after (4 * v)) y ∙ entry_right_lem j _ _ bj refl (entry_number b (q + j) k bk)
      ∙ f j bj k bk

  -- .. and only there.
  plain_entries : (u : ℕ) → Plain after (q * (block b / 4)) (block b / 4 * m) u → BlocksHave P p b (e + i) m q u
  plain_entries u f j bj k bk =
      sym (entry_right_lem j _ _ bj refl (entry_number b (q + j) k bk))
      ∙ ap (λ v. after (4 * v)) (sym (entry_word_lem b q j k))
      ∙ f (block b / 4 * j + k) (entry_below b m j k bj bk)

-- Such a block has the right throughout exactly where all its entries do.
module _ (p : Paint) (P : ℕ → ℕ) (b e n u : ℕ) (low : b < 2) (lead : leads (suc b) e ≡ true) where
  pub table_decides : (r : Bool) → Decides r (BlocksHave P p b e (size b) (size b * n) u)
      → Decides r (BlockHas P p (suc b) e n u)
  table_decides r d =
      let z : e + 0 ≡ e = omega arith in
      let y : size b * n ≡ n * size b + 0 = mul_comm (size b) n ∙ omega arith in
      decides_as r d
      (λ f. rw (table_first b n low, table_whole b low) at (entries_plain p P b e n 0 (size b) (size b * n) low lead
      (omega arith) y u (rw z f)))
      (λ f. rw z at (plain_entries p P b e n 0 (size b) (size b * n) low lead (omega arith) y u
      (rw (table_first b n low, table_whole b low) f)))

-- Sub-block `i` of such a block, and the `count` entries of the table that stand for it.
module _ (p : Paint) (P : ℕ → ℕ) (b e n i count u : ℕ) (s : Entries b n i count) (lead : leads (suc b) e ≡ true) where
  -- The number of the block of the first of them.
  abbrev number : ℕ
  number = (8 * n + i) * count

  -- Where the blocks of all of them have a right throughout, the sub-block has that one ..
  part_one : BlocksHave P p b (e + count * i) count number u → PartIs P p (suc b) e n i (Some u)
  part_one f = rw (s.first, s.whole) at (entries_plain p P b e n (count * i) count number s.low lead s.inside
      s.number u f)

  -- .. and where not all have the right of the first word, it has two.
  part_two : u ≡ painted p (given P b (P (e + count * i))) (4 * (number * (block b / 4)))
      → (BlocksHave P p b (e + count * i) count number u → ⊥) → PartIs P p (suc b) e n i None
  part_two is none v f =
      let R = painted p (given P (suc b) e) in
      let z : number * (block b / 4) + 0 ≡ number * (block b / 4) = omega arith in
      let g : Plain R (number * (block b / 4)) (block b / 4 * count) v = rw (s.first, s.whole) f in
      let first : R (4 * (number * (block b / 4))) ≡ u =
      entry_right_lem p P b e n (count * i) count number s.low lead s.inside s.number 0 _ _ s.some (omega arith)
      (ap (λ x. 4 * x / block b) (sym z) ∙ entry_number b number 0 (some_word b) ∙ omega arith) ∙ sym is in
      let q : v ≡ u = sym (g 0 (rw s.whole (first_word (suc b)))) ∙ ap (λ x. R (4 * x)) z ∙ first in
      none (plain_entries p P b e n (count * i) count number s.low lead s.inside s.number u (rw q at g))

  -- So the test of all of them tells its one right, or that it has none.
  pub part_found : (t : Bool) → u ≡ painted p (given P b (P (e + count * i))) (4 * (number * (block b / 4)))
      → Decides t (BlocksHave P p b (e + count * i) count number u) → PartIs P p (suc b) e n i (then_some t u)
  part_found true is d = part_one (d.holds refl)
  part_found false is d = part_two is (λ f. false≢true (d.passes f))
