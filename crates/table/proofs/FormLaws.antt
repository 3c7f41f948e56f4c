-- The paper's form has what the theory asks of a form: its tables stand apart, and rights and places settle its words.
use Prim.Native.Nat.{ℕ, zero, suc, ◌+◌, ◌*◌, ◌-◌, ◌/◌, ◌%◌, ◌≤◌, ◌<◌}
use mathlib.Core.Path.{◌≡◌, refl, sym, ap, ◌∙◌}
use mathlib.Core.Bool.{Bool, true, false, ◌&&◌, false≢true, and-eq-true_iff}
use native.Mathlib.Omega.{arith}
use native.Mathlib.Decide.{dec_lt}
use native.Mathlib.Nat.{div-add-mod, div-lt_iff_lt-mul, mul_comm, mul-lt-mul_of_pos_left, add-sub_cancel_left}
use native.Mathlib.Nat.{mul-mod_right}
use lib.Dec.{ltb}
use borrow.Author.Tests.{lt-ltb, le-ltb, ltb-true, le-leb, leb-true, eq-eqb, eqb-true}
use Rattle.theory.specs.Settled.{Together, Says}
use Rattle.theory.specs.Lawful.{Lawful, Exact}
use Rattle.theory.proofs.Logic.{by_cases, and_both}
use Rattle.words.specs.Rights.{bit31, right_at, good_rights}
use Rattle.words.proofs.RightsLaws.{good_low, digits_equal, good_digits_equal}
use Rattle.table.specs.declared.Shape.{Shape}
use Rattle.table.specs.Shape.{first_middle, first_leaf, first_place, places, size}
use Rattle.table.specs.Map.{addresses, parts, index, leads, is_place, good, zone, form_of}
use Rattle.table.specs.Wants.{word_at, words_in}
use Rattle.table.proofs.BlockLaws.{block_together, first_word, word_below, word_block, word_number, entry_at}
use Rattle.table.proofs.BlockLaws.{entry_below}
use Rattle.table.proofs.BlockLaws.{entry_block, entry_index}
use Rattle.table.proofs.EntryLaws.{index_below}

-- Both of two tests.
both_and : (a b : Bool) → a ≡ true → b ≡ true → (a && b) ≡ true
both_and a b x y = (and-eq-true_iff a b).1 (x, y)

-- The test of a place: it is the first word of the `p`-th of the `n` places, counted from 0.

pub place_nth : (from long n w : ℕ) → 0 < long → is_place from long n w ≡ true → (p : ℕ) × (p < n)
    × (w ≡ from + long * p)
place_nth from long n w b e =
    let (f, z) = and_both _ _ e in
    let (lo, hi) = and_both _ _ f in
    let low = leb-true from w lo in
    let high = ltb-true w (from + long * n) hi in
    let none = eqb-true ((w - from) % long) 0 z in
    let d = div-add-mod (w - from) long in
    let c = mul_comm long n in
    ((w - from) / long, (div-lt_iff_lt-mul b).1 (omega arith), omega arith)

pub nth_place : (from long n p : ℕ) → 0 < long → p < n → is_place from long n (from + long * p) ≡ true
nth_place from long n p b h =
    let m = mul-lt-mul_of_pos_left h b in
    both_and _ _ (both_and _ _ (le-leb from (from + long * p) (omega arith))
    (lt-ltb (from + long * p) (from + long * n) (omega arith)))
    (eq-eqb _ 0 (ap (λ x. x % long) (add-sub_cancel_left from (long * p)) ∙ mul-mod_right long p))

-- A table has a word.
some_words : (h : ℕ) → 0 < size h
some_words zero = omega arith
some_words (suc h) = omega arith

module _ (s : Shape) where
  -- A good entry that leads is the first word of a place one height below ..
  pub leads_place : (h w : ℕ) → good s (suc h) w ≡ true → leads (suc h) w ≡ true
      → (h < 2) × (p : ℕ) × (p < places s h) × (w ≡ first_place s h + size h * p)
  leads_place h w g l =
      let (low, c) = and_both (ltb h 2) _ g in
      let (p, b, e) = place_nth (first_place s h) (size h) (places s h) w (some_words h) (rw l at c) in
      (ltb-true h 2 low, p, b, e)

  -- .. and each such word below 2^31 is one.
  pub place_leads : (h p : ℕ) → h < 2 → p < places s h → first_place s h + size h * p < bit31
      → (good s (suc h) (first_place s h + size h * p) ≡ true)
      × (leads (suc h) (first_place s h + size h * p) ≡ true)
  place_leads h p hi b low =
      let l = lt-ltb (first_place s h + size h * p) bit31 low in
      (rw (lt-ltb h 2 hi, l) (nth_place (first_place s h) (size h) (places s h) p (some_words h) b), l)

  -- A good entry of a root or middle table that does not lead is eight rights, and the other way round.
  pub good_eight : (h w : ℕ) → good s (suc h) w ≡ true → leads (suc h) w ≡ false → good_rights w ≡ true
  good_eight h w g l = let (_, c) = and_both (ltb h 2) _ g in rw l at c

  pub eight_good : (h w : ℕ) → h < 2 → good_rights w ≡ true → (good s (suc h) w ≡ true) × (leads (suc h) w ≡ false)
  eight_good h w hi g = (rw (lt-ltb h 2 hi, high) g, high)
    where
      high : ltb w bit31 ≡ false
      high = by_cases (ltb w bit31) (λ l. absurd (false≢true (sym (good_low w (ltb-true w bit31 l)) ∙ g))) (λ l. l)

  -- Tables stand apart.

  zone_root : (i : ℕ) → i < first_middle s → zone s i ≡ 2
  zone_root i h = rw (lt-ltb i (first_middle s) h)

  zone_middle : (i : ℕ) → first_middle s ≤ i → i < first_leaf s → zone s i ≡ 1
  zone_middle i h k = rw (le-ltb i (first_middle s) h, lt-ltb i (first_leaf s) k)

  zone_leaf : (i : ℕ) → first_leaf s ≤ i → zone s i ≡ 0
  zone_leaf i h = rw (le-ltb i (first_middle s) (omega arith), le-ltb i (first_leaf s) h)

  zone_place : (h p i : ℕ) → h < 2 → p < places s h → i < size h
      → zone s (first_place s h + size h * p + i) ≡ h
  zone_place zero p i hi b c = zone_leaf _ (omega arith)
  zone_place (suc zero) p i hi b c = zone_middle _ (omega arith) (omega arith)
  zone_place (suc (suc h)) p i hi b c = absurd (omega arith)

  places_apart : (h f p i q j : ℕ) → i < size h → j < size h → f + size h * p + i ≡ f + size h * q + j
      → f + size h * p ≡ f + size h * q
  places_apart zero f p i q j b c e = omega arith
  places_apart (suc h) f p i q j b c e = omega arith

  pub lawful : Lawful (form_of s)
  lawful = record {
    index_below = index_below;
    root_zone = λ d i b c. zone_root (1024 * d + i) (omega arith);
    root_apart = λ d i e j b c p q r. omega arith;
    target_zone = λ h w i g l c.
        let (hi, p, b, e) = leads_place h w g l in
        rw e (zone_place h p i hi b c);
    target_apart = λ h w i x j g l k m b c e.
        let (_, p, _, f) = leads_place h w g l in
        let (_, q, _, g') = leads_place h x k m in
        f ∙ places_apart h (first_place s h) p i q j b c (ap (λ y. y + i) (sym f) ∙ e ∙ ap (λ y. y + j) g') ∙ sym g';
  }

  -- Rights and places settle the words.

  -- An entry that says a block has in part `i` the right of each word of sub-block `i`.
  pub says_word : (h a i j w : ℕ) (R : ℕ → ℕ) → a < addresses → i < parts h → j < words_in h → Says (form_of s) h R a w
      → right_at w i ≡ R (word_at h a i j)
  says_word h a i j w R ba bi bj t =
      ap (right_at w) (sym (word_number h a i j bi bj))
      ∙ t.each (word_at h a i j) (word_below h a i j ba bi bj)
      (block_together s h a _ (sym (word_block h a i j bi bj)))

  rights_settle : (h w x : ℕ) → good s h w ≡ true → leads h w ≡ false → good s h x ≡ true → leads h x ≡ false
      → ((i : ℕ) → i < parts h → right_at w i ≡ right_at x i) → w ≡ x
  rights_settle zero w x g l k m e = digits_equal w x (ltb-true w addresses g) (ltb-true x addresses k) e
  rights_settle (suc h) w x g l k m e =
      let p = good_eight h w g l in
      let q = good_eight h x k m in
      good_digits_equal w x (rights_low w p) (rights_low x q) p q e
    where
      rights_low : (y : ℕ) → good_rights y ≡ true → y < addresses
      rights_low y r = let z = eqb-true (y / bit31) 1 (and_both _ _ r).0 in omega arith

  at_entry : (h a i : ℕ) → a < addresses → i < size h → (b : ℕ) × (b < addresses) × Together (form_of s) (suc h) a b
      × (index h b ≡ i)
  at_entry h a i ba bi = elim (dec_lt h 2) [
    | yes hi ↦ (
      entry_at h a i,
      entry_below h a i hi ba bi,
      block_together s (suc h) a _ (sym (entry_block h a i hi bi)),
      entry_index h a i hi bi,
    )
    | no hi ↦ above_all h (omega arith) bi
  ]
    where
      -- Above a root there is nothing to lie together in.
      above_all : (h : ℕ) → 2 ≤ h → i < size h → (b : ℕ) × (b < addresses) × Together (form_of s) (suc h) a b
          × (index h b ≡ i)
      above_all zero lo bi = absurd (omega arith)
      above_all (suc zero) lo bi = absurd (omega arith)
      above_all (suc (suc h)) lo bi = (4194304 * i, omega arith, λ j up hi. absurd (omega arith), omega arith)

  pub exact : Exact (form_of s)
  exact = record {
    some = omega arith;
    last = λ w. refl;
    target_exact = λ h w x g l k m e. e;
    says_exact = λ h a w x R ba p q. rights_settle h w x p.good p.rights q.good q.rights
        (λ i bi. says_word h a i 0 w R ba bi (first_word h) p ∙ sym (says_word h a i 0 x R ba bi (first_word h) q));
    at_index = at_entry;
  }
