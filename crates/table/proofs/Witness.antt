-- The record of a finished pool can be met by a change that makes two middle tables and two leaves in one domain:
-- from a fresh pool, right 2 on the 8 bytes from 0x3FFFFC on, which are the last word of the first 4 MB and the first
-- word after it.
use Prim.Native.Nat.{ℕ, zero, suc, ◌+◌, ◌*◌, ◌-◌, ◌/◌, ◌%◌, ◌≤◌, ◌<◌}
use mathlib.Core.Path.{◌≡◌, refl, sym, ap, ◌∙◌}
use mathlib.Core.Logic.{◌≢◌, ⊎_elim}
use mathlib.Core.Bool.{Bool, true, false, cond, ◌&&◌, true≢false, and-eq-true_iff}
use native.Mathlib.Omega.{arith}
use native.Mathlib.Decide.{ℕ_discrete, dec_lt}
use lib.Dec.{eqb, ltb, leb}
use borrow.Author.Tests.{ne_eqb, lt-ltb, le-ltb, le-leb, leb-true}
use Rattle.theory.specs.Form.{Form}
use Rattle.theory.specs.Pool.{words, right_of, Led}
use Rattle.theory.specs.Settled.{Together, Says}
use Rattle.theory.specs.Finished.{New, Place, Finished}
use Rattle.theory.proofs.Logic.{by_cases}
use Rattle.theory.proofs.Encodes.{TellsWants, Gets, spot, Placing, Encodes, Follows}
use Rattle.theory.proofs.EncodesLaws.{gets_led, encodes_finished}
use Rattle.words.specs.Rights.{right_at, pack}
use Rattle.words.specs.Region.{rounded, covered}
use Rattle.words.proofs.RegionLaws.{covered_range}
use Rattle.words.proofs.RightsLaws.{eight_right, sixteen_right}
use Rattle.table.specs.declared.Shape.{Shape}
use Rattle.table.specs.Map.{addresses, block, part, parts, leads, Divided, form_of}
use Rattle.table.specs.Fresh.{fresh_pool}
use Rattle.table.proofs.BlockLaws.{block_together, together_block, part_in_block, number_below}
use Rattle.table.proofs.FormLaws.{leads_place, lawful, exact}
use Rattle.table.proofs.WantLaws.{wants_leaf, wants_says, none_rights, painted_rights, wanting}
use Rattle.table.proofs.FreshWordLaws.{fresh_word, fresh_led, fresh_right}

-- One root, two middle places and two leaf places.
abbrev pub shape : Shape
shape = record { domains = 1; middles = 2; leaves = 2 }

abbrev F : Form
F = form_of shape

-- The new right on the covered words, and the fresh pool's right, none, on all others.
abbrev pub painted : ℕ → ℕ → ℕ
painted d a = cond (covered (rounded 0x3FFFFC 8) a) 2 0

-- The finished pool: blocks 0 and 1 have the middle tables at 1024 and 2048, pages 1023 and 1024 the leaves at 3072
-- and 3136.
unfoldable pub after : ℕ → ℕ
after j =
    cond (eqb j 0) 1024 (cond (eqb j 1) 2048 (cond (eqb j 2047) 3072 (cond (eqb j 2048) 3136
    (cond (eqb j 3135) 0x80000000 (cond (eqb j 3136) 2 (cond (ltb j 3072) 0x80000000 0))))))

after_upper : (j : ℕ) → j < 3072 → j ≢ 0 → j ≢ 1 → j ≢ 2047 → j ≢ 2048 → after j ≡ 0x80000000
unfolding after
after_upper j h a b c d =
    rw (
      ne_eqb j 0 a,
      ne_eqb j 1 b,
      ne_eqb j 2047 c,
      ne_eqb j 2048 d,
      ne_eqb j 3135 (λ e. omega arith),
      ne_eqb j 3136 (λ e. omega arith),
      lt-ltb j 3072 h,
    )

after_lower : (j : ℕ) → 3072 ≤ j → j ≢ 3135 → j ≢ 3136 → after j ≡ 0
unfolding after
after_lower j h a b =
    rw (
      ne_eqb j 0 (λ e. omega arith),
      ne_eqb j 1 (λ e. omega arith),
      ne_eqb j 2047 (λ e. omega arith),
      ne_eqb j 2048 (λ e. omega arith),
      ne_eqb j 3135 a,
      ne_eqb j 3136 b,
      le-ltb j 3072 h,
    )

-- The number of the block that has the first of the two words; the next block has the second.
abbrev first : ℕ → ℕ
first h = 0x3FFFFC / block h

-- Block `n` of height `h` has one of them.
abbrev near : ℕ → ℕ → Bool
near h n = leb (first h) n && leb n (suc (first h))

near_range : (h n : ℕ) → near h n ≡ true → (first h ≤ n) × (n ≤ suc (first h))
near_range h n e =
    let (a, b) = (and-eq-true_iff (leb (first h) n) (leb n (suc (first h)))).0 e in
    (leb-true (first h) n a, leb-true n (suc (first h)) b)

range_near : (h n : ℕ) → first h ≤ n → n ≤ suc (first h) → near h n ≡ true
range_near h n a b = (and-eq-true_iff (leb (first h) n) (leb n (suc (first h)))).1
    (le-leb (first h) n a, le-leb n (suc (first h)) b)

far : (h n : ℕ) → near h n ≡ false → (n ≢ first h) × (n ≢ suc (first h))
far h n e = (
  λ x. true≢false (sym (range_near h n (omega arith) (omega arith)) ∙ e),
  λ x. true≢false
      (sym (range_near h n (omega arith) (omega arith)) ∙ e),
)

two_words : (a : ℕ) → covered (rounded 0x3FFFFC 8) a ≡ true → (0x3FFFFC ≤ a) × (a < 0x400004)
two_words a e = let (lo, hi) = covered_range (rounded 0x3FFFFC 8) a e in (omega arith, omega arith)

covered_near : (h a : ℕ) → covered (rounded 0x3FFFFC 8) a ≡ true → near h (a / block h) ≡ true
covered_near zero a e = let r = two_words a e in range_near 0 (a / 64) (omega arith) (omega arith)
covered_near (suc zero) a e = let r = two_words a e in range_near 1 (a / 4096) (omega arith) (omega arith)
covered_near (suc (suc h)) a e = let r = two_words a e in range_near 2 (a / 4194304) (omega arith) (omega arith)

-- A block that has none of the two words has no right.
quiet : (h a b : ℕ) → near h (a / block h) ≡ false → a / block h ≡ b / block h → (d : ℕ) → painted d b ≡ 0
quiet h a b e x d = by_cases (covered (rounded 0x3FFFFC 8) b)
    (λ c. absurd (true≢false (sym (covered_near h b c) ∙ ap (near h) (sym x) ∙ e)))
    (λ c. ap (λ t. cond t 2 0) c)

-- Which blocks want a table.

abbrev want : ℕ → ℕ → ℕ → Bool
want zero d a = false
want (suc h) d a = near (suc h) (a / block (suc h))

divided_near : (h d a : ℕ) → Divided (block h) (part h) (painted d) a → near h (a / block h) ≡ true
divided_near h d a (b, c, bb, bc, e, f, z) = by_cases (near h (a / block h))
    (λ x. x)
    (λ x. absurd (z (quiet h a b x (sym e) d ∙ sym (quiet h a c x (sym e ∙ part_in_block h b c f) d))))

-- Beside each of the two words lies, in its sub-block, one that has no right.
near_divided : (h d a : ℕ) → h < 2 → near (suc h) (a / block (suc h)) ≡ true → Divided (block (suc h)) (part (suc h))
    (painted d) a
near_divided zero d a hi e =
    let r = near_range 1 (a / 4096) e in
    elim (ℕ_discrete (a / 4096) 1023) [
      | yes x ↦ (0x3FFFFC, 0x3FFFF8, omega arith, omega arith, sym x, refl, λ z. omega arith)
      | no x ↦ (0x400000, 0x400004, omega arith, omega arith, omega arith, refl, λ z. omega arith)
    ]
near_divided (suc zero) d a hi e =
    let r = near_range 2 (a / 4194304) e in
    elim (ℕ_discrete (a / 4194304) 0) [
      | yes x ↦ (0x3FFFFC, 0x3FFFF8, omega arith, omega arith, sym x, refl, λ z. omega arith)
      | no x ↦ (0x400000, 0x400004, omega arith, omega arith, omega arith, refl, λ z. omega arith)
    ]
near_divided (suc (suc h)) d a hi e = absurd (omega arith)

tells : TellsWants F want painted
tells = record {
  last = λ d a bd ba. refl;
  is = λ h d a bd ba hi x. divided_near (suc h) d a x;
  are = λ h d a bd ba hi e. near_divided h d a hi e;
}

-- Where the tables stand.

abbrev place : ℕ → ℕ → ℕ → ℕ
place zero d a = 3072 + 64 * (a / 4096 - 1023)
place (suc zero) d a = 1024 + 1024 * (a / 4194304)
place (suc (suc h)) d a = 1024 * d

-- A walk that comes down to height 0 is of page 1023 or 1024, and one that comes to height 1 of block 0 or 1.
pages : (d a : ℕ) → Gets F want 0 d a → (1023 ≤ a / 4096) × (a / 4096 ≤ 1024)
pages d a g = near_range 1 (a / 4096) (g 1 (omega arith) (omega arith))

blocks : (d a : ℕ) → Gets F want 1 d a → a / 4194304 ≤ 1
blocks d a g = (near_range 2 (a / 4194304) (g 2 (omega arith) (omega arith))).1

covered_gets : (h d a : ℕ) → covered (rounded 0x3FFFFC 8) a ≡ true → Gets F want h d a
covered_gets h d a e zero lo hi = absurd (omega arith)
covered_gets h d a e (suc i) lo hi = covered_near (suc i) a e

place_apart : (h d a e b : ℕ) → h < 2 → Gets F want h d a → Gets F want h e b → place h d a ≡ place h e b
    → a / block (suc h) ≡ b / block (suc h)
place_apart zero d a e b hi g k x = let r = pages d a g in let s = pages e b k in omega arith
place_apart (suc zero) d a e b hi g k x = omega arith
place_apart (suc (suc h)) d a e b hi g k x = absurd (omega arith)

placing : Placing F want place
placing = record {
  root = λ d a bd ba. refl;
  block = one_place;
  apart = λ h d a e b bd ba be bb hi g k x.
      (omega arith, block_together shape (suc h) a b (place_apart h d a e b hi g k x));
}
  where
    one_place : (h d a b : ℕ) → d < 1 → a < addresses → b < addresses → Together F (suc h) a b → place h d a
        ≡ place h d b
    one_place zero d a b bd ba bb t = ap (λ x. 3072 + 64 * (x - 1023))
        (together_block shape 1 a b (omega arith) ba bb t)
    one_place (suc zero) d a b bd ba bb t = ap (λ x. 1024 + 1024 * x) (together_block shape 2 a b (omega arith) ba bb t)
    one_place (suc (suc h)) d a b bd ba bb t = refl

-- The pool holds the rights.

-- The word of a walk, as it stands in the pool.
root_spot : (d a : ℕ) → d < 1 → a < addresses → spot F want place 2 d a ≡ a / 4194304
root_spot d a bd ba = omega arith

middle_spot : (d a : ℕ) → spot F want place 1 d a ≡ 1024 + a / 4096
middle_spot d a = omega arith

leaf_spot : (d a : ℕ) → Gets F want 0 d a → spot F want place 0 d a + 62400 ≡ a / 64
leaf_spot d a g = let r = pages d a g in omega arith

at_leads : (h w k t : ℕ) → after k ≡ w → F.good (suc h) w ≡ true → leads (suc h) w ≡ true → w ≡ t
    → (F.good (suc h) (after k) ≡ true) × (leads (suc h) (after k) ≡ true) × (after k ≡ t)
at_leads h w k t e g l p = (ap (F.good (suc h)) e ∙ g, ap (leads (suc h)) e ∙ l, e ∙ p)

pointers : (h d a : ℕ) → d < 1 → a < addresses → h < 2 → Gets F want h d a
    → (F.good (suc h) (after (spot F want place (suc h) d a)) ≡ true)
    × (leads (suc h) (after (spot F want place (suc h) d a)) ≡ true)
    × (after (spot F want place (suc h) d a) ≡ place h d a)
unfolding after
pointers zero d a bd ba hi g =
    let r = pages d a g in
    elim (ℕ_discrete (a / 4096) 1023) [
      | yes x ↦ at_leads 0 3072 (spot F want place 1 d a) _ (ap after (middle_spot d a ∙ ap (λ n. 1024 + n) x)) refl
          refl (omega arith)
      | no x ↦
          let y : a / 4096 ≡ 1024 = omega arith in
          at_leads 0 3136 (spot F want place 1 d a) _ (ap after (middle_spot d a ∙ ap (λ n. 1024 + n) y)) refl refl
          (omega arith)
    ]
pointers (suc zero) d a bd ba hi g =
    let r = blocks d a g in
    elim (ℕ_discrete (a / 4194304) 0) [
      | yes x ↦ at_leads 1 1024 (spot F want place 2 d a) _ (ap after (root_spot d a bd ba ∙ x)) refl refl (omega arith)
      | no x ↦
          let y : a / 4194304 ≡ 1 = omega arith in
          at_leads 1 2048 (spot F want place 2 d a) _ (ap after (root_spot d a bd ba ∙ y)) refl refl (omega arith)
    ]
pointers (suc (suc h)) d a bd ba hi g = absurd (omega arith)

-- A word that says none, of a block with none of the two words.
says_none : (h d a w : ℕ) → h ≤ 2 → a < addresses → F.good h w ≡ true → leads h w ≡ false
    → ((i : ℕ) → i < parts h → right_at w i ≡ 0)
    → near h (a / block h) ≡ false → Says F h (painted d) a w
says_none h d a w hi ba g l z e = record {
  good = g;
  rights = l;
  each = λ b bb t. z (b / part h % parts h) (number_below h b)
      ∙ sym (quiet h a b e (together_block shape h a b hi ba bb t) d);
}

-- The two leaf entries with a right.
says_two : (d a n w k : ℕ) → a < addresses → a / 64 ≡ n → after k ≡ w
    → pack 0 16 (λ i. painted d (n * 64 + 4 * i + 4 * 0)) ≡ w
    → Says F 0 (painted d) a (after k)
says_two d a n w k ba x e p =
    let r = painted_rights (rounded 0x3FFFFC 8) 2 (λ x. 0) (omega arith) none_rights in
    rw (e ∙ sym p ∙ ap (λ y. pack 0 16 (λ i. painted d (y * 64 + 4 * i + 4 * 0))) (sym x))
    (wants_says shape (painted d) 0 a r (omega arith) ba (wants_leaf (painted d) a))

entries : (h d a : ℕ) → d < 1 → a < addresses → h ≤ 2 → Gets F want h d a → want h d a ≡ false
    → Says F h (painted d) a (after (spot F want place h d a))
unfolding after pack
entries zero d a bd ba hi g e =
    let r = pages d a g in
    let s = leaf_spot d a g in
    elim (ℕ_discrete (a / 64) 65535) [
      | yes x ↦
          let y : spot F want place 0 d a ≡ 3135 = omega arith in
          says_two d a 65535 0x80000000 (spot F want place 0 d a) ba x (ap after y) refl
      | no x ↦ elim (ℕ_discrete (a / 64) 65536) [
        | yes z ↦
            let y : spot F want place 0 d a ≡ 3136 = omega arith in
            says_two d a 65536 2 (spot F want place 0 d a) ba z (ap after y) refl
        | no z ↦
            let y = after_lower (spot F want place 0 d a) (omega arith) (λ u. omega arith) (λ u. omega arith) in
            rw y (says_none 0 d a 0 hi ba refl refl (λ i b. sixteen_right 0 i (omega arith) b) (none x z))
      ]
    ]
  where
    none : a / 64 ≢ 65535 → a / 64 ≢ 65536 → near 0 (a / 64) ≡ false
    none x z = by_cases (near 0 (a / 64)) (λ n. let r = near_range 0 (a / 64) n in absurd (omega arith)) (λ n. n)
entries (suc zero) d a bd ba hi g e =
    let r = blocks d a g in
    let s = middle_spot d a in
    let (x, z) = far 1 (a / 4096) e in
    let y = after_upper (spot F want place 1 d a) (omega arith) (λ u. omega arith) (λ u. omega arith)
    (λ u. omega arith) (λ u. omega arith) in
    rw y (says_none 1 d a 0x80000000 hi ba refl refl (λ i b. eight_right 0 i (omega arith) b) e)
entries (suc (suc zero)) d a bd ba hi g e =
    let s = root_spot d a bd ba in
    let (x, z) = far 2 (a / 4194304) e in
    let y = after_upper (spot F want place 2 d a) (omega arith) (λ u. omega arith) (λ u. omega arith)
    (λ u. omega arith) (λ u. omega arith) in
    rw y (says_none 2 d a 0x80000000 hi ba refl refl (λ i b. eight_right 0 i (omega arith) b) e)
entries (suc (suc (suc h))) d a bd ba hi g e = absurd (omega arith)

encodes : Encodes F want place painted after
encodes = record { leads = pointers; says = entries }

-- The places follow the rules.

module _ (P : ℕ → ℕ) (fresh : (j : ℕ) → P j ≡ cond (ltb j 1024) 0x80000000 0)
    (bare : (d a h t : ℕ) → d < 1 → Led F P d a h t → ⊥) where
  in_order : (h d a b : ℕ) → h < 2 → a < b → place h d a ≤ place h d b
  in_order zero d a b hi lt = omega arith
  in_order (suc zero) d a b hi lt = omega arith
  in_order (suc (suc h)) d a b hi lt = absurd (omega arith)

  -- Below a new table there can only be the first place, which the first of the two words has.
  first_place_lem : (h d a x : ℕ) → h < 2 → Gets F want h d a → Place F h x → x < place h d a → place h 0 0x3FFFFC ≡ x
  first_place_lem zero d a x hi g (w, k, l, t) lt =
      let r = pages d a g in
      let (_, p, b, e) = leads_place shape 0 w k l in
      omega arith
  first_place_lem (suc zero) d a x hi g (w, k, l, t) lt =
      let r = blocks d a g in
      let (_, p, b, e) = leads_place shape 1 w k l in
      omega arith
  first_place_lem (suc (suc h)) d a x hi g q lt = absurd (omega arith)

  -- Every word that changes is one of a walk.
  unchanged : (j : ℕ) → ((h d a : ℕ) → d < 1 → a < addresses → h ≤ 2 → Gets F want h d a → j ≡ spot F want place h d a
      → ⊥) → after j ≡ P j
  unchanged j un = elim (dec_lt j 3072) [
    | yes h ↦ elim (dec_lt j 1024) [
      | yes k ↦ elim (dec_lt j 2) [
        | yes l ↦ absurd (un 2 0 (4194304 * j) (omega arith) (omega arith) (omega arith)
            (λ i lo hi. absurd (omega arith)) (omega arith))
        | no l ↦ after_upper j h (λ e. omega arith) (λ e. omega arith) (λ e. omega arith) (λ e. omega arith)
            ∙ sym (fresh j ∙ ap (λ t. cond t 0x80000000 0) (lt-ltb j 1024 k))
      ]
      | no k ↦ absurd (un 1 0 (4096 * (j - 1024)) (omega arith) (omega arith) (omega arith) (in_block (omega arith) h)
          (omega arith))
    ]
    | no h ↦ after_lower j (omega arith) (λ e. un 0 0 0x3FFFFC (omega arith) (omega arith) (omega arith)
        (covered_gets 0 0 0x3FFFFC refl) e)
        (λ e. un 0 0 0x400000 (omega arith) (omega arith) (omega arith) (covered_gets 0 0 0x400000 refl) e)
        ∙ sym (fresh j ∙ ap (λ t. cond t 0x80000000 0) (le-ltb j 1024 (omega arith)))
  ]
    where
      in_block : 1024 ≤ j → j < 3072 → Gets F want 1 0 (4096 * (j - 1024))
      in_block lo hi i up top =
          let e : i ≡ 2 = omega arith in
          rw e (range_near 2 (4096 * (j - 1024) / 4194304) (omega arith) (omega arith))

  follows : Follows F want place P after
  follows = record {
    keeps = λ h d a s bd ba g l. absurd (bare d a h s bd l);
    order = λ h d a e b bd ba be bb hi f k o. ⊎_elim
        (λ x. absurd (omega arith))
        (λ (x, y). rw x (in_order h e a b hi y)) o;
    lowest = λ h d a x bd ba hi f q lt.
        (0, 0x3FFFFC, omega arith, omega arith, covered_gets h 0 0x3FFFFC refl, first_place_lem h d a x hi f.0 q lt);
    idle = unchanged;
  }

-- What is asked for: the new right on the covered words, and the old one on all others.
pub painted_fresh : (d a : ℕ) → d < 1 → painted d a ≡ cond (covered (rounded 0x3FFFFC 8) a) 2
    (right_of (form_of shape) (words (fresh_pool shape)) d a)
painted_fresh d a bd = ap (λ x. cond (covered (rounded 0x3FFFFC 8) a) 2 x) (sym (fresh_right shape d a bd))

pub two_of_each_finished : Finished (form_of shape) (words (fresh_pool shape)) painted after
two_of_each_finished =
    encodes_finished F (lawful shape) (exact shape) want place tells placing encodes (wanting shape)
    (follows (words (fresh_pool shape)) (fresh_word shape) (fresh_led shape))

-- The tables are new, and where they should be.
abbrev pub MadeAt : ℕ → ℕ → ℕ → Type 0
MadeAt a h t = New (form_of shape) (words (fresh_pool shape)) after 0 a h t

pub two_of_each_made : MadeAt 0x3FFFFC 1 1024 × MadeAt 0x400000 1 2048 × MadeAt 0x3FFFFC 0 3072 × MadeAt 0x400000 0 3136
two_of_each_made = (
  made 1 0x3FFFFC (omega arith) (omega arith) refl,
  made 1 0x400000 (omega arith) (omega arith) refl,
  made 0 0x3FFFFC (omega arith) (omega arith) refl,
  made 0 0x400000 (omega arith) (omega arith) refl,
)
  where
    made : (h a : ℕ) → h < 2 → a < addresses → covered (rounded 0x3FFFFC 8) a ≡ true → MadeAt a h (place h 0 a)
    made h a hi ba e =
        let g = covered_gets h 0 a e in (
          omega arith,
          ba,
          gets_led F (lawful shape) (exact shape) want place tells placing encodes h 0 a (omega arith) ba hi g,
          λ s l. fresh_led shape 0 a h s (omega arith) l,
        )
