-- The finished pool of a change that makes one middle table in a fresh pool, and one leaf if it must. The region lies
-- in one entry: of a leaf (`low` is 0) or of the middle table (`low` is 1). `a0` is an address of it, and `w` the word
-- of that entry.
use Prim.Native.Nat.{ℕ, zero, suc, ◌+◌, ◌*◌, ◌-◌, ◌/◌, ◌%◌, ◌≤◌, ◌<◌}
use mathlib.Core.Path.{◌≡◌, refl, sym, ap, ◌∙◌}
use mathlib.Core.Logic.{◌≢◌, ◌⊎◌, inl, ⊎_elim}
use mathlib.Core.Bool.{Bool, true, false, cond, ◌&&◌, true≢false}
use native.Mathlib.Omega.{arith}
use native.Mathlib.Decide.{ℕ_discrete, dec_lt}
use lib.Dec.{eqb, ltb}
use borrow.Author.Tests.{eq-eqb, ne_eqb, eqb-true, lt-ltb, le-ltb, ltb-true}
use Rattle.theory.specs.Form.{Form}
use Rattle.theory.specs.Pool.{words}
use Rattle.theory.specs.Settled.{Says}
use Rattle.theory.specs.Finished.{Place, Finished}
use Rattle.theory.proofs.Logic.{by_cases, and_both}
use Rattle.theory.proofs.Encodes.{TellsWants, Gets, spot, Placing, Encodes, Follows}
use Rattle.theory.proofs.EncodesLaws.{encodes_finished}
use Rattle.words.specs.Rights.{right_at, good_rights}
use Rattle.words.proofs.RightsLaws.{eight_right, sixteen_right}
use Rattle.table.specs.Map.{addresses, block, part, parts, index, leads, Divided, form_of}
use Rattle.table.specs.Fresh.{fresh_pool}
use Rattle.table.proofs.BlockLaws.{block_above, block_together, together_block, part_in_block, part_above}
use Rattle.table.proofs.BlockLaws.{number_below}
use Rattle.table.proofs.FormLaws.{leads_place, place_leads, lawful, exact}
use Rattle.table.proofs.WantLaws.{divided_unsaid, wanting}
use Rattle.table.proofs.FreshWordLaws.{fresh_word}
use Rattle.benchmarks.specs.Rows.{shape}
use Rattle.benchmarks.proofs.FlatLaws.{flat_led}

-- What the region and the rights are to one another.
pub record OnePage (L low : ℕ) (R : ℕ → ℕ) (a0 c0 w : ℕ) : Type 0 where
  pub lowest : low < 2
  pub room : low ≡ 0 → 1 ≤ L
  pub inside : a0 < addresses
  pub beside : c0 < addresses
  -- Off the entry there is no right,
  pub quiet : (b : ℕ) → b < addresses → b / block low ≢ a0 / block low → R b ≡ 0
  -- the entry says those of its block,
  pub said : Says (form_of (shape 1 L)) low R a0 w
  -- and in the sub-block above it there are two.
  pub together : a0 / part (suc low) ≡ c0 / part (suc low)
  pub differ : R a0 ≢ R c0

-- The finished pool: a root word leads to the middle table, which leads to the leaf where there is one.
unfoldable pub after : (low a0 w : ℕ) → ℕ → ℕ
after low a0 w j =
    cond (eqb j (index 2 a0)) 1024 (cond (eqb j (1024 + index 1 a0)) (cond (eqb low 0) 2048 w)
    (cond (eqb j (2048 + index 0 a0)) (cond (eqb low 0) w 0) (cond (ltb j 2048) 0x80000000 0)))

-- Its words.
module _ (low a0 w : ℕ) where
  pub at_root : after low a0 w (index 2 a0) ≡ 1024
  unfolding after
  at_root = rw (eq-eqb (index 2 a0) (index 2 a0) refl)

  pub at_middle : after low a0 w (1024 + index 1 a0) ≡ cond (eqb low 0) 2048 w
  unfolding after
  at_middle =
      rw (
        ne_eqb (1024 + index 1 a0) (index 2 a0) (λ e. omega arith),
        eq-eqb (1024 + index 1 a0) (1024 + index 1 a0) refl,
      )

  at_leaf : after low a0 w (2048 + index 0 a0) ≡ cond (eqb low 0) w 0
  unfolding after
  at_leaf =
      rw (
        ne_eqb (2048 + index 0 a0) (index 2 a0) (λ e. omega arith),
        ne_eqb (2048 + index 0 a0) (1024 + index 1 a0) (λ e. omega arith),
        eq-eqb (2048 + index 0 a0) (2048 + index 0 a0) refl,
      )

  elsewhere : (j : ℕ) → j ≢ index 2 a0 → j ≢ 1024 + index 1 a0 → j ≢ 2048 + index 0 a0
      → after low a0 w j ≡ cond (ltb j 2048) 0x80000000 0
  unfolding after
  elsewhere j x y z = rw (ne_eqb j (index 2 a0) x, ne_eqb j (1024 + index 1 a0) y, ne_eqb j (2048 + index 0 a0) z)

-- The other root words say none.
pub after_root : (low a0 w j : ℕ) → j < 1024 → j ≢ index 2 a0 → after low a0 w j ≡ 0x80000000
after_root low a0 w j h e =
    elsewhere low a0 w j e (λ t. omega arith) (λ t. omega arith)
    ∙ ap (λ t. cond t 0x80000000 0) (lt-ltb j 2048 (omega arith))

-- The other words of the middle table do too.
pub after_middle : (low a0 w j : ℕ) → 1024 ≤ j → j < 2048 → j ≢ 1024 + index 1 a0 → after low a0 w j ≡ 0x80000000
after_middle low a0 w j lo hi e = elsewhere low a0 w j (λ t. omega arith) e (λ t. omega arith)
    ∙ ap (λ t. cond t 0x80000000 0) (lt-ltb j 2048 hi)

-- Past the pool there is nothing.
pub after_past : {L low : ℕ} {R : ℕ → ℕ} {a0 c0 w : ℕ} → OnePage L low R a0 c0 w → (j : ℕ) → 2048 + 64 * L ≤ j
    → after low a0 w j ≡ 0
after_past {L} {low} {R} {a0} {c0} {w} o j h = elim (ℕ_discrete j (2048 + index 0 a0)) [
  | yes e ↦ rw e (at_leaf low a0 w ∙ ap (λ t. cond t w 0) (ne_eqb low 0 (λ z. let k = o.room z in omega arith)))
  | no e ↦ elsewhere low a0 w j (λ t. omega arith) (λ t. omega arith) e
      ∙ ap (λ t. cond t 0x80000000 0) (le-ltb j 2048 (omega arith))
]

-- An address is known by its block one height up and its index.
from_page : (a : ℕ) → a / 64 ≡ a / 4096 * 64 + a / 64 % 64
from_page a = omega arith

from_block : (a : ℕ) → a / 4096 ≡ a / 4194304 * 1024 + a / 4096 % 1024
from_block a = omega arith

from_top : (a : ℕ) → a < addresses → a / 4194304 ≡ a / 4194304 % 1024
from_top a h = omega arith

module _ {L low : ℕ} {R : ℕ → ℕ} {a0 c0 w : ℕ} (o : OnePage L low R a0 c0 w) where
  abbrev F : Form
  F = form_of (shape 1 L)

  -- The block of height `h` around `a` is the one that has the entry.
  abbrev near : ℕ → ℕ → Bool
  near h a = eqb (a / block h) (a0 / block h)

  -- One that is not has no right.
  block_quiet : (h a b : ℕ) → low ≤ h → h ≤ 2 → b < addresses → near h a ≡ false → a / block h ≡ b / block h
      → R b ≡ 0
  block_quiet h a b lo hi bb e x =
      o.quiet b bb
      (λ z. true≢false (sym (eq-eqb (a / block h) (a0 / block h) (x ∙ block_above h low b a0 lo hi z)) ∙ e))

  -- Which blocks want a table: those above the entry.
  abbrev want : ℕ → ℕ → ℕ → Bool
  want h d a = ltb low h && near h a

  want_yes : (h d a : ℕ) → want h d a ≡ true → (low < h) × (a / block h ≡ a0 / block h)
  want_yes h d a e =
      let (x, y) = and_both (ltb low h) (near h a) e in
      (ltb-true low h x, eqb-true (a / block h) (a0 / block h) y)

  yes_want : (h d a : ℕ) → low < h → a / block h ≡ a0 / block h → want h d a ≡ true
  yes_want h d a x y = rw (lt-ltb low h x, eq-eqb (a / block h) (a0 / block h) y) refl

  said_whole : (h a : ℕ) → h ≡ low → a / block h ≡ a0 / block h → Divided (block h) (part h) R a → ⊥
  said_whole h a q n (b, c, bb, bc, e, f, z) =
      divided_unsaid (shape 1 L) h a0 w R (b, c, bb, bc, e ∙ n, f, z) (rw (← q) at o.said)

  divided_want : (h d a : ℕ) → h < 2 → Divided (block (suc h)) (part (suc h)) R a → want (suc h) d a ≡ true
  divided_want h d a hi (b, c, bb, bc, e, f, z) =
      let k = o.lowest in
      by_cases (near (suc h) a)
      (λ n.
      let m = eqb-true (a / block (suc h)) (a0 / block (suc h)) n in
      elim (dec_lt low (suc h)) [
        | yes x ↦ yes_want (suc h) d a x m
        | no x ↦ absurd (said_whole (suc h) a (omega arith) m (b, c, bb, bc, e, f, z))
      ])
      (λ n. absurd (z (block_quiet (suc h) a b (omega arith) hi bb n (sym e)
      ∙ sym (block_quiet (suc h) a c (omega arith) hi bc n (sym e ∙ part_in_block (suc h) b c f)))))

  two_rights : (h : ℕ) → low ≤ h → h < 2 → a0 / part (suc h) ≡ c0 / part (suc h)
  two_rights h lo hi = elim (ℕ_discrete low h) [
    | yes e ↦ rw (← e) o.together
    | no n ↦ (let e : suc low ≡ h = omega arith in rw (← e) (part_above (suc low) a0 c0 (omega arith) o.together))
  ]

  tells : TellsWants F want (λ d. R)
  tells = record {
    last = λ d a bd ba. rw (le-ltb low 0 (omega arith)) refl;
    is = λ h d a bd ba hi x. divided_want h d a hi x;
    are = λ h d a bd ba hi e.
        let (x, y) = want_yes (suc h) d a e in
        (a0, c0, o.inside, o.beside, sym y, two_rights h (omega arith) hi, o.differ);
  }

  -- Where the tables stand.
  abbrev place : ℕ → ℕ → ℕ → ℕ
  place zero d a = 2048
  place (suc zero) d a = 1024
  place (suc (suc h)) d a = 1024 * d

  one_place : (h d a b : ℕ) → place h d a ≡ place h d b
  one_place zero d a b = refl
  one_place (suc zero) d a b = refl
  one_place (suc (suc h)) d a b = refl

  placing : Placing F want place
  placing = record {
    root = λ d a bd ba. refl;
    block = λ h d a b bd ba bb t. one_place h d a b;
    apart = λ h d a e b bd ba be bb hi g k x. (
      omega arith,
      block_together (shape 1 L) (suc h) a b
          ((want_yes (suc h) d a (g (suc h) (omega arith) hi)).1
          ∙ sym (want_yes (suc h) e b (k (suc h) (omega arith) hi)).1),
    );
  }

  -- The pool holds the rights.
  abbrev Q : ℕ → ℕ
  Q = after low a0 w

  at_leads : (h v k t : ℕ) → Q k ≡ v → F.good (suc h) v ≡ true → leads (suc h) v ≡ true → v ≡ t
      → (F.good (suc h) (Q k) ≡ true) × (leads (suc h) (Q k) ≡ true) × (Q k ≡ t)
  at_leads h v k t e g l p = (ap (F.good (suc h)) e ∙ g, ap (leads (suc h)) e ∙ l, e ∙ p)

  pointers : (h d a : ℕ) → d < 1 → a < addresses → h < 2 → Gets F want h d a
      → (F.good (suc h) (Q (spot F want place (suc h) d a)) ≡ true)
      × (leads (suc h) (Q (spot F want place (suc h) d a)) ≡ true)
      × (Q (spot F want place (suc h) d a) ≡ place h d a)
  pointers zero d a bd ba hi g =
      let (lo, e) = want_yes 1 d a (g 1 (omega arith) (omega arith)) in
      let z : low ≡ 0 = omega arith in
      let (x, y) = place_leads (shape 1 L) 0 0 hi (o.room z) (omega arith) in
      at_leads 0 2048 (spot F want place 1 d a) 2048
      (ap (λ n. Q (1024 + n % 1024)) e ∙ at_middle low a0 w ∙ ap (λ t. cond t 2048 w) (eq-eqb low 0 z)) x y refl
  pointers (suc zero) d a bd ba hi g =
      let (lo, e) = want_yes 2 d a (g 2 (omega arith) (omega arith)) in
      let z : 1024 * d + a / 4194304 % 1024 ≡ a / 4194304 % 1024 = omega arith in
      at_leads 1 1024 (spot F want place 2 d a) 1024
      (ap Q z ∙ ap (λ n. Q (n % 1024)) e ∙ at_root low a0 w) refl refl refl
  pointers (suc (suc h)) d a bd ba hi g = absurd (omega arith)

  says_none : (h a v : ℕ) → low ≤ h → h ≤ 2 → a < addresses → F.good h v ≡ true → leads h v ≡ false
      → ((i : ℕ) → i < parts h → right_at v i ≡ 0) → near h a ≡ false → Says F h R a v
  says_none h a v lo hi ba g l z e = record {
    good = g;
    rights = l;
    each = λ b bb t. z (b / part h % parts h) (number_below h b)
        ∙ sym (block_quiet h a b lo hi bb e (together_block (shape 1 L) h a b hi ba bb t));
  }

  says_there : (h a : ℕ) → h ≡ low → h ≤ 2 → a < addresses → a / block h ≡ a0 / block h → Says F h R a w
  says_there h a q hi ba e =
      let s : Says F h R a0 w = rw (← q) at o.said in
      record {
        good = s.good;
        rights = s.rights;
        each = λ b bb t. s.each b bb (block_together (shape 1 L) h a0 b (sym e
            ∙ together_block (shape 1 L) h a b hi ba bb t));
      }

  -- Of a block that has not the entry, though the one above it has.
  far : (h a : ℕ) → near h a ≡ false → a / block h ≢ a0 / block h
  far h a e x = true≢false (sym (eq-eqb (a / block h) (a0 / block h) x) ∙ e)

  entries : (h d a : ℕ) → d < 1 → a < addresses → h ≤ 2 → Gets F want h d a → want h d a ≡ false
      → Says F h R a (Q (spot F want place h d a))
  entries zero d a bd ba hi g n =
      let (lo, e) = want_yes 1 d a (g 1 (omega arith) (omega arith)) in
      let z : low ≡ 0 = omega arith in
      by_cases (near 0 a)
      (λ x.
      let y = eqb-true (a / 64) (a0 / 64) x in
      rw (ap (λ i. Q (2048 + i % 64)) y ∙ at_leaf low a0 w ∙ ap (λ t. cond t w 0) (eq-eqb low 0 z))
      (says_there 0 a (sym z) hi ba y))
      (λ x.
      let y = far 0 a x in
      let u = from_page a in
      let v = from_page a0 in
      rw (elsewhere low a0 w (2048 + index 0 a) (λ t. omega arith) (λ t. omega arith) (λ t. omega arith)
      ∙ ap (λ t. cond t 0x80000000 0) (le-ltb (2048 + index 0 a) 2048 (omega arith)))
      (says_none 0 a 0 (omega arith) hi ba refl refl (λ i b. sixteen_right 0 i (omega arith) b) x))
  entries (suc zero) d a bd ba hi g n =
      let (lo, e) = want_yes 2 d a (g 2 (omega arith) (omega arith)) in
      let k = o.lowest in
      by_cases (near 1 a)
      (λ x.
      let y = eqb-true (a / 4096) (a0 / 4096) x in
      let z : low ≢ 0 = λ q. true≢false (sym (yes_want 1 d a (omega arith) y) ∙ n) in
      rw (ap (λ i. Q (1024 + i % 1024)) y ∙ at_middle low a0 w ∙ ap (λ t. cond t 2048 w) (ne_eqb low 0 z))
      (says_there 1 a (omega arith) hi ba y))
      (λ x.
      let y = far 1 a x in
      let u = from_block a in
      let v = from_block a0 in
      rw (elsewhere low a0 w (1024 + index 1 a) (λ t. omega arith) (λ t. omega arith) (λ t. omega arith)
      ∙ ap (λ t. cond t 0x80000000 0) (lt-ltb (1024 + index 1 a) 2048 (omega arith)))
      (says_none 1 a 0x80000000 (omega arith) hi ba refl refl (λ i b. eight_right 0 i (omega arith) b) x))
  entries (suc (suc zero)) d a bd ba hi g n =
      let k = o.lowest in
      let x : near 2 a ≡ false = by_cases (near 2 a)
      (λ q. absurd (true≢false (sym (yes_want 2 d a (omega arith) (eqb-true (a / 4194304) (a0 / 4194304) q)) ∙ n)))
      (λ q. q) in
      let y = far 2 a x in
      let u = from_top a ba in
      let v = from_top a0 o.inside in
      rw (elsewhere low a0 w (1024 * d + index 2 a) (λ t. omega arith) (λ t. omega arith) (λ t. omega arith)
      ∙ ap (λ t. cond t 0x80000000 0) (lt-ltb (1024 * d + index 2 a) 2048 (omega arith)))
      (says_none 2 a 0x80000000 (omega arith) hi ba refl refl (λ i b. eight_right 0 i (omega arith) b) x)
  entries (suc (suc (suc h))) d a bd ba hi g n = absurd (omega arith)

  encodes : Encodes F want place (λ d. R) Q
  encodes = record { leads = pointers; says = entries }

  -- The places follow the rules.
  abbrev P : ℕ → ℕ
  P = words (fresh_pool (shape 1 L))

  in_order : (h d a e b : ℕ) → h < 2 → place h d a ≤ place h e b
  in_order zero d a e b hi = omega arith
  in_order (suc zero) d a e b hi = omega arith
  in_order (suc (suc h)) d a e b hi = absurd (omega arith)

  none_below : (h d a x : ℕ) → h < 2 → Place F h x → x < place h d a → ⊥
  none_below zero d a x hi (v, k, l, t) lt = let (_, p, b, e) = leads_place (shape 1 L) 0 v k l in omega arith
  none_below (suc zero) d a x hi (v, k, l, t) lt = let (_, p, b, e) = leads_place (shape 1 L) 1 v k l in omega arith
  none_below (suc (suc h)) d a x hi q lt = omega arith

  fresh_low : (j : ℕ) → j < 1024 → P j ≡ 0x80000000
  fresh_low j h = fresh_word (shape 1 L) j ∙ ap (λ t. cond t 0x80000000 0) (lt-ltb j 1024 h)

  fresh_high : (j : ℕ) → 1024 ≤ j → P j ≡ 0
  fresh_high j h = fresh_word (shape 1 L) j ∙ ap (λ t. cond t 0x80000000 0) (le-ltb j 1024 h)

  gets_entry : (h d : ℕ) → low ≤ h → Gets F want h d a0
  gets_entry h d lo i up hi = yes_want i d a0 (omega arith) refl

  -- A word where no walk comes is as it was.
  unchanged : (j : ℕ)
      → ((h d a : ℕ) → d < 1 → a < addresses → h ≤ 2 → Gets F want h d a → j ≡ spot F want place h d a → ⊥)
      → Q j ≡ P j
  unchanged j un = elim (dec_lt j 1024) [
    | yes x ↦ elim (ℕ_discrete j (index 2 a0)) [
      | yes e ↦ absurd (un 2 0 a0 (omega arith) o.inside (omega arith) (λ i lo hi. absurd (omega arith))
          (omega arith))
      | no e ↦ after_root low a0 w j x e ∙ sym (fresh_low j x)
    ]
    | no x ↦ elim (dec_lt j 2048) [
      | yes y ↦ absurd (un 1 0 (a0 / 4194304 * 4194304 + 4096 * (j - 1024)) (omega arith)
          (let k = o.inside in omega arith) (omega arith) (in_block (omega arith) y) (omega arith))
      | no y ↦ elim (ℕ_discrete j (2048 + index 0 a0)) [
        | yes e ↦ elim (ℕ_discrete low 0) [
          | yes z ↦ absurd (un 0 0 a0 (omega arith) o.inside (omega arith) (gets_entry 0 0 (omega arith)) e)
          | no z ↦ rw e (at_leaf low a0 w ∙ ap (λ t. cond t w 0) (ne_eqb low 0 z)
              ∙ sym (fresh_high (2048 + index 0 a0) (omega arith)))
        ]
        | no e ↦ elsewhere low a0 w j (λ t. omega arith) (λ t. omega arith) e
            ∙ ap (λ t. cond t 0x80000000 0) (le-ltb j 2048 (omega arith))
            ∙ sym (fresh_high j (omega arith))
      ]
    ]
  ]
    where
      in_block : 1024 ≤ j → j < 2048 → Gets F want 1 0 (a0 / 4194304 * 4194304 + 4096 * (j - 1024))
      in_block lo hi i up top =
          let e : i ≡ 2 = omega arith in
          let k = o.lowest in
          rw e (yes_want 2 0 (a0 / 4194304 * 4194304 + 4096 * (j - 1024)) k (omega arith))

  -- From a pool whose root leads nowhere, each of whose words is as in the fresh pool or as it will be.
  module _ (X : ℕ → ℕ) (flat : (j : ℕ) → j < 1024 → good_rights (X j) ≡ true)
      (each : (j : ℕ) → (X j ≡ P j) ⊎ (X j ≡ Q j)) where
    follows : Follows F want place X Q
    follows = record {
      keeps = λ h d a s bd ba g l. absurd (flat_led (shape 1 L) X flat d a h s bd l);
      order = λ h d a e b bd ba be bb hi f k x. in_order h d a e b hi;
      lowest = λ h d a x bd ba hi f q lt. absurd (none_below h d a x hi q lt);
      idle = λ j un. ⊎_elim (λ e. unchanged j un ∙ sym e) (λ e. sym e) (each j);
    }

    pub page_finished_from : Finished F X (λ d. R) Q
    page_finished_from =
        encodes_finished F (lawful (shape 1 L)) (exact (shape 1 L)) want place tells placing encodes (wanting
        (shape 1 L)) follows

  pub page_finished : Finished F P (λ d. R) Q
  page_finished = page_finished_from P (λ j h. rw (fresh_low j h) refl) (λ j. inl refl)
