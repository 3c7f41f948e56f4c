-- A list whose regions are disjoint stays so: through making, passing on and giving an export. A region made shares no
-- word with one held, and one stored over another holds the same words.
use Prim.Native.Nat.{ℕ, ◌≤◌, ◌<◌, min, max}
use mathlib.Core.Path.{◌≡◌, refl, sym, ap, ◌∙◌}
use mathlib.Core.Bool.{true, false, ◌&&◌, true≢false}
use mathlib.Core.List.{List}
use native.Mathlib.Omega.{arith}
use native.Mathlib.Decide.{dec_lt, ℕ_discrete}
use borrow.Author.Tests.{eqb-true, ltb-true, lt-ltb}
use lib.Dec.{ltb, leb}
use lib.ListN.{length}
use Rattle.theory.proofs.Logic.{and_both}
use Rattle.words.specs.declared.Region.{Region}
use Rattle.owners.specs.declared.Owned.{Owned}
use Rattle.owners.specs.Regions.{list_long, max_regions, region_at, count_of, holds, place_of, Disjoint}
use Rattle.owners.specs.Calls.{Outcome, meets, same_words, fresh_region, put_at, added, with_export}
use Rattle.owners.specs.Calls.{make_of, pass_of, give_of}
use Rattle.owners.proofs.PlaceLaws.{place_at, place_before}
use Rattle.owners.proofs.ReachLaws.{held_word, word_held}
use Rattle.owners.proofs.CallLaws.{owned_held}
use Rattle.owners.proofs.StoreLaws.{put_same, put_other, put_count, added_count, added_last, added_other}
use Rattle.owners.proofs.OutcomeLaws.{Ends, kept, done, Made, Owns, make_ends, pass_ends}
use Rattle.owners.proofs.OutcomeLaws.{give_ends}

-- Regions meet exactly where they share a word.
pub apart_word : (a : Region) (r : Owned) (w : ℕ) → meets a r ≡ false → a.lo ≤ w → w < a.hi → holds w r ≡ true → ⊥
apart_word a r w m g h e =
    let p = held_word r w e in
    true≢false (sym (lt-ltb (max a.lo r.lo) (min a.hi r.hi) (omega arith)) ∙ m)

pub shared_word : (a : Region) (r : Owned) → meets a r ≡ true
    → (w : ℕ) × (a.lo ≤ w) × (w < a.hi) × (holds w r ≡ true)
shared_word a r m =
    let b = ltb-true (max a.lo r.lo) (min a.hi r.hi) m in
    (max a.lo r.lo, omega arith, omega arith, word_held r (max a.lo r.lo) (omega arith) (omega arith))

-- A region that meets none has none of their words.
pub apart_all : (list : List ℕ) (a : Region) → count_of list ≤ place_of list (meets a) → (j w : ℕ) → j < count_of list
    → a.lo ≤ w → w < a.hi → holds w (region_at list j) ≡ true → ⊥
apart_all list a m j w h = apart_word a (region_at list j) w (place_before list (meets a) j (omega arith))

-- The region found has exactly the words asked for.
pub found_words : (list : List ℕ) (a : Region) (owner : ℕ) → place_of list (same_words a) < count_of list → (w : ℕ)
    → holds w (fresh_region owner a) ≡ holds w (region_at list (place_of list (same_words a)))
found_words list a owner h w =
    let r = region_at list (place_of list (same_words a)) in
    let (s, t) = and_both _ _ (place_at list (same_words a) h) in
    let lo = eqb-true r.lo a.lo s in
    let hi = eqb-true r.hi a.hi t in
    ap (λ x. leb x w && ltb w a.hi) (sym lo) ∙ ap (λ x. leb r.lo w && ltb w x) (sym hi)

-- A region stored over one of the same words: as disjoint as before.
put_disjoint : (list : List ℕ) (k : ℕ) (r : Owned) → length list ≡ list_long → k < count_of list
    → count_of list ≤ max_regions → ((w : ℕ) → holds w r ≡ holds w (region_at list k)) → Disjoint list
    → Disjoint (put_at list k r)
put_disjoint list k r long h few e d i j w g b p q =
    let n = put_count list k r (omega arith) in
    d i j w (omega arith) (omega arith) (sym (same i) ∙ p) (sym (same j) ∙ q)
  where
    same : (x : ℕ) → holds w (region_at (put_at list k r) x) ≡ holds w (region_at list x)
    same x = elim (ℕ_discrete x k) [
      | yes z ↦ rw z (ap (holds w) (put_same list k r (omega arith)) ∙ e w)
      | no z ↦ ap (holds w) (put_other list k r x z)
    ]

made_disjoint : (list : List ℕ) (caller owner : ℕ) (after : List ℕ) → Made list caller owner after → Disjoint list
    → Disjoint after
made_disjoint list caller owner after m d = rw m.now_is (λ i j w g h p q.
    let n = added_count list r m.long m.room in
    elim (dec_lt i (count_of list)) [
      | yes x ↦ elim (dec_lt j (count_of list)) [
        | yes y ↦ d i j w x y (old i w x p) (old j w y q)
        | no y ↦ absurd (new_old j i w (omega arith) x q p)
      ]
      | no x ↦ elim (dec_lt j (count_of list)) [
        | yes y ↦ absurd (new_old i j w (omega arith) y p q)
        | no y ↦ omega arith
      ]
    ])
  where
    r : Owned
    r = fresh_region owner m.words

    old : (i w : ℕ) → i < count_of list → holds w (region_at (added list r) i) ≡ true → holds w (region_at list i) ≡ true
    old i w h e = ap (holds w) (sym (added_other list r m.long m.room i h)) ∙ e

    new_old : (i j w : ℕ) → i ≡ count_of list → j < count_of list → holds w (region_at (added list r) i) ≡ true
        → holds w (region_at (added list r) j) ≡ true → ⊥
    new_old i j w z h p q =
        let s : holds w r ≡ true = ap (holds w) (sym (added_last list r m.long m.room))
        ∙ ap (λ x. holds w (region_at (added list r) x)) (sym z) ∙ p in
        let b = held_word r w s in
        apart_all list m.words m.apart j w h b.0 b.1 (old j w h q)

-- A region stored by its owner over one of the same words.
owns_disjoint : (list : List ℕ) (caller : ℕ) (a : Region) → Owns list caller a → (r : Owned)
    → ((w : ℕ) → holds w r ≡ holds w (region_at list (place_of list (same_words a)))) → Disjoint list
    → Disjoint (put_at list (place_of list (same_words a)) r)
owns_disjoint list caller a o r =
    put_disjoint list (place_of list (same_words a)) r o.long (owned_held list caller _ o.owned) o.few

ends_disjoint : {list : List ℕ} {Done : List ℕ → Type 0} {x : Outcome}
    → ((after : List ℕ) → Done after → Disjoint list → Disjoint after)
    → Ends list Done x → Disjoint list → Disjoint x.list
ends_disjoint f (kept k) d = d
ends_disjoint f (done after m) d = f after m d

module _ (D : ℕ) (list : List ℕ) (caller other start len : ℕ) (disjoint : Disjoint list) where
  pub make_stays_disjoint : Disjoint (make_of D list caller other start len).list
  make_stays_disjoint = ends_disjoint (made_disjoint list caller other) (make_ends D list caller other start len)
      disjoint

  pub pass_stays_disjoint : Disjoint (pass_of D list caller other start len).list
  pass_stays_disjoint = ends_disjoint
      (λ after m d. rw m.now_is (owns_disjoint list caller m.words m.owns (fresh_region other m.words)
      (found_words list m.words other (owned_held list caller _ m.owns.owned)) d))
      (pass_ends D list caller other start len) disjoint

  pub give_stays_disjoint : (right : ℕ) → Disjoint (give_of D list caller other right start len).list
  give_stays_disjoint right = ends_disjoint
      (λ after m d. rw m.now_is (owns_disjoint list caller m.words m.owns
      (with_export (region_at list (place_of list (same_words m.words))) other right) (λ w. refl) d))
      (give_ends D list caller other start len right) disjoint
