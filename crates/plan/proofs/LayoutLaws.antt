-- Laws of a plan in its words: an edge is read back where it was stored, and the words beside it are as they were.
use Prim.Native.Nat.{ℕ, zero, suc, ◌+◌, ◌≤◌, ◌<◌}
use mathlib.Core.Path.{◌≡◌, refl, sym, subst, ap, ◌∙◌}
use mathlib.Core.Logic.{◌≢◌}
use mathlib.Core.Bool.{true, false}
use mathlib.Core.List.{List}
use native.Mathlib.Omega.{arith}
use lib.ListN.{length, get_or, set, length-set}
use lib.Seq.{get_or-set_same, get_or-set_other}
use Rattle.places.specs.Count.{heights}
use Rattle.plan.specs.declared.Edge.{Edge}
use Rattle.plan.specs.declared.Ends.{Ends}
use Rattle.plan.specs.Plan.{edge_word, edge_in, ends_in, paint_in, plan_in, ends_of, put_edge, Beside}

-- Edges with the same words are one edge.
same_words_lem : {e g : Edge} → e.number ≡ g.number → e.old ≡ g.old → e.last ≡ g.last → e ≡ g
same_words_lem p q r = λ i. record { number = p i; old = q i; last = r i }

module _ (l : List ℕ) (i : ℕ) (e : Edge) where
  -- The words with the edge's first word stored, and with two of its words.
  abbrev one : List ℕ
  one = set l i e.number

  abbrev two : List ℕ
  two = set one (i + 1) e.old

  -- A store of an edge leaves as many words ..
  pub length_put : length (put_edge l i e) ≡ length l
  length_put = simp length-set

  -- .. the edge is read back ..
  edge_put : i + 2 < length l → edge_in (put_edge l i e) i ≡ e
  edge_put b = same_words_lem
      (get_or-set_other two (i + 2) i e.last 0 (λ z. omega arith) ∙ get_or-set_other one (i + 1) i e.old 0
      (λ z. omega arith) ∙ get_or-set_same l i e.number 0 (omega arith))
      (get_or-set_other two (i + 2) (i + 1) e.last 0 (λ z. omega arith) ∙ get_or-set_same one (i + 1) e.old 0
      (simp length-set (omega arith)))
      (get_or-set_same two (i + 2) e.last 0 (simp length-set (omega arith)))

  -- .. and the words beside it are as they were.
  other_put : (k : ℕ) → k ≢ i → k ≢ i + 1 → k ≢ i + 2 → get_or (put_edge l i e) k 0 ≡ get_or l k 0
  other_put k x y z = get_or-set_other two (i + 2) k e.last 0 z ∙ get_or-set_other one (i + 1) k e.old 0 y
      ∙ get_or-set_other l i k e.number 0 x

  beside_put : Beside i 3 l (put_edge l i e)
  beside_put = record {
    long = length_put;
    below = λ k b. other_put k (λ z. omega arith) (λ z. omega arith) (λ z. omega arith);
    above = λ k b. other_put k (λ z. omega arith) (λ z. omega arith) (λ z. omega arith);
  }

-- So the words with an edge stored have that edge, and are else as they were.
pub put_told : (l : List ℕ) (i : ℕ) (e : Edge) {m : List ℕ} → m ≡ put_edge l i e → i + 2 < length l
    → (edge_in m i ≡ e) × Beside i 3 l m
put_told l i e p b = (
  ap (λ w. edge_in w i) p ∙ edge_put l i e b,
  subst (Beside i 3 l) (sym p) (beside_put l i e),
)

-- An edge that takes its place stores one word, and leaves those beside its own.
pub beside_set : (l : List ℕ) (i x : ℕ) → Beside i 3 l (set l (i + 2) x)
beside_set l i x = record {
  long = length-set l (i + 2) x;
  below = λ k b. get_or-set_other l (i + 2) k x 0 (λ z. omega arith);
  above = λ k b. get_or-set_other l (i + 2) k x 0 (λ z. omega arith);
}

-- That word is read back, and the edge's others are as they were.
pub edge_set : (l : List ℕ) (i x : ℕ) → i + 2 < length l
    → edge_in (set l (i + 2) x) i ≡ record { number = get_or l i 0; old = get_or l (i + 1) 0; last = x }
edge_set l i x b = same_words_lem (get_or-set_other l (i + 2) i x 0 (λ z. omega arith))
    (get_or-set_other l (i + 2) (i + 1) x 0 (λ z. omega arith))
    (get_or-set_same l (i + 2) x 0 b)

-- Nothing stored leaves all words.
pub beside_none : (i n : ℕ) (l : List ℕ) → Beside i n l l
beside_none i n l = record { long = refl; below = λ k b. refl; above = λ k b. refl }

-- One store after another, both within some words, leaves the words beside these.
pub beside_both : {l m n : List ℕ} {i a j b : ℕ} (k c : ℕ) → k ≤ i → i + a ≤ k + c → k ≤ j → j + b ≤ k + c
    → Beside i a l m → Beside j b m n → Beside k c l n
beside_both k c u v x y p q = record {
  long = q.long ∙ p.long;
  below = λ t z. q.below t (omega arith) ∙ p.below t (omega arith);
  above = λ t z. q.above t (omega arith) ∙ p.above t (omega arith);
}

-- An edge below the words that are stored, or above them, is as it was.
pub edge_below : {l m : List ℕ} {i n : ℕ} (k : ℕ) → k + 3 ≤ i → Beside i n l m → edge_in m k ≡ edge_in l k
edge_below k b s = same_words_lem (s.below k (omega arith)) (s.below (k + 1) (omega arith))
    (s.below (k + 2) (omega arith))

pub edge_above : {l m : List ℕ} {i n : ℕ} (k : ℕ) → i + n ≤ k → Beside i n l m → edge_in m k ≡ edge_in l k
edge_above k b s = same_words_lem (s.above k (omega arith)) (s.above (k + 1) (omega arith))
    (s.above (k + 2) (omega arith))

-- Two edges, as they are read, are the edges of the height.
pub ends_are : (l : List ℕ) (h : ℕ) {a b : Edge} → edge_in l (edge_word h true) ≡ a → edge_in l (edge_word h false) ≡ b
    → ◌≡◌ {A = Ends} (ends_in l h) (record { first = a; last = b })
ends_are l h p q = λ i. record { first = p i; last = q i }

-- The words of the last edge follow those of the first, and all are in the plan.
pub last_after : (h : ℕ) → edge_word h false ≡ edge_word h true + 3
last_after zero = refl
last_after (suc h) = refl

pub first_low : (h : ℕ) → (4 ≤ edge_word h true) × (edge_word h true ≤ 10)
first_low zero = (omega arith, omega arith)
first_low (suc h) = (omega arith, omega arith)

-- The edges that the plan of the words has are those that are read.
pub ends_in_lem : (l : List ℕ) (h : ℕ) → ends_of (plan_in l) h ≡ ends_in l h
ends_in_lem l zero = refl
ends_in_lem l (suc h) = refl

-- A height that is planned leaves the edges of another ..
pub ends_beside : {l m : List ℕ} (h g : ℕ) → h < heights → g < heights → g ≢ h → Beside (edge_word h true) 6 l m
    → ends_in m g ≡ ends_in l g
ends_beside {l} {m} zero zero x y z s = absurd (z refl)
ends_beside {l} {m} zero (suc g) x y z s = ends_are m 1 (edge_below 4 (omega arith) s) (edge_below 7 (omega arith) s)
ends_beside {l} {m} (suc h) zero x y z s = ends_are m 0 (edge_above 10 (omega arith) s) (edge_above 13 (omega arith) s)
ends_beside {l} {m} (suc h) (suc g) x y z s = absurd (z (omega arith))

-- .. and the domain and the paint.
pub domain_beside : {l m : List ℕ} (h : ℕ) → Beside (edge_word h true) 6 l m → get_or m 0 0 ≡ get_or l 0 0
domain_beside h s = let (x, _) = first_low h in s.below 0 (omega arith)

pub paint_beside : {l m : List ℕ} (h : ℕ) → Beside (edge_word h true) 6 l m → paint_in m ≡ paint_in l
paint_beside h s =
    let (x, _) = first_low h in
    let p = s.below 1 (omega arith) in
    let q = s.below 2 (omega arith) in
    let r = s.below 3 (omega arith) in
    λ i. record { lo = p i; hi = q i; right = r i }
