-- How many words differ: none in a pool from itself, and one more after a store that changes a word that was as it
-- had been.
use Prim.Native.Nat.{ℕ, zero, suc, ◌≤◌, ◌<◌}
use mathlib.Core.Path.{◌≡◌, refl, sym, ◌∙◌}
use mathlib.Core.Logic.{◌≢◌, ◌⊎◌, ⊎_elim}
use mathlib.Core.Bool.{Bool, true, false, cond}
use mathlib.Core.List.{List, [], ◌∷◌}
use native.Mathlib.Omega.{arith}
use native.Mathlib.Nat.{le_of_suc-le-suc}
use native.Mathlib.Decide.{ℕ_discrete}
use lib.Dec.{eqb}
use lib.ListN.{length, get_or, set}
use borrow.Author.Tests.{eq-eqb, ne_eqb}
use Rattle.change.specs.Cuts.{differing}

pub differing_self : (p : List ℕ) → differing p p ≡ 0
unfolding differing
differing_self [] = refl
differing_self (x ∷ p) = rw (eq-eqb x x refl, differing) (differing_self p)

pub differing_set : (old x : List ℕ) (k v : ℕ) → length x ≡ length old → k < length x → get_or x k 0 ≡ get_or old k 0
    → v ≢ get_or old k 0
    → differing old (set x k v) ≡ suc (differing old x)
unfolding differing
differing_set [] [] k v l h e n = absurd (omega arith)
differing_set [] (y ∷ x) k v l h e n = absurd (omega arith)
differing_set (o ∷ old) [] k v l h e n = absurd (omega arith)
differing_set (o ∷ old) (y ∷ x) zero v l h e n = rw (ne_eqb o v (λ z. n (sym z)), eq-eqb o y (sym e), differing) refl
differing_set (o ∷ old) (y ∷ x) (suc k) v l h e n =
    rw (differing, differing_set old x k v (omega arith) (le_of_suc-le-suc h) e n) (go (eqb o y))
  where
    go : (b : Bool) → cond b (suc (differing old x)) (suc (suc (differing old x)))
        ≡ suc (cond b (differing old x) (suc (differing old x)))
    go true = refl
    go false = refl

-- A word of `x` that is the old one or that of `q` differs from the old one only where that of `q` does.
module _ (o y w : ℕ) (e : (y ≡ o) ⊎ (y ≡ w)) where
  one_less : (m n : ℕ) → m ≤ n → cond (eqb o y) m (suc m) ≤ cond (eqb o w) n (suc n)
  one_less m n h = elim (ℕ_discrete o y) [
    | yes p ↦ rw (eq-eqb o y p) (elim (ℕ_discrete o w) [
      | yes q ↦ rw (eq-eqb o w q) h
      | no q ↦ rw (ne_eqb o w q)
          (omega arith)
    ])
    | no p ↦ rw (ne_eqb o y p, ne_eqb o w (λ q. p (⊎_elim (λ z. sym z) (λ z. q ∙ sym z) e))) (omega arith)
  ]

  one_more : (m n : ℕ) → w ≢ y → m ≤ n → cond (eqb o y) m (suc m) < cond (eqb o w) n (suc n)
  one_more m n d h =
      let z : y ≡ o = ⊎_elim (λ q. q) (λ q. absurd (d (sym q))) e in
      rw (eq-eqb o y (sym z), ne_eqb o w (λ q. d (sym q ∙ sym z))) (omega arith)

-- Between `old` and `q` no more words differ than at `q` ..
pub differing_most : (old x q : List ℕ) → length x ≡ length old → length q ≡ length old
    → ((j : ℕ) → (get_or x j 0 ≡ get_or old j 0) ⊎ (get_or x j 0 ≡ get_or q j 0)) → differing old x ≤ differing old q
unfolding differing
differing_most [] x q a b e = omega arith
differing_most (o ∷ old) [] q a b e = absurd (omega arith)
differing_most (o ∷ old) (y ∷ x) [] a b e = absurd (omega arith)
differing_most (o ∷ old) (y ∷ x) (w ∷ q) a b e =
    one_less o y w (e 0) (differing old x) (differing old q)
    (differing_most old x q (omega arith) (omega arith) (λ j. e (suc j)))

-- .. and fewer where some word has not come there.
pub differing_less : (old x q : List ℕ) (k : ℕ) → length x ≡ length old → length q ≡ length old
    → ((j : ℕ) → (get_or x j 0 ≡ get_or old j 0) ⊎ (get_or x j 0 ≡ get_or q j 0)) → k < length old → get_or q k 0 ≢ get_or x k 0
    → differing old x < differing old q
unfolding differing
differing_less [] x q k a b e h d = absurd (omega arith)
differing_less (o ∷ old) [] q k a b e h d = absurd (omega arith)
differing_less (o ∷ old) (y ∷ x) [] k a b e h d = absurd (omega arith)
differing_less (o ∷ old) (y ∷ x) (w ∷ q) zero a b e h d =
    one_more o y w (e 0) (differing old x) (differing old q) d
    (differing_most old x q (omega arith) (omega arith) (λ j. e (suc j)))
differing_less (o ∷ old) (y ∷ x) (w ∷ q) (suc k) a b e h d =
    one_less_lt o y w (e 0) (differing old x) (differing old q)
    (differing_less old x q k (omega arith) (omega arith) (λ j. e (suc j)) (le_of_suc-le-suc h) d)
  where
    one_less_lt : (o y w : ℕ) → (y ≡ o) ⊎ (y ≡ w) → (m n : ℕ) → m < n → cond (eqb o y) m (suc m) < cond (eqb o w) n
        (suc n)
    one_less_lt o y w e m n h = elim (ℕ_discrete o y) [
      | yes p ↦ rw (eq-eqb o y p) (elim (ℕ_discrete o w) [
        | yes q ↦ rw (eq-eqb o w q) h
        | no q ↦ rw (ne_eqb o w q)
            (omega arith)
      ])
      | no p ↦ rw (ne_eqb o y p, ne_eqb o w (λ q. p (⊎_elim (λ z. sym z) (λ z. q ∙ sym z) e))) (omega arith)
    ]
