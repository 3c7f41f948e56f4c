-- Laws of who may set a right: a stretch of words with one verdict is passed at once, and the test is true exactly
-- where every covered word allows it.
use Prim.Native.Nat.{ℕ, zero, suc, ◌+◌, ◌-◌, ◌≤◌, ◌<◌}
use mathlib.Core.Path.{◌≡◌, sym, ap, ◌∙◌}
use mathlib.Core.Bool.{Bool, true, false, true≢false}
use mathlib.Core.List.{List}
use native.Mathlib.Omega.{arith}
use native.Mathlib.Decide.{dec_lt, ℕ_discrete}
use Rattle.theory.proofs.Logic.{and_both}
use Rattle.words.specs.declared.Region.{Region}
use Rattle.owners.specs.Rules.{every_word, may_word, Allowed, allowed_of}

module _ (t : ℕ → Bool) where
  -- The words from `w` up to `end`.
  abbrev pub up_to : ℕ → ℕ → Bool
  up_to end w = every_word t (end - w) w

  pub every_fails : (end w : ℕ) → w < end → t w ≡ false → up_to end w ≡ false
  unfolding every_word
  every_fails end w h e = let n : end - w ≡ suc (end - suc w) = omega arith in rw (n, e)

  every_one : (end w : ℕ) → t w ≡ true → up_to end w ≡ up_to end (suc w)
  unfolding every_word
  every_one end w e = elim (dec_lt w end) [
    | yes h ↦ let n : end - w ≡ suc (end - suc w) = omega arith in rw (n, e)
    | no h ↦ let n : end - w ≡ 0 = omega arith in let m : end - suc w ≡ 0 = omega arith in rw (n, m)
  ]

  -- The words from `w` on that pass leave as much to ask from the first after them.
  every_stretch : (end k w : ℕ) → ((v : ℕ) → w ≤ v → v < w + k → t v ≡ true) → up_to end w ≡ up_to end (w + k)
  every_stretch end zero w f = let e : w ≡ w + 0 = omega arith in ap (up_to end) e
  every_stretch end (suc k) w f =
      let e : suc w + k ≡ w + suc k = omega arith in
      every_one end w (f w (omega arith) (omega arith))
      ∙ every_stretch end k (suc w) (λ v g h. f v (omega arith) (omega arith)) ∙ ap (up_to end) e

  pub every_reach : (end w u : ℕ) → w ≤ u → ((v : ℕ) → w ≤ v → v < u → t v ≡ true) → up_to end w ≡ up_to end u
  every_reach end w u h f =
      let e : w + (u - w) ≡ u = omega arith in
      every_stretch end (u - w) w (λ v g b. f v g (omega arith)) ∙ ap (up_to end) e

  pub every_none : (end w : ℕ) → end ≤ w → up_to end w ≡ true
  unfolding every_word
  every_none end w h = let e : end - w ≡ 0 = omega arith in rw e

  every_words : (n w : ℕ) → every_word t n w ≡ true → (v : ℕ) → w ≤ v → v < w + n → t v ≡ true
  unfolding every_word
  every_words zero w e v g h = absurd (omega arith)
  every_words (suc n) w e v g h =
      let p = and_both (t w) (every_word t n (suc w)) e in
      elim (ℕ_discrete w v) [
        | yes q ↦ rw (← q) p.0
        | no q ↦ every_words n (suc w) p.1 v (omega arith) (omega arith)
      ]

-- The test is true exactly where every covered word allows the change.
module _ (list : List ℕ) (caller domain right : ℕ) (region : Region) where
  pub allowed_true : Allowed list caller domain right region → allowed_of list caller domain right region ≡ true
  allowed_true f =
      let t = may_word list caller domain right in
      let lo = region.lo in
      let hi = region.hi in
      every_stretch t hi (hi - lo) lo (λ v g h. f v g (omega arith))
      ∙ every_none t hi (lo + (hi - lo)) (omega arith)

  pub true_allowed : allowed_of list caller domain right region ≡ true → Allowed list caller domain right region
  true_allowed e w g h =
      every_words (may_word list caller domain right) (region.hi - region.lo) region.lo e w g (omega arith)

  pub allowed_exact : (allowed_of list caller domain right region ≡ true → Allowed list caller domain right region)
      × (Allowed list caller domain right region → allowed_of list caller domain right region ≡ true)
  allowed_exact = (true_allowed, allowed_true)

  pub false_not_allowed : allowed_of list caller domain right region ≡ false
      → Allowed list caller domain right region → ⊥
  false_not_allowed e f = true≢false (sym (allowed_true f) ∙ e)
