-- Laws of the rights that an entry gives: to its sub-blocks, or to the blocks of the table that it leads to.
use Prim.Native.Nat.{ℕ, zero, suc, ◌+◌, ◌*◌, ◌/◌, ◌%◌, ◌<◌}
use mathlib.Core.Path.{◌≡◌, refl, ap, ◌∙◌}
use mathlib.Core.Bool.{true, false, cond}
use native.Mathlib.Omega.{arith}
use Rattle.theory.proofs.Logic.{by_cases}
use Rattle.words.specs.Rights.{right_at}
use Rattle.words.proofs.RightsLaws.{right_small}
use Rattle.table.specs.Shape.{size}
use Rattle.table.specs.Map.{block, part, parts, index, leads}
use Rattle.table.specs.Wants.{words_in}
use Rattle.targets.specs.declared.Paint.{Paint}
use Rattle.targets.specs.Targets.{painted, given, Gives, GivesLeaf}
use Rattle.targets.specs.Steps.{Plain}
use Rattle.targets.proofs.PaintLaws.{painted_small}
use Rattle.targets.proofs.PartLaws.{part_word}

module _ (P : ℕ → ℕ) where
  pub given_leads : (h e a : ℕ) → leads (suc h) e ≡ true → given P (suc h) e a ≡ given P h (P (e + index h a)) a
  unfolding given
  given_leads h e a l =
      ap (λ t. cond t (given P h (P (e + index h a)) a) (right_at e (a / part (suc h) % parts (suc h)))) l

  pub given_rights : (h e a : ℕ) → leads h e ≡ false → given P h e a ≡ right_at e (a / part h % parts h)
  unfolding given
  given_rights zero e a l = refl
  given_rights (suc h) e a l =
      ap (λ t. cond t (given P h (P (e + index h a)) a) (right_at e (a / part (suc h) % parts (suc h)))) l

  -- The first word of a block has its entry's first right ..
  pub first_rights : (h e n : ℕ) → leads h e ≡ false → given P h e (4 * (n * (block h / 4))) ≡ right_at e 0
  first_rights h e n l = given_rights h e _ l ∙ ap (right_at e) (number h)
    where
      number : (h : ℕ) → 4 * (n * (block h / 4)) / part h % parts h ≡ 0
      number zero = omega arith
      number (suc zero) = omega arith
      number (suc (suc h)) = omega arith

  -- .. or, where the entry leads to a leaf, the first right of the leaf's first entry.
  pub first_leaf : (h e n : ℕ) → h ≡ 1 → leads 1 e ≡ true → given P h e (4 * (n * (block h / 4))) ≡ right_at (P e) 0
  first_leaf h e n one l =
      let a = 4 * (n * 1024) in
      let z : e + a / 64 % 64 ≡ e = omega arith in
      let y : a / 4 % 16 ≡ 0 = omega arith in
      rw one (given_leads 0 e a l ∙ ap (λ x. given P 0 (P x) a) z ∙ given_rights 0 (P e) a refl
      ∙ ap (right_at (P e)) y)

  given_small : (h e a : ℕ) → given P h e a < 4
  given_small zero e a = rw (given_rights 0 e a refl) (right_small e _)
  given_small (suc h) e a = by_cases (leads (suc h) e)
      (λ l. rw (given_leads h e a l) (given_small h _ a))
      (λ l. rw (given_rights (suc h) e a l) (right_small e _))

  pub painted_given_small : (p : Paint) (h e : ℕ) → p.right < 4 → (a : ℕ) → painted p (given P h e) a < 4
  painted_given_small p h e b a = painted_small p (given P h e) a b (given_small h e a)

  module _ (R : ℕ → ℕ) where
    -- An entry that leads gives what the entries of its table give.
    pub gives_down : (h e n i : ℕ) → h < 2 → leads (suc h) e ≡ true → i < size h → Gives P (suc h) e n R
        → Gives P h (P (e + i)) (n * size h + i) R
    gives_down h e n i hi l b g a q =
        let (up, at) = number h a n i hi b q in
        g a up ∙ given_leads h e a l ∙ ap (λ k. given P h (P (e + k)) a) at
      where
        number : (h a n i : ℕ) → h < 2 → i < size h → a / block h ≡ n * size h + i → (a / block (suc h) ≡ n)
            × (index h a ≡ i)
        number zero a n i hi b q = (omega arith, omega arith)
        number (suc zero) a n i hi b q = (omega arith, omega arith)
        number (suc (suc h)) a n i hi b q = absurd (omega arith)

    -- One that does not gives each sub-block its right.
    pub gives_parts : (h e n i : ℕ) → i < parts h → leads h e ≡ false → Gives P h e n R → Plain R (part_word h n i)
        (words_in h) (right_at e i)
    gives_parts h e n i b l g j m =
        let (up, at) = number h n i j b m in
        g _ up ∙ given_rights h e _ l ∙ ap (right_at e) at
      where
        number : (h n i j : ℕ) → i < parts h → j < words_in h
            → (4 * (part_word h n i + j) / block h ≡ n) × (4 * (part_word h n i + j) / part h % parts h ≡ i)
        number zero n i j b m = (omega arith, omega arith)
        number (suc zero) n i j b m = (omega arith, omega arith)
        number (suc (suc h)) n i j b m = (omega arith, omega arith)

    pub gives_leaf : (w n : ℕ) → Gives P 0 w n R → GivesLeaf w n R
    gives_leaf w n g a e = g a e ∙ given_rights 0 w a refl

  -- Word `x`, entry `i` of the table of an entry that leads, gives its block, number `m`, what that entry gives.
  pub gives_entry : (h e n i x m : ℕ) → h < 2 → leads (suc h) e ≡ true → i < size h → x ≡ e + i → m ≡ n * size h + i
      → Gives P h (P x) m (given P (suc h) e)
  gives_entry h e n i x m hi l b p q = rw (p, q) (gives_down (given P (suc h) e) h e n i hi l b (λ a r. refl))
