-- Laws for users: the entries by which the walk of a domain goes give the domain's rights, and in a sound pool they
-- are readable.
use Prim.Native.Nat.{ℕ, zero, suc, ◌+◌, ◌*◌, ◌/◌, ◌%◌, ◌≤◌, ◌<◌}
use mathlib.Core.Path.{◌≡◌, refl, sym, ap, ◌∙◌}
use mathlib.Core.Bool.{true, false}
use mathlib.Core.List.{List}
use native.Mathlib.Omega.{arith}
use lib.ListN.{length}
use borrow.Author.Tests.{ltb-true}
use Rattle.theory.specs.Pool.{Reach, step, SoundPool, Roots, start, right, right_of, words}
use Rattle.theory.proofs.Logic.{by_cases}
use Rattle.theory.proofs.RightLaws.{right_down, right_says}
use Rattle.words.specs.Rights.{right_at, eight_of}
use Rattle.words.proofs.RightsLaws.{right_small, eight_right, eight_good}
use Rattle.table.specs.declared.Shape.{Shape}
use Rattle.table.specs.Shape.{Fits, first_place, places, size}
use Rattle.table.specs.Map.{index, leads, form_of}
use Rattle.table.proofs.FormLaws.{leads_place, good_eight}
use Rattle.table.proofs.FormLaws as FormLaws
use Rattle.targets.specs.Targets.{virtual_of, given, Gives, GivesLeaf, Readable}
use Rattle.targets.proofs.GivenLaws.{given_leads, given_rights, gives_down, gives_leaf}

module _ (s : Shape) (P : ℕ → ℕ) where
  -- From a word on, the right is what the word gives.
  pub right_given : (h k a : ℕ) → right (form_of s) P h k a ≡ given P h (P k) a
  right_given zero k a = right_says (form_of s) P 0 k a refl ∙ sym (given_rights P 0 (P k) a refl)
  right_given (suc h) k a = by_cases (leads (suc h) (P k))
      (λ l. right_down (form_of s) P h k a l ∙ right_given h (P k + index h a) a ∙ sym (given_leads P h (P k) a l))
      (λ l. right_says (form_of s) P (suc h) k a l ∙ sym (given_rights P (suc h) (P k) a l))

  -- A root word gives its block the rights of its domain.
  pub root_gives : (d b : ℕ) → b < 1024 → Gives P 2 (P (1024 * d + b)) b (right_of (form_of s) P d)
  root_gives d b l a e =
      let i : index 2 a ≡ b = omega arith in
      ap (λ x. right (form_of s) P 2 (1024 * d + x) a) i ∙ right_given 2 (1024 * d + b) a

module _ (P : ℕ → ℕ) (R : ℕ → ℕ) (e n : ℕ) where
  -- A block's entry that leads: the word of the middle table gives its page the same rights ..
  pub middle_gives : (i : ℕ) → leads 2 e ≡ true → i < 1024 → Gives P 2 e n R → Gives P 1 (P (e + i)) (n * 1024 + i) R
  middle_gives i l b g = gives_down P R 1 e n i (omega arith) l b g

  -- .. and one that is rights: so does the page's virtual entry.
  pub virtual_gives : (page : ℕ) → leads 2 e ≡ false → page / 1024 ≡ n → Gives P 2 e n R
      → Gives P 1 (virtual_of 1 e page) page R
  virtual_gives page l q g a p =
      let o = right_at e (page / 128 % 8) in
      let any-shape : Shape = record { domains = 1; middles = 0; leaves = 0 } in
      let b : leads 1 (eight_of o) ≡ false = (FormLaws.eight_good any-shape 0 (eight_of o) (omega arith)
      (eight_good o (right_small e _))).1 in
      let x : a / 524288 % 8 ≡ page / 128 % 8 = omega arith in
      g a (omega arith) ∙ given_rights P 2 e a l ∙ ap (right_at e) x
      ∙ sym (given_rights P 1 (eight_of o) a b ∙ eight_right o (a / 512 % 8) (right_small e _) (omega arith))

  -- A page's entry that leads: the word of the leaf gives its sixteen words the same rights.
  pub leaf_gives : (i : ℕ) → leads 1 e ≡ true → i < 64 → Gives P 1 e n R → GivesLeaf (P (e + i)) (n * 64 + i) R
  leaf_gives i l b g = gives_leaf P R (P (e + i)) (n * 64 + i) (gives_down P R 0 e n i (omega arith) l b g)

pub virtual_readable : (p : List ℕ) (r : ℕ) → r < 4 → Readable p 1 (eight_of r)
virtual_readable p r b =
    let leads-not : leads 1 (eight_of r) ≡ true → ⊥ = λ l. omega (arith, ltb-true (eight_of r) 2147483648 l) in
    record { rights = λ l. eight_good r b; table = λ l. absurd (leads-not l); entries = λ l. absurd (leads-not l) }

-- In a sound pool, all that is reached is readable.
module _ (s : Shape) (p : List ℕ) (f : Fits s (length p)) (q : SoundPool (form_of s) (words p)) where
  abbrev reached : ℕ → ℕ → Type 0
  reached h k = Reach (form_of s) (words p) (Roots (form_of s)) h k

  -- The table to which a reached word leads lies in the pool.
  table_inside : (h k : ℕ) → reached (suc h) k → leads (suc h) (words p k) ≡ true → words p k + size h ≤ length p
  table_inside h k r l =
      let (hi, n, b, e) = leads_place s h (words p k) (q.good r) l in
      inside h hi n b e
    where
      inside : (h : ℕ) → h < 2 → (n : ℕ) → n < places s h
          → words p k ≡ first_place s h + size h * n → words p k + size h ≤ length p
      inside zero hi n b e = omega (arith, f.long)
      inside (suc zero) hi n b e = omega (arith, f.long)
      inside (suc (suc h)) hi n b e = absurd (omega arith)

  pub reached_readable : (h k : ℕ) → reached h k → Readable p h (words p k)
  reached_readable zero k r = tt
  reached_readable (suc h) k r = record {
    rights = λ l. good_eight s h (words p k) (q.good r) l;
    table = λ l. table_inside h k r l;
    entries = λ l i b. reached_readable h (words p k + i) (step i r l b);
  }

  pub root_readable : (d b : ℕ) → d < s.domains → b < 1024 → Readable p 2 (words p (1024 * d + b))
  root_readable d b bd bb = reached_readable 2 (1024 * d + b) (start (d, b, refl, refl, bd, bb))

  pub middle_readable : (d b i : ℕ) → d < s.domains → b < 1024 → leads 2 (words p (1024 * d + b)) ≡ true → i < 1024
      → Readable p 1 (words p (words p (1024 * d + b) + i))
  middle_readable d b i bd bb l bi = (root_readable d b bd bb).entries l i bi
