-- Laws of a leaf as it stands: a sub-block whose eight entries are not one right's has two rights.
use Rattle.std.proofs.Common.{None}
use Prim.Native.Nat.{ℕ, ◌+◌, ◌*◌, ◌/◌, ◌%◌, ◌<◌}
use mathlib.Core.Path.{◌≡◌, refl, sym, ap, ◌∙◌}
use mathlib.Core.List.{List}
use native.Mathlib.Omega.{arith}
use borrow.Author.Tests.{lt-ltb}
use Rattle.theory.specs.Pool.{words}
use Rattle.words.specs.Rights.{right_at, sixteen_of}
use Rattle.words.specs.Passing.{AllSame}
use Rattle.words.proofs.RightsLaws.{pack_same, sixteen_pack}
use Rattle.table.specs.Map.{block}
use Rattle.targets.specs.declared.Paint.{Paint}
use Rattle.targets.specs.Targets.{painted, given, target_of, Gives}
use Rattle.targets.specs.Steps.{Plain, EvenEntries, SeenMixed}
use Rattle.targets.proofs.PaintLaws.{painted_none}
use Rattle.targets.proofs.PackLaws.{leaf_packed}
use Rattle.targets.proofs.GivenLaws.{given_leads, given_rights}
use Rattle.targets.proofs.PartLaws.{part_word, two_target, target_agree}

module _ (p : List ℕ) (e n i : ℕ) (lead : e < 2147483648) (b : i < 8) where
  abbrev R : ℕ → ℕ
  R = given (words p) 1 e

  -- Word `k` of entry `j` of the sub-block has the entry's right `k`.
  word_right_lem : (j k : ℕ) → j < 8 → k < 16 → R (4 * (part_word 1 n i + (16 * j + k)))
      ≡ right_at (words p (e + 8 * i + j)) k
  word_right_lem j k bj bk =
      let a = 4 * (part_word 1 n i + (16 * j + k)) in
      let at : e + a / 64 % 64 ≡ e + 8 * i + j = omega arith in
      let nth : a / 4 % 16 ≡ k = omega arith in
      given_leads (words p) 0 e a (lt-ltb e 2147483648 lead)
      ∙ given_rights (words p) 0 (words p (e + a / 64 % 64)) a refl
      ∙ ap (λ x. right_at (words p x) (a / 4 % 16)) at
      ∙ ap (right_at (words p (e + 8 * i + j))) nth

  module _ (small : (j : ℕ) → words p j < 4294967296) where
    -- Where the sub-block has one right, so has each entry.
    one_entries : (u : ℕ) → Plain R (part_word 1 n i) 128 u → AllSame p (e + 8 * i) 8 (sixteen_of u)
    one_entries u f j bj =
        let w = words p (e + 8 * i + j) in
        leaf_packed w (small (e + 8 * i + j))
        ∙ pack_same 0 16 (right_at w) (λ k. u) (λ k bk. sym (word_right_lem j k bj bk) ∙ f (16 * j + k) (omega arith))
        ∙ sixteen_pack u

    pub uneven_mixed : (EvenEntries p (e + 8 * i) → ⊥) → target_of R 1 (n * 4096) ≡ None
    uneven_mixed two = two_target R 1 n i b (λ u f.
        let z : e + 8 * i + 0 ≡ e + 8 * i = omega arith in
        let first : u ≡ right_at (words p (e + 8 * i)) 0 =
        sym (f 0 (omega arith)) ∙ word_right_lem 0 0 (omega arith) (omega arith) ∙ ap (λ x. right_at (words p x) 0) z in
        two (rw first at (one_entries u f)))

-- A leaf that is seen to be mixed is what its entry should lead to.
pub seen_target : (P R : ℕ → ℕ) (p : Paint) (h e n : ℕ) → SeenMixed P p h e → Gives P h e n R
    → None ≡ target_of (painted p R) h (n * block h)
seen_target P R p h e n x g =
    let f : Gives P 1 e n R = rw x.height at g in
    rw x.height (sym (target_agree (painted p R) 1 n (given P 1 e)
    (λ a q. painted_none p R a x.none ∙ f a q) ∙ x.leaf n))
