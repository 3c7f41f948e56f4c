-- Every byte that the answer of a lookup reaches to has that same answer: a region is walked in as few lookups as it
-- has stretches. Assumes nothing.
use Prim.Native.Nat.{ℕ, ◌+◌, ◌*◌, ◌/◌, ◌≤◌}
use mathlib.Core.Path.{◌≡◌, refl, sym, ap, subst, ◌∙◌}
use mathlib.Core.List.{List}
use native.Mathlib.Omega.{arith}
use Rattle.std.specs.Prelude.{Ok}
use Rattle.theory.specs.Pool.{words}
use Rattle.theory.proofs.WalkLaws.{together_decides}
use Rattle.words.specs.Stretches.{Longest}
use Rattle.words.proofs.StretchLaws.{one_longest, longest_around}
use Rattle.table.specs.declared.Shape.{Shape}
use Rattle.table.specs.declared.Deciding.{Deciding}
use Rattle.table.specs.Map.{block, part, block_at, entry_rights, form_of}
use Rattle.table.specs.Stretches.{first_byte, last_byte}
use Rattle.table.specs.Lookup.{decided_by, found_at, lookup_of}
use Rattle.table.proofs.BlockLaws.{block_together, block_is}
use Rattle.table.proofs.StretchLaws.{stretch_longest, entry_whole}
use Rattle.table.proofs.LookupLaws.{lookup_walks, answered, whole_found}

-- Around another byte of the stretch there is the same stretch.
module _ (R : ℕ → ℕ) (h a b : ℕ) (whole : (x y : ℕ) → x / part h ≡ y / part h → R x ≡ R y)
    (from : first_byte R h a ≤ b) (upto : b ≤ last_byte R h a) where
  here : Longest R (block_at h a) (block_at h a + block h) a (first_byte R h a) (last_byte R h a)
  here = stretch_longest R h a whole

  pub same_block : a / block h ≡ b / block h
  same_block = block_is h a b (omega (arith, here.low_end)) (omega (arith, here.high_end))

  pub same_right : R b ≡ R a
  same_right = here.one b from upto

  pub same_stretch : (first_byte R h b ≡ first_byte R h a) × (last_byte R h b ≡ last_byte R h a)
  same_stretch =
      let e : block_at h b ≡ block_at h a = ap (λ x. x * block h) (sym same_block) in
      let there : Longest R (block_at h a) (block_at h a + block h) b (first_byte R h b) (last_byte R h b) =
      subst (λ m. Longest R m (m + block h) b (first_byte R h b) (last_byte R h b)) e (stretch_longest R h b whole) in
      one_longest R (block_at h a) (block_at h a + block h) b there
      (longest_around R (block_at h a) (block_at h a + block h) a b here from upto)

module _ (p : List ℕ) (s : Shape) (d a : ℕ) (x : Deciding) (e : lookup_of p s d a ≡ Ok x) where
  pub same_answer : (b : ℕ) → x.first.0 ≤ b → b ≤ x.last.0 → lookup_of p s d b ≡ Ok x
  same_answer b lo hi =
      let (h, k, z, q) = whole_found p s d a x e in
      let (fits, domain) = answered p s d a x e in
      let w = words p k in
      let R = entry_rights h w in
      let from : first_byte R h a ≤ b = rw q at lo in
      let upto : b ≤ last_byte R h a = rw q at hi in
      let (f, l) = same_stretch R h a b (entry_whole h w) from upto in
      let t = block_together s h a b (same_block R h a b (entry_whole h w) from upto) in
      lookup_walks p s d b fits domain
      ∙ ap (found_at (form_of s) (words p) b) (together_decides (form_of s) (words p) a b (λ v. refl) d z t)
      ∙ ap (λ (y : Deciding). Ok y) (alike R h w b (same_right R h a b (entry_whole h w) from upto) f l ∙ sym q)
    where
      alike : (R : ℕ → ℕ) (h w b : ℕ) → R b ≡ R a → first_byte R h b ≡ first_byte R h a → last_byte R h b ≡ last_byte R h a
          → decided_by R h w b ≡ decided_by R h w a
      alike R h w b r f l = rw (r, f, l) refl
