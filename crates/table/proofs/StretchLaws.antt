-- How far a right goes inside a block: what going from sub-block to sub-block finds is the longest stretch of bytes.
-- Assumes nothing.
use Prim.Native.Nat.{ℕ, ◌+◌, ◌-◌, ◌/◌, ◌%◌, ◌<◌, ◌≤◌}
use mathlib.Core.Path.{◌≡◌, sym, ap, ◌∙◌}
use native.Mathlib.Omega.{arith}
use Rattle.words.specs.Stretches.{Longest}
use Rattle.words.specs.Rights.{right_at}
use Rattle.words.proofs.StretchLaws.{like_longest, longest_like, longest_alike}
use Rattle.table.specs.Map.{block, part, parts, block_at, part_at, part_of, entry_rights}
use Rattle.table.specs.Stretches.{part_rights, first_byte, last_byte}
use Rattle.table.proofs.BlockLaws.{around, number_below, part_from, part_upto, from_part}
use Rattle.table.proofs.BlockLaws.{upto_part, same_part, part_number, parts_ends, part_ends, part_some}
use Rattle.table.proofs.BlockLaws.{part_before, part_after}

-- Rights that are the same for all bytes of a sub-block.
module _ (R : ℕ → ℕ) (h a : ℕ) (whole : (b c : ℕ) → b / part h ≡ c / part h → R b ≡ R c) where
  abbrev f : ℕ → ℕ
  f = part_rights R h a

  -- A byte of the block has the right of its sub-block.
  in_part : (b : ℕ) → block_at h a ≤ b → b < block_at h a + block h → R b ≡ f (part_of h b)
  in_part b lo hi = whole b (part_at h a (part_of h b)) (same_part h a b lo hi)

  bytes_longest : {first last : ℕ} → Longest f 0 (parts h) (part_of h a) first last
      → Longest R (block_at h a) (block_at h a + block h) a (part_at h a first) (part_at h a last + (part h - 1))
  bytes_longest {first} {last} x =
      let (lo, hi) = around h a in
      let here = in_part a lo hi in
      let end = part_ends h a last x.high_end in
      record {
        low_end = omega arith;
        from = from_part h a first a lo hi x.from;
        upto = upto_part h a last a lo hi x.upto;
        high_end = end;
        one = λ b p q.
            let low : block_at h a ≤ b = omega arith in
            let high : b < block_at h a + block h = omega arith in
            in_part b low high
            ∙ x.one (part_of h b) (part_from h a first b low high p) (part_upto h a last b low high q) ∙ sym here;
        before = λ p e.
            let some = part_some h a first p in
            let (low, high, z) = part_before h a first some (omega (arith, x.from, x.upto, x.high_end)) in
            x.before some (ap f (sym z) ∙ sym (in_part (part_at h a first - 1) low high) ∙ e ∙ here);
        after = λ p e.
            let (inside, z) = part_after h a last p in
            x.after inside
            (ap f (sym z) ∙ sym (in_part (part_at h a last + (part h - 1) + 1) (omega arith) p) ∙ e ∙ here);
      }

  -- The stretch that a lookup answers is the longest.
  pub stretch_longest : Longest R (block_at h a) (block_at h a + block h) a (first_byte R h a) (last_byte R h a)
  stretch_longest = bytes_longest (like_longest f (parts h) (part_of h a) (number_below h a))

-- One right for the whole block reaches over the whole block.
module _ (R : ℕ → ℕ) (h a q : ℕ) (all : (b : ℕ) → R b ≡ q) where
  all_parts : Longest (part_rights R h a) 0 (parts h) (part_of h a) 0 (parts h - 1)
  all_parts =
      let b = number_below h a in
      record {
        low_end = omega arith;
        from = omega arith;
        upto = omega arith;
        high_end = omega arith;
        one = λ j lo hi. all (part_at h a j) ∙ sym (all (part_at h a (part_of h a)));
        before = λ lo. absurd (omega arith);
        after = λ hi. absurd (omega arith);
      }

  pub whole_stretch : (first_byte R h a ≡ block_at h a) × (last_byte R h a ≡ block_at h a + (block h - 1))
  whole_stretch =
      let (e, g) = longest_like (part_rights R h a) (parts h) (part_of h a) all_parts in
      let (first, last) = parts_ends h a in
      (ap (part_at h a) (sym e) ∙ first, ap (λ i. part_at h a i + (part h - 1)) (sym g) ∙ last)

-- An entry says one right for all bytes of a sub-block.
pub entry_whole : (h w b c : ℕ) → b / part h ≡ c / part h → entry_rights h w b ≡ entry_rights h w c
entry_whole h w b c e = ap (λ x. right_at w (x % parts h)) e

-- What is found among the rights of an entry, in bytes.
pub entry_stretch : (h w a : ℕ) {first last : ℕ} → Longest (right_at w) 0 (parts h) (part_of h a) first last
    → (part_at h a first ≡ first_byte (entry_rights h w) h a)
    × (part_at h a last + (part h - 1) ≡ last_byte (entry_rights h w) h a)
entry_stretch h w a {first} {last} x =
    let (e, g) = longest_like (part_rights (entry_rights h w) h a) (parts h) (part_of h a)
    (longest_alike (right_at w) (part_rights (entry_rights h w) h a) 0 (parts h) (part_of h a)
    (λ j lo hi. ap (right_at w) (sym (part_number h a j hi))) x) in
    (ap (part_at h a) e, ap (λ i. part_at h a i + (part h - 1)) g)
