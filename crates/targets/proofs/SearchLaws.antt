-- Laws of finding a target: by how the region meets the block, or by gathering the rights of its eight sub-blocks.
use Prim.Native.Nat.{ℕ, suc, ◌+◌, ◌*◌, ◌/◌, ◌%◌, ◌^◌, ◌≤◌, ◌<◌}
use mathlib.Core.Path.{◌≡◌, refl, sym, ap, ◌∙◌}
use mathlib.Core.Bool.{true, false}
use native.Mathlib.Omega.{arith}
use native.Mathlib.Numerals.{add-one}
use lib.Pow.{pow_mono, shl_exact}
use borrow.Author.Count.{below_more}
use Rattle.words.specs.Rights.{right_at, pack, eight_of}
use Rattle.words.specs.Region.{covered}
use Rattle.words.proofs.RightsLaws.{pack_range, eight_pack}
use Rattle.table.specs.Map.{block, parts, leads}
use Rattle.table.specs.Wants.{words_in, above}
use Rattle.table.proofs.BlockLaws.{first_word}
use Rattle.targets.specs.declared.Paint.{Paint}
use Rattle.targets.specs.declared.Cover.TheVariants.{Apart, Whole}
use Rattle.std.proofs.Common.{Option, Some, None}
use Rattle.targets.specs.Paints.{region}
use Rattle.targets.specs.Targets.{painted, target_of, given, Gives}
use Rattle.targets.specs.Steps.{CoverIs, Plain, OneIs}
use Rattle.targets.proofs.PackLaws.{pack_above, pack_more}
use Rattle.targets.proofs.PaintLaws.{whole_plain, apart_plain, painted_agree, painted_covered, painted_uncovered}
use Rattle.targets.proofs.PartLaws.{part_word, part_below, plain_small, parts_target, two_target, plain_target}
use Rattle.targets.proofs.PartLaws.{target_agree}
use Rattle.targets.proofs.HeightLaws.{entry_number}
use Rattle.targets.proofs.GivenLaws.{gives_parts}

module _ (p : Paint) (R : ℕ → ℕ) (h n : ℕ) where
  -- The region covers the whole block.
  pub whole_target : CoverIs Whole p (n * (block h / 4)) (block h / 4)
      → target_of (painted p R) h (n * block h) ≡ Some (pack (above h) (parts h) (λ i. p.right))
  whole_target c = plain_target (painted p R) h n p.right (whole_plain p R _ _ c)

  module _ (P : ℕ → ℕ) (e : ℕ) (g : Gives P h e n R) where
    -- The region lies apart from the block, and its entry is rights.
    pub apart_target : leads h e ≡ false → CoverIs Apart p (n * (block h / 4)) (block h / 4)
        → target_of (painted p R) h (n * block h) ≡ Some (pack (above h) (parts h) (right_at e))
    apart_target l c = parts_target (painted p R) h n (right_at e) (λ i b.
        apart_plain p R (part_word h n i) (words_in h) (right_at e i) (gives_parts P R h e n i b l g)
        (λ j m.
        let q : part_word h n i + j ≡ n * (block h / 4) + (words_in h * i + j) = omega arith in
        rw q (c (words_in h * i + j) (part_below h i j b m))))

    -- What the entry gives is all that counts.
    pub given_target : target_of (painted p (given P h e)) h (n * block h) ≡ target_of (painted p R) h (n * block h)
    given_target = target_agree (painted p (given P h e)) h n (painted p R)
        (λ a q. painted_agree p (given P h e) R a (sym (g a q)))

-- The same by addresses, for whoever knows what the region covers without searching.
module _ (p : Paint) (R : ℕ → ℕ) (h n : ℕ) where
  -- The whole block is covered.
  pub covered_target : ((a : ℕ) → a / block (suc h) ≡ n → covered (region p) a ≡ true)
      → target_of (painted p R) (suc h) (n * block (suc h)) ≡ Some (eight_of p.right)
  covered_target c =
      plain_target (painted p R) (suc h) n p.right (λ j l. painted_covered p R _ (c _ (entry_number (suc h) n j l)))
      ∙ ap Some (eight_pack p.right)

  -- None of it is.
  pub uncovered_target : ((a : ℕ) → a / block h ≡ n → covered (region p) a ≡ false)
      → target_of (painted p R) h (n * block h) ≡ target_of R h (n * block h)
  uncovered_target c = target_agree (painted p R) h n R (λ a q. painted_uncovered p R a (c a q))

-- The right of the first word of sub-block `k`.
abbrev pub first_right : (ℕ → ℕ) → ℕ → ℕ → ℕ → ℕ
first_right R h n k = R (4 * (part_word h n k + 0))

-- What a loop over the eight sub-blocks has gathered when it stands at number `i`: the rights of those passed, from
-- bit 0 on, below bit 31.
pub record Gathers (R : ℕ → ℕ) (h n said i : ℕ) : Type 0 where
  pub sum : said ≡ 2147483648 + pack 0 i (first_right R h n)
  pub each : (k : ℕ) → k < i → Plain R (part_word h n k) (words_in h) (first_right R h n k)

module _ (R : ℕ → ℕ) (h n : ℕ) where
  -- At the start, none.
  pub gathers_none : Gathers R h n 2147483648 0
  unfolding pack
  gathers_none = record { sum = refl; each = λ k l. absurd (omega arith) }

  module _ (said i : ℕ) (o : Option ℕ) (l : i < 8) (f : OneIs o R (part_word h n i) (words_in h)) where
    module _ (u : ℕ) (low : (a : ℕ) → R a < 4) (e : o ≡ Some u) (g : Gathers R h n said i) where
      -- The right of this one.
      here : Plain R (part_word h n i) (words_in h) u
      here = rw e at f

      -- In its place it loses no bit ..
      placed : u * 2 ^ (2 * i) % 4294967296 ≡ u * 2 ^ (2 * i)
      placed = shl_exact 2 (2 * i) 32 (plain_small R (part_word h n i) (words_in h) u low (first_word h) here) (omega arith)

      -- .. and is the last of those gathered.
      gathered : said + u * 2 ^ (2 * i) % 4294967296 ≡ 2147483648 + pack 0 (suc i) (first_right R h n)
      gathered =
          let first : first_right R h n i ≡ u = here 0 (first_word h) in
          let s : first_right R h n i * 2 ^ (2 * i) ≡ u * 2 ^ (2 * i) = ap (λ x. x * 2 ^ (2 * i)) first in
          omega (arith, g.sum, placed, pack_more i (first_right R h n))

      -- There is room for it.
      pub gathers_room : said + u * 2 ^ (2 * i) % 4294967296 < 4294967296
      gathers_room =
          let a : 2 ^ (2 * suc i) ≤ 2 ^ 16 = pow_mono {j = 16} (omega arith) in
          omega (arith, gathered, pack_range 0 (suc i) (first_right R h n) (λ j m. low _))

      -- It is added.
      pub gathers_more : Gathers R h n (said + u * 2 ^ (2 * i) % 4294967296) (i + 1)
      gathers_more = record {
        sum = rw (add-one i) gathered;
        each = below_more _ _ g.each (rw (sym (here 0 (first_word h))) at here);
      }

    -- One with two rights: a table is wanted.
    pub gathers_two : i < parts h → o ≡ None → None ≡ target_of R h (n * block h)
    gathers_two b e = sym (two_target R h n i b (rw e at f))

-- At the end, what is said is the block's target.
pub gathers_all : (R : ℕ → ℕ) (h n said i : ℕ) → i ≡ 8 → Gathers R (suc h) n said i
    → Some said ≡ target_of R (suc h) (n * block (suc h))
gathers_all R h n said i z g =
    let s : said ≡ 2147483648 + pack 0 8 (first_right R (suc h) n) = rw z at g.sum in
    ap Some (omega (arith, pack_above 32768 8 (first_right R (suc h) n)))
    ∙ sym (parts_target R (suc h) n (first_right R (suc h) n) (λ k b. g.each k (omega arith)))
