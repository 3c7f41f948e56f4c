-- Laws of the target of an entry of any height: told at once, or found from the entries of its table.
use Prim.Native.Nat.{ℕ, zero, suc, ◌+◌, ◌*◌, ◌/◌, ◌≤◌, ◌<◌}
use mathlib.Core.Path.{◌≡◌, refl, sym, ap, ◌∙◌}
use mathlib.Core.Bool.{false}
use mathlib.Core.List.{List}
use native.Mathlib.Omega.{arith}
use borrow.Author.Tests.{le-ltb}
use Rattle.words.specs.Rights.{right_at, pack}
use Rattle.table.specs.Map.{block, parts, leads}
use Rattle.table.specs.Wants.{words_in, above, said_of}
use Rattle.targets.specs.declared.Paint.{Paint}
use Rattle.targets.specs.declared.Cover.TheVariants.{Apart, Whole}
use Rattle.std.proofs.Common.{Option, Some}
use Rattle.targets.specs.Targets.{painted, given, target_of, Gives, GivesLeaf, Readable}
use Rattle.targets.specs.Steps.{CoverIs, Plain, OneIs, PartIs, GoodRights, SaysIs}
use Rattle.targets.proofs.PackLaws.{leaf_packed, eight_packed}
use Rattle.targets.proofs.TargetLaws.{leaf_target}
use Rattle.targets.proofs.PartLaws.{part_word}
use Rattle.targets.proofs.HeightLaws.{part_first}
use Rattle.targets.proofs.GivenLaws.{gives_parts, gives_leaf}
use Rattle.targets.proofs.PaintLaws.{inside_none}
use Rattle.targets.proofs.SearchLaws.{whole_target, apart_target, given_target}

-- A leaf entry is rights, and so is any whose bit 31 is set.
pub leads_leaf : (h e : ℕ) → h ≡ 0 → leads h e ≡ false
leads_leaf h e z = rw z refl

pub leads_high : (h e : ℕ) → 2147483648 ≤ e → leads h e ≡ false
leads_high zero e l = refl
leads_high (suc h) e l = le-ltb e 2147483648 l

-- What is readable is good.
pub readable_good : (q : List ℕ) (h e : ℕ) → Readable q h e → GoodRights h e
readable_good q zero e r = tt
readable_good q (suc h) e r = r.rights

-- An entry that is rights is its rights packed.
entry_packed : (h e : ℕ) → e < 4294967296 → GoodRights h e → leads h e ≡ false → pack (above h) (parts h) (right_at e)
    ≡ e
entry_packed zero e l g f = sym (leaf_packed e l)
entry_packed (suc h) e l g f = sym (eight_packed e (g f))

module _ (p : Paint) (R : ℕ → ℕ) (h n long : ℕ) (is : long ≡ block h / 4) where
  -- The region covers the block.
  pub whole_entry : CoverIs Whole p (n * long) long → target_of (painted p R) h (n * block h)
      ≡ Some (pack (above h) (parts h) (λ i. p.right))
  whole_entry c = whole_target p R h n (rw is at c)

  -- The region lies apart from the block, and its entry is rights.
  pub apart_entry : (P : ℕ → ℕ) (e : ℕ) → e < 4294967296 → GoodRights h e → Gives P h e n R → leads h e ≡ false
      → CoverIs Apart p (n * long) long
      → target_of (painted p R) h (n * block h) ≡ Some e
  apart_entry P e b r g l c = apart_target p R h n P e g l (rw is at c) ∙ ap Some (entry_packed h e b r l)

module _ (p : Paint) (P R : ℕ → ℕ) where
  -- A leaf entry is painted.
  pub leaf_entry : (h e n t : ℕ) → h ≡ 0 → Gives P h e n R
      → ((R : ℕ → ℕ) → GivesLeaf e n R → t ≡ said_of (painted p R) 0 (n * 64))
      → target_of (painted p R) h (n * block h) ≡ Some t
  leaf_entry zero e n t z g f = leaf_target (painted p R) (n * 64) t (f R (gives_leaf P R e n g))
  leaf_entry (suc h) e n t z g f = absurd (omega arith)

  -- What a search of its table found.
  pub found_entry : (h b e n : ℕ) (t : Option ℕ) → h ≡ suc b → Gives P h e n R
      → t ≡ target_of (painted p (given P (suc b) e)) (suc b) (n * block (suc b)) → t ≡ target_of (painted p R) h
      (n * block h)
  found_entry h b e n t up g f = f ∙ rw up (given_target p R (suc b) n P e (rw up at g))

module _ (p : Paint) (P : ℕ → ℕ) (b e n i : ℕ) where
  abbrev rights_after : ℕ → ℕ
  rights_after = painted p (given P (suc b) e)

  -- A sub-block of an entry that is rights.
  pub rights_found : (o long : ℕ) (r : Option ℕ) → 2147483648 ≤ e → i < 8 → o ≡ right_at e i → long ≡ words_in (suc b)
      → (Plain (given P (suc b) e) ((8 * n + i) * long) long o → OneIs r rights_after ((8 * n + i) * long) long)
      → PartIs P p (suc b) e n i r
  rights_found o long r l bi says is f =
      let z : (8 * n + i) * long ≡ part_word (suc b) n i = part_first b n i long is in
      let g = gives_parts P (given P (suc b) e) (suc b) e n i bi (le-ltb e 2147483648 l) (λ x q. refl) in
      rw (z, is) at (f (rw (z, is, says) g))

-- Where nothing is painted, an entry that is rights stands.
pub bare_says : (p : Paint) (h e n same : ℕ) → p.hi ≤ p.lo → e ≡ same → e < 4294967296 → GoodRights h e → leads h e
    ≡ false → SaysIs p h e n same
bare_says p h e n same le is b r l P R g =
    apart_entry p R h n (block h / 4) refl P e b r g l (λ j x. inside_none p (n * (block h / 4) + j) le) ∙ ap Some is
