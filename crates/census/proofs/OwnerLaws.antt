-- The owners of the places of one height: where the table of a block stands, and whose the table at a place is.
use Prim.Native.Nat.{ℕ, suc, ◌+◌, ◌*◌, ◌-◌, ◌/◌, ◌<◌}
use mathlib.Core.Path.{◌≡◌, refl, sym, ap, ◌∙◌}
use mathlib.Core.Logic.{⊎_elim}
use mathlib.Core.Bool.{true, not, true≢false}
use mathlib.Core.List.{List}
use native.Mathlib.Omega.{arith}
use lib.Dec.{eqb}
use lib.ListN.{length, get_or}
use borrow.Author.Tests.{eq-eqb, ne_eqb}
use Rattle.theory.specs.Pool.{words, SoundPool}
use Rattle.table.specs.declared.Shape.{Shape}
use Rattle.table.specs.Shape.{Fits, first_place, places, size}
use Rattle.table.specs.Map.{form_of}
use Rattle.places.specs.Count.{blocks}
use Rattle.places.specs.Final.{entry_of, old, was, place_at}
use Rattle.places.proofs.OldLaws.{old_at}
use Rattle.places.proofs.OldLaws as Old
use Rattle.census.specs.Places.{place_height, first_number}
use Rattle.census.proofs.PlaceLaws.{PlaceAt, place_number}
use Rattle.census.specs.Tally.{none, taken}
use Rattle.census.specs.Census.{StandsAt, Owners}
use Rattle.census.proofs.StandLaws.{block_few, stands_at}
use Rattle.census.proofs.CensusLaws.{old_reached}

module _ (p : List ℕ) (s : Shape) (fits : Fits s (length p)) (q : SoundPool (form_of s) (words p)) (o : List ℕ)
    (own : Owners p s o) (h : ℕ) (hi : h < 2) where
  -- The owner of place `c` of the height.
  abbrev pub owner : ℕ → ℕ
  owner c = get_or o (first_number h + c) 0

  module _ (i : ℕ) (bi : i < blocks h * s.domains) (has : old (words p) h i ≡ true) where
    abbrev at : ℕ
    at = was s (words p) h i

    -- The place where the table of a block stands is the block's.
    was_place : PlaceAt s (suc h) (words p (entry_of (words p) h i)) (first_number h + at)
    was_place =
        let (b, e) = old_at s q h hi i bi has in
        place_number s fits.range h at _ (first_number h + at) hi b e refl

    was_stands : StandsAt p s (first_number h + at) i
    was_stands =
        stands_at p s h (entry_of (words p) h i) i (first_number h + at)
        (record { block = bi; word = refl; has = λ l. has })
        (old_reached p s h i hi bi has).1 was_place

    pub was_owner : owner at ≡ i
    was_owner = own.owns (first_number h + at) i was_place.below was_stands

    pub was_taken : (place_height (first_number h + at) ≡ h) × (first_number h + at < 72)
        × (taken o (first_number h + at) ≡ true)
    was_taken =
        let few = block_few s.domains h i fits.range.domains bi in
        let x = was_place in (
          omega (arith, x.height),
          x.below,
          ap (λ v. not (eqb v none)) was_owner
              ∙ ap not (ne_eqb i none (λ e. omega arith)),
        )

  -- The owner of a place has its table there.
  pub owner_stands : (c : ℕ) → c < places s h → taken o (first_number h + c) ≡ true
      → (owner c < blocks h * s.domains) × (old (words p) h (owner c) ≡ true)
      × (c ≡ was s (words p) h (owner c))
  owner_stands c b t =
      let w = place_at s h c in
      let x = place_number s fits.range h c w (first_number h + c) hi b refl refl in
      let e : place_height (first_number h + c) ≡ h = omega (arith, x.height) in
      ⊎_elim
      (λ n. absurd (true≢false (sym t ∙ ap not (eq-eqb (owner c) none n))))
      (λ y.
      let z : words p (entry_of (words p) h (owner c)) ≡ w = rw e at y.there ∙ x.word in (
        rw e at y.block,
        rw e at y.table,
        sym (ap (λ v. (v - first_place s h) / size h) z
            ∙ Old.place_number s h c),
      ))
      (own.stands (first_number h + c) x.below)
