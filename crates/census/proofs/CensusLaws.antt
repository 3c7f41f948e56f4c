-- What the census finds: it says that the pool is sound exactly where it is, and then leaves the owners of all places.
use Prim.Native.Nat.{ℕ, zero, suc, ◌*◌, ◌-◌, ◌/◌, ◌%◌, ◌<◌}
use mathlib.Core.Path.{◌≡◌, refl, sym, ap, ◌∙◌}
use mathlib.Core.Logic.{inl, inr, ⊎_elim}
use mathlib.Core.Bool.{Bool, true, false, not, false≢true}
use mathlib.Core.List.{List}
use native.Mathlib.Omega.{arith}
use lib.Dec.{eqb}
use lib.ListN.{length, get_or}
use lib.Seq.{ext_get_or}
use borrow.Author.Tests.{eqb-true}
use Rattle.theory.specs.Form.{Form}
use Rattle.theory.specs.Pool.{words, start, step, SoundPool}
use Rattle.theory.specs.Check.{Finding, met, roots_check}
use Rattle.theory.specs.Check as Check
use Rattle.theory.proofs.Logic.{by_cases, and_both}
use Rattle.theory.proofs.CheckLaws.{CheckedPool, roots_check_sound, sound_roots_check}
use Rattle.table.specs.declared.Shape.{Shape}
use Rattle.table.specs.Shape.{Fits, first_place, size}
use Rattle.table.specs.Map.{leads, form_of}
use Rattle.table.proofs.FormLaws.{lawful}
use Rattle.places.specs.Count.{blocks}
use Rattle.places.specs.Final.{entry_of, old}
use Rattle.places.proofs.OldLaws.{old_one}
use Rattle.census.specs.Places.{max_places, place_height, place_word}
use Rattle.census.proofs.PlaceLaws.{place_kinds, led_place}
use Rattle.census.proofs.ReadableLaws.{Reached}
use Rattle.census.specs.Tally.{refused, owned, none, taken, roots_tally}
use Rattle.census.specs.Census.{StandsAt, Owners, Census}
use Rattle.census.proofs.AlikeLaws.{Alike, Matches, roots_alike}

pub place_low : (s : Shape) (n : ℕ) → place_height n < 2
place_low s n = ⊎_elim (λ x. omega (arith, x.height)) (λ x. omega (arith, x.height)) (place_kinds s n)

-- The entry of a block that has a table is reached, and leads.
pub old_reached : (p : List ℕ) (s : Shape) (h i : ℕ) → h < 2 → i < blocks h * s.domains → old (words p) h i ≡ true
    → Reached p s (suc h) (entry_of (words p) h i) × (leads (suc h) (words p (entry_of (words p) h i)) ≡ true)
old_reached p s zero i hi b o =
    let (m, l) = and_both (leads 2 (words p (i / 1024))) (leads 1 (words p (entry_of (words p) 0 i))) o in (
      step (i % 1024) (start {j = i / 1024} (
        i / 1024 / 1024,
        i / 1024 % 1024,
        refl,
        omega arith,
        omega arith,
        omega arith,
      )) m (omega arith),
      l,
    )
old_reached p s (suc zero) i hi b o = (
  start {j = i}
      (i / 1024, i % 1024, refl, omega arith, omega arith, omega arith),
  o,
)
old_reached p s (suc (suc h)) i hi b o = absurd (omega arith)

module _ (p : List ℕ) (s : Shape) (fits : Fits s (length p)) where
  abbrev F : Form
  F = form_of s

  -- A table stands at one place, and at a place stands one table.
  module _ (q : SoundPool F (words p)) (n : ℕ) where
    pub stands_one : (i j : ℕ) → StandsAt p s n i → StandsAt p s n j → i ≡ j
    stands_one i j x y =
        let h = place_height n in
        old_one s q h (place_low s n) i j x.block y.block x.table
        y.table
        (ap (λ w. (w - first_place s h) / size h) (x.there ∙ sym y.there))

  module _ (o : List ℕ) (u : ℕ → Bool) (c : CheckedPool F (words p) u) (a : Alike p s o u) where
    stands_taken : (n i : ℕ) → n < max_places → StandsAt p s n i → taken o n ≡ true
    stands_taken n i b x =
        let h = place_height n in
        let (r, l) = old_reached p s h i (place_low s n) x.block x.table in
        a.each n b
        ∙ rw (led_place s fits.range n _ (c.sound.good r) l x.there)
        (c.marks (place_word s n) (h, entry_of (words p) h i, r, l, x.there))

    alike_owners : Owners p s o
    alike_owners = record {
      long = a.long;
      owns = λ n i b x. stands_one c.sound n (get_or o n 0) i (a.stands n b (stands_taken n i b x)) x;
      stands = λ n b. by_cases (eqb (get_or o n 0) none) (λ e. inl (eqb-true (get_or o n 0) none e))
          (λ e. inr (a.stands n b (ap not e)));
    }

  module _ (small : (k : ℕ) → words p k < 4294967296) where
    all : Matches p s (roots_tally s p s.domains) (roots_check F (words p) s.domains (λ x. false))
    all = roots_alike p s fits small s.domains (omega arith)

    -- The answer where all roots are fine, and where one is refused.
    pub fine_census : (o : List ℕ) → roots_tally s p s.domains ≡ owned o → Census p s true o
    fine_census o e = go (roots_check F (words p) s.domains (λ x. false)) refl (rw e at all)
      where
        go : (y : Finding) → roots_check F (words p) s.domains (λ x. false) ≡ y → Matches p s (owned o) y
            → Census p s true o
        go Check.refused f m = absurd m
        go (met u) f m =
            let c = roots_check_sound F (lawful _) (words p) u f in
            record { sound = λ x. c.sound; whole = λ x. refl; owners = λ x. alike_owners o u c m }

    pub failed_census : (o : List ℕ) → roots_tally s p s.domains ≡ refused → Census p s false o
    failed_census o e = record {
      sound = λ x. absurd (false≢true x);
      whole = λ q.
          let (u, f) = sound_roots_check F (lawful _) (words p) q in
          let m : Matches p s refused (met u) = rw (e, f) at all in
          absurd m;
      owners = λ x. absurd (false≢true x);
    }

-- There is one list of owners.
pub one_owners : {p : List ℕ} {s : Shape} {o q : List ℕ} → Owners p s o → Owners p s q → o ≡ q
one_owners {o = o} {q = q} x y = ext_get_or 0 o q (x.long ∙ sym y.long) (λ n b.
    let c : n < max_places = omega (arith, x.long) in
    ⊎_elim
    (λ e. ⊎_elim (λ f. e ∙ sym f) (λ f. x.owns n (get_or q n 0) c f) (y.stands n c))
    (λ e. sym (y.owns n (get_or o n 0) c e))
    (x.stands n c))
