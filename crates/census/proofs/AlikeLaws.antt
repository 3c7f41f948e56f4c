-- The census as a program takes it, place by place, goes as the check of the theory, table by table; each place is
-- given to the block whose table stands there.
use Prim.Native.Nat.{ℕ, zero, suc, ◌+◌, ◌*◌, ◌-◌, ◌≤◌, ◌<◌}
use mathlib.Core.Path.{◌≡◌, refl, sym, ap, ◌∙◌}
use mathlib.Core.Bool.{Bool, true, false, not, ◌&&◌, and-false, false≢true}
use mathlib.Core.List.{List}
use native.Mathlib.Omega.{arith}
use native.Mathlib.Decide.{ℕ_discrete}
use lib.Dec.{eqb}
use lib.ListN.{length, get_or, set, replicate, length-set, length-replicate, get_or-replicate}
use lib.Seq.{get_or-set_same, get_or-set_other}
use borrow.Author.Tests.{lt-ltb, eq-eqb, ne_eqb}
use Rattle.theory.specs.Form.{Form}
use Rattle.theory.specs.Pool.{words}
use Rattle.theory.specs.Check.{Finding, met, mark, each, entry_check, table_check, roots_check}
use Rattle.theory.specs.Check as Check
use Rattle.theory.proofs.Logic.{by_cases}
use Rattle.table.specs.declared.Shape.{Shape}
use Rattle.table.specs.declared.Entry.{Entry}
use Rattle.table.specs.declared.Entry.TheVariants.{Rights, Leads, Bad}
use Rattle.table.specs.Shape.{Fits, size}
use Rattle.table.specs.Map.{leads, form_of}
use Rattle.table.specs.Entries.{decode_of}
use Rattle.table.proofs.EntryLaws.{decoded_bad, decoded_rights, decoded_leads}
use Rattle.census.specs.Places.{max_places, place_word}
use Rattle.census.proofs.PlaceLaws.{has_place, place_apart, PlaceAt, decoded_place}
use Rattle.census.specs.Tally.{Tally, refused, owned, and_then, none, taken, give, enter, through, table_tally}
use Rattle.census.specs.Tally.{roots_tally}
use Rattle.census.specs.Census.{StandsAt}
use Rattle.census.proofs.TallyLaws.{enter_rights, enter_bad, enter_given, enter_again}
use Rattle.census.proofs.StandLaws.{EntryOf, TableOf, root_table, entry_table, block_few, stands_at}

-- The theory's check of an entry, case by case.
module _ (F : Form) (P : ℕ → ℕ) (h k : ℕ) (u : ℕ → Bool) where
  pub check_bad : F.good (suc h) (P k) ≡ false → entry_check F P (suc h) k u ≡ Check.refused
  unfolding entry_check
  check_bad g = rw g

  module _ (g : F.good (suc h) (P k) ≡ true) where
    pub check_rights : F.leads (suc h) (P k) ≡ false → entry_check F P (suc h) k u ≡ met u
    unfolding entry_check
    check_rights l = rw (g, l)

    module _ (l : F.leads (suc h) (P k) ≡ true) where
      pub check_again : u (F.target (suc h) (P k)) ≡ true → entry_check F P (suc h) k u ≡ Check.refused
      unfolding entry_check
      check_again e = rw (g, l, e)

      pub check_down : u (F.target (suc h) (P k)) ≡ false
          → entry_check F P (suc h) k u ≡ table_check F P h (F.target (suc h) (P k)) (mark u (F.target (suc h) (P k)))
      unfolding entry_check
      check_down e = rw (g, l, e)

-- A leaf is fine whatever it holds.
leaf_fine : (F : Form) (P : ℕ → ℕ) → ((k : ℕ) → F.good 0 (P k) ≡ true) → (n t : ℕ) (u : ℕ → Bool)
    → each (entry_check F P 0) t n u ≡ met u
unfolding each entry_check
leaf_fine F P good zero t u = refl
leaf_fine F P good (suc n) t u = rw (good t) (leaf_fine F P good n (t + 1) u)

-- The places that have an owner are those where a table of the set `u` begins, and the owner is the block whose table
-- stands there.
pub record Alike (p : List ℕ) (s : Shape) (o : List ℕ) (u : ℕ → Bool) : Type 0 where
  pub long : length o ≡ max_places
  pub each : (n : ℕ) → n < max_places → taken o n ≡ (has_place s n && u (place_word s n))
  pub stands : (n : ℕ) → n < max_places → taken o n ≡ true → StandsAt p s n (get_or o n 0)

-- The tally is what the theory's check answers.
abbrev pub Matches : List ℕ → Shape → Tally → Finding → Type 0
Matches p s refused Check.refused = Unit {0}
Matches p s refused (met u) = ⊥
Matches p s (owned o) Check.refused = ⊥
Matches p s (owned o) (met u) = Alike p s o u

module _ (p : List ℕ) (s : Shape) where
  none_alike : Alike p s (replicate max_places none) (λ x. false)
  none_alike =
      let off : (n : ℕ) → n < max_places → taken (replicate max_places none) n ≡ false =
      λ n b. ap (λ x. not (eqb x none)) (get_or-replicate max_places n none 0 b) ∙ ap not (eq-eqb none none refl) in
      record {
        long = length-replicate max_places none;
        each = λ n b. off n b ∙ sym (and-false (has_place s n));
        stands = λ n b t. absurd (false≢true (sym (off n b) ∙ t));
      }

  -- One check after another.
  then_alike : (F : List ℕ → Tally) (G : (ℕ → Bool) → Finding)
      → ((o : List ℕ) (u : ℕ → Bool) → Alike p s o u → Matches p s (F o) (G u))
      → (y : Tally) (z : Finding) → Matches p s y z → Matches p s (and_then y F) (Check.and_then z G)
  then_alike F G next refused Check.refused m = tt
  then_alike F G next refused (met u) m = absurd m
  then_alike F G next (owned o) Check.refused m = absurd m
  then_alike F G next (owned o) (met u) m = next o u m

  -- A place of the shape is given to the block whose entry leads there, for the first time ..
  module _ (few : s.domains ≤ 4) (o : List ℕ) (u : ℕ → Bool) (a : Alike p s o u) (h k i n : ℕ)
      (x : PlaceAt s (suc h) (words p k) n) where
    abbrev w : ℕ
    w = words p k

    taken_table : taken o n ≡ u w
    taken_table = a.each n x.below ∙ rw (x.has, x.word)

    module _ (y : EntryOf s.domains (words p) h k i) (l : leads (suc h) w ≡ true) (new : u w ≡ false) where
      give_new : give n i o ≡ owned (set o n i)
      give_new = rw (taken_table ∙ new)

      given_here : get_or (set o n i) n 0 ≡ i
      given_here = get_or-set_same o n i 0 (omega (arith, x.below, a.long))

      given_taken : taken (set o n i) n ≡ true
      given_taken = ap (λ v. not (eqb v none)) given_here
          ∙ ap not (ne_eqb i none (λ e. let b = block_few s.domains h i few y.block in omega arith))

      given_each : (m : ℕ) → m < max_places → taken (set o n i) m ≡ (has_place s m && mark u w (place_word s m))
      given_each m b = elim (ℕ_discrete m n) [
        | yes e ↦ rw e (given_taken ∙ rw (x.has, eq-eqb (place_word s n) w x.word))
        | no e ↦ ap (λ v. not (eqb v none)) (get_or-set_other o n m i 0 e) ∙ a.each m b ∙ by_cases (has_place s m)
            (λ q. rw (q, ne_eqb (place_word s m) w (λ f. e (place_apart s m n q x.has (f ∙ sym x.word)))))
            (λ q. rw q)
      ]

      given_stands : (m : ℕ) → m < max_places → taken (set o n i) m ≡ true → StandsAt p s m (get_or (set o n i) m 0)
      given_stands m b t = elim (ℕ_discrete m n) [
        | yes e ↦ rw (e, given_here) (stands_at p s h k i n y l x)
        | no e ↦ (let g = get_or-set_other o n m i 0 e in rw g (a.stands m b (ap (λ v. not (eqb v none)) (sym g) ∙ t)))
      ]

      give_alike : Alike p s (set o n i) (mark u w)
      give_alike = record { long = length-set o n i ∙ a.long; each = given_each; stands = given_stands }

    -- .. or again.
    give_again : u w ≡ true → give n i o ≡ refused
    give_again again = rw (taken_table ∙ again)

-- Words in turn, where `f` and `g` check one alike.
through_alike : (p : List ℕ) (s : Shape) (f : ℕ → ℕ → List ℕ → Tally) (g : ℕ → (ℕ → Bool) → Finding) (n k j : ℕ)
    → ((e : ℕ) → e < n → (o : List ℕ) (u : ℕ → Bool) → Alike p s o u → Matches p s (f (k + e) (j + e) o) (g (k + e) u))
    → (o : List ℕ) (u : ℕ → Bool) → Alike p s o u → Matches p s (through f n k j o) (each g k n u)
unfolding through each
through_alike p s f g zero k j one o u a = a
through_alike p s f g (suc n) k j one o u a =
    let x : k + 0 ≡ k = omega arith in
    let y : j + 0 ≡ j = omega arith in
    then_alike p s (through f n (k + 1) (j + 1)) (each g (k + 1) n)
    (through_alike p s f g n (k + 1) (j + 1) (λ e b.
    let v : k + 1 + e ≡ k + (e + 1) = omega arith in
    let w : j + 1 + e ≡ j + (e + 1) = omega arith in
    rw (v, w) (one (e + 1) (omega arith))))
    (f k j o) (g k u) (rw (x, y) at (one 0 (omega arith) o u a))

module _ (p : List ℕ) (s : Shape) (fits : Fits s (length p)) (small : (k : ℕ) → words p k < 4294967296) where
  abbrev F : Form
  F = form_of s

  -- The entry of block `i`, where the tables below it are checked alike.
  module _ (h k i : ℕ) (hi : h < 2) (y : EntryOf s.domains (words p) h k i)
      (below : (t : ℕ) → t + size h ≤ length p → TableOf s.domains (words p) h t i → (o : List ℕ) (u : ℕ → Bool)
      → Alike p s o u
      → Matches p s (table_tally s p h t i o) (table_check F (words p) h t u)) where
    entry_alike : (o : List ℕ) (u : ℕ → Bool) → Alike p s o u
        → Matches p s (enter (table_tally s p h) (decode_of s (suc h) (words p k)) i o)
        (entry_check F (words p) (suc h) k u)
    entry_alike o u a = go (decode_of s (suc h) w) refl
      where
        w : ℕ
        w = words p k

        go : (e : Entry) → decode_of s (suc h) w ≡ e → Matches p s (enter (table_tally s p h) e i o)
            (entry_check F (words p) (suc h) k u)
        go (Rights r) e =
            let (_, g, l) = decoded_rights s (suc h) w r (omega arith) (omega arith) e in
            rw (check_rights F (words p) h k u g l, enter_rights (table_tally s p h) {e = Rights r} i o refl) a
        go Bad e =
            rw (
              check_bad F (words p) h k u (decoded_bad s (suc h) w (omega arith) (omega arith) e),
              enter_bad
                  (table_tally s p h) {e = Bad} i o refl,
            ) tt
        go (Leads t n) e =
            let (q, g, l, b) = decoded_leads s (suc h) w t n (omega arith) (omega arith) e in
            let z : suc h - 1 ≡ h = omega arith in
            let few = fits.range.domains in
            let x = decoded_place s fits.range (suc h) w t n (omega arith) (omega arith) e in
            by_cases (u w)
            (λ again.
            rw (
              check_again F (words p) h k u g l again,
              enter_again (table_tally s p h) {e = Leads t n} i o refl (give_again p s few o u a h k i n x again),
            ) tt)
            (λ new.
            rw (
              check_down F (words p) h k u g l new,
              enter_given (table_tally s p h) {e = Leads t n} i o refl (give_new p s few o u a h k i n x y l new),
              q,
            )
            (below w (omega (arith, rw z at b, fits.long)) (entry_table s.domains (words p) h k i hi y l)
            (set o n i) (mark u w)
            (give_alike p s few o u a h k i n x y l new)))

  pub table_alike : (h t i : ℕ) → h ≤ 2 → t + size h ≤ length p → TableOf s.domains (words p) h t i
      → (o : List ℕ) (u : ℕ → Bool) → Alike p s o u
      → Matches p s (table_tally s p h t i o) (table_check F (words p) h t u)
  unfolding table_tally
  table_alike zero t i hi b y o u a = rw (leaf_fine (form_of s) (words p)
      (λ k. lt-ltb (words p k) 4294967296 (small k)) 64 t u) a
  table_alike (suc h) t i hi b y o u a =
      through_alike p s (λ k j. enter (table_tally s p h) (decode_of s (suc h) (words p k)) j)
      (entry_check F (words p) (suc h)) 1024 t (1024 * i)
      (λ e c. entry_alike h (t + e) (1024 * i + e) (omega arith) (y e c)
      (λ x r z. table_alike h x (1024 * i + e) (omega arith) r z)) o u a

  pub roots_alike : (n : ℕ) → n ≤ s.domains → Matches p s (roots_tally s p n) (roots_check F (words p) n (λ x. false))
  unfolding roots_tally roots_check
  roots_alike zero b = none_alike p s
  roots_alike (suc n) b =
      then_alike p s (table_tally s p 2 (1024 * n) n) (table_check F (words p) 2 (1024 * n))
      (λ o u a. table_alike 2 (1024 * n) n (omega arith) (omega (arith, fits.long))
      (root_table s.domains (words p) n b) o u a)
      (roots_tally s p n) (roots_check F (words p) n (λ x. false)) (roots_alike n (omega arith))
