-- Laws of wanted tables: a sound pool is settled exactly where every table in it is wanted.
use Rattle.std.proofs.Common.{Option}
use Rattle.std.specs.Option.{is_none}
use Prim.Native.Nat.{ℕ, zero, suc, ◌+◌, ◌*◌, ◌-◌, ◌/◌, ◌%◌, ◌≤◌, ◌<◌}
use mathlib.Core.Path.{◌≡◌, refl, sym, ap, ◌∙◌}
use mathlib.Core.Logic.{⊎_elim}
use mathlib.Core.Bool.{Bool, true, not, true≢false}
use mathlib.Core.List.{List}
use native.Mathlib.Omega.{arith}
use native.Mathlib.Decide.{ℕ_discrete}
use native.Mathlib.Numerals.{add-one}
use lib.ListN.{length, get_or}
use borrow.Author.Tests.{eq-eqb, ne_eqb}
use Rattle.theory.specs.Pool.{words, SoundPool, right_of}
use Rattle.theory.specs.Settled.{Settled}
use Rattle.theory.proofs.Logic.{by_cases, and_both}
use Rattle.table.specs.declared.Shape.{Shape}
use Rattle.table.specs.Shape.{Fits}
use Rattle.table.specs.Map.{addresses, block, leads, form_of}
use Rattle.table.specs.Wants.{wants_of, WordRights}
use Rattle.table.proofs.WantLaws.{wants_block, wants_up, pool_rights}
use Rattle.places.specs.Count.{blocks, domain_of, want}
use Rattle.places.specs.Final.{entry_of, old}
use Rattle.places.proofs.Exists as Exists
use Rattle.census.specs.Places.{max_places, place_height, place_word}
use Rattle.census.proofs.PlaceLaws.{middle_number, leaf_number}
use Rattle.census.specs.Tally.{none, taken}
use Rattle.census.specs.Census.{StandsAt, Owners}
use Rattle.census.proofs.CensusLaws.{place_low, old_reached}
use Rattle.census.proofs.OwnerLaws.{was_owner, was_taken}
use Rattle.targets.specs.declared.Paint.{Paint}
use Rattle.targets.specs.Targets.{painted, target_of, Gives, Readable}
use Rattle.targets.specs.Steps.{LeafIn}
use Rattle.targets.proofs.TargetLaws.{wanted_mixed, unwanted_said}
use Rattle.targets.proofs.PaintLaws.{painted_none}
use Rattle.targets.proofs.PartLaws.{target_agree}
use Rattle.targets.proofs.PoolLaws.{root_gives, middle_gives, reached_readable}

-- With nothing painted, the target is that of the rights as they are.
pub unpainted_target : (p : Paint) (R : ℕ → ℕ) (h n : ℕ) → p.hi ≤ p.lo → target_of (painted p R) h (n * block h)
    ≡ target_of R h (n * block h)
unpainted_target p R h n none = target_agree (painted p R) h n R (λ a e. painted_none p R a none)

mixed_wants : (R : ℕ → ℕ) (h a : ℕ) → is_none (target_of R h a) ≡ wants_of R h a
mixed_wants R h a = by_cases (wants_of R h a)
    (λ w. ap is_none (wanted_mixed R h a w) ∙ sym w)
    (λ w. ap is_none (unwanted_said R h a w) ∙ sym w)

-- So the test of it tells whether a table is wanted.
pub unpainted_wants : (p : Paint) (R : ℕ → ℕ) (h n : ℕ) (t : Option ℕ) (r : Bool) → p.hi ≤ p.lo → r ≡ is_none t
    → t ≡ target_of (painted p R) h (n * block h) → r ≡ wants_of R h (n * block h)
unpainted_wants p R h n t r none e f = e ∙ ap is_none (f ∙ unpainted_target p R h n none)
    ∙ mixed_wants R h (n * block h)

-- The entry of a block gives it the rights of its domain ..
pub entry_gives : (s : Shape) (P : ℕ → ℕ) (h i : ℕ) → h < 2 → old P h i ≡ true
    → Gives P (suc h) (P (entry_of P h i)) (i % blocks h) (right_of (form_of s) P (domain_of h i))
entry_gives s P zero i hi o =
    let (l, _) = and_both (leads 2 (P (i / 1024))) (leads 1 (P (entry_of P 0 i))) o in
    let e : 1024 * (i / 1048576) + i / 1024 % 1024 ≡ i / 1024 = omega arith in
    let n : i / 1024 % 1024 * 1024 + i % 1024 ≡ i % 1048576 = omega arith in
    rw n at (middle_gives P (right_of (form_of s) P (i / 1048576)) (P (i / 1024)) (i / 1024 % 1024) (i % 1024) l
    (omega arith)
    (rw e at (root_gives s P (i / 1048576) (i / 1024 % 1024) (omega arith))))
entry_gives s P (suc zero) i hi o =
    let e : 1024 * (i / 1024) + i % 1024 ≡ i = omega arith in
    rw e at (root_gives s P (i / 1024) (i % 1024) (omega arith))
entry_gives s P (suc (suc h)) i hi o = absurd (omega arith)

-- The tables at the places from `n` on are wanted.
abbrev pub WantedFrom : List ℕ → Shape → List ℕ → ℕ → Type 0
WantedFrom p s o n = (m : ℕ) → n ≤ m → m < max_places → taken o m ≡ true → want (right_of (form_of s) (words p))
    (place_height m) (get_or o m 0) ≡ true

-- .. and so from one place further down.
pub wanted_more : (p : List ℕ) (s : Shape) (o : List ℕ) (n : ℕ) → WantedFrom p s o n
    → (taken o (n - 1) ≡ true → want (right_of (form_of s) (words p)) (place_height (n - 1)) (get_or o (n - 1) 0) ≡ true)
    → WantedFrom p s o (n - 1)
wanted_more p s o n w one m lo hi t = elim (ℕ_discrete m (n - 1)) [
  | yes e ↦ rw e (one (rw e at t))
  | no e ↦ w m (omega arith) hi t
]

-- A wanted leaf lies in a block whose table is wanted.
pub leaf_wants_table : (R : ℕ → ℕ → ℕ) (i : ℕ) → ((d : ℕ) → WordRights (R d)) → want R 0 i ≡ true
    → want R 1 (i / 1024) ≡ true
leaf_wants_table R i S w =
    let d : i / 1024 / 1024 ≡ i / 1048576 = omega arith in
    let a = i % 1048576 * 4096 in
    let b : i / 1024 % 1024 * 4194304 / 4194304 ≡ a / 4194304 = omega arith in
    rw d (wants_block (R (i / 1048576)) 2 (i / 1024 % 1024 * 4194304) a b ∙ wants_up (R (i / 1048576)) 1 a
    (S (i / 1048576)) (omega arith) (omega arith) w)

module _ (p : List ℕ) (s : Shape) (fits : Fits s (length p)) (q : SoundPool (form_of s) (words p)) where
  abbrev R : ℕ → ℕ → ℕ
  R = right_of (form_of s) (words p)

  -- .. and can be read.
  pub entry_readable : (h i : ℕ) → h < 2 → i < blocks h * s.domains → old (words p) h i ≡ true
      → Readable p (suc h) (words p (entry_of (words p) h i))
  entry_readable h i hi b o = reached_readable s p fits q (suc h) (entry_of (words p) h i)
      (old_reached p s h i hi b o).0

  -- The table of block `i` at place `n`, by the numbers that a program makes of them: the height `h`, the entry `e`
  -- and the block's number `m`.
  module _ (n i h e m : ℕ) (x : StandsAt p s n i) (eh : h ≡ place_height n) (ee : e ≡ place_word s n)
      (em : m ≡ i % blocks h) where
    has : old (words p) h i ≡ true
    has = rw eh x.table

    there : words p (entry_of (words p) h i) ≡ e
    there = rw (eh, ee) x.there

    low : h < 2
    low = rw eh (place_low s n)

    pub place_readable : Readable p (h + 1) e
    place_readable = rw (← there, add-one) (entry_readable h i low (rw eh x.block) has)

    pub place_below : m < addresses / block (h + 1)
    place_below = rw (em, add-one) (below h low)
      where
        below : (h : ℕ) → h < 2 → i % blocks h < addresses / block (suc h)
        below zero hi = omega arith
        below (suc h) hi = omega arith

    -- With nothing painted, the test of its target tells whether it is wanted.
    pub place_wants : (paint : Paint) (t : Option ℕ) (r : Bool) → paint.hi ≤ paint.lo
        → ((T : ℕ → ℕ) → Gives (words p) (h + 1) e m T → t ≡ target_of (painted paint T) (h + 1) (m * block (h + 1)))
        → r ≡ is_none t → r ≡ want R (place_height n) i
    place_wants paint t r empty told is =
        let g : Gives (words p) (h + 1) e m (R (domain_of h i)) = rw (add-one, em, ← there)
        (entry_gives s (words p) h i low has) in
        unpainted_wants paint (R (domain_of h i)) (h + 1) m t r empty is (told (R (domain_of h i)) g)
        ∙ rw (add-one, em, eh) refl

  module _ (o : List ℕ) (own : Owners p s o) where
    -- A table with a leaf is wanted where its leaves are.
    pub leaf_wanted : (n m : ℕ) → m ≤ n + 1 → n < max_places → taken o n ≡ true → LeafIn o n (get_or o n 0)
        → WantedFrom p s o m
        → want R (place_height n) (get_or o n 0) ≡ true
    leaf_wanted n m le b t l w =
        let x = middle_number s n l.middle in
        let y = leaf_number s l.place l.above in
        let z : get_or o n 0 < 4096 = ⊎_elim
        (λ e. absurd (true≢false (sym t ∙ ap not (eq-eqb (get_or o n 0) none e))))
        (λ k. let c = rw x.height at k.block in let few = fits.range.domains in omega arith)
        (own.stands n b) in
        let f = w l.place (omega (arith, l.middle, l.above)) l.below
        (ap not (ne_eqb (get_or o l.place 0) none (λ e. let g = l.inside in omega arith))) in
        rw x.height (rw l.inside at (leaf_wants_table R (get_or o l.place 0)
        (λ d. pool_rights s (words p) d) (rw y.height at f)))

    -- Where all are, every block that has a table wants it, and the pool is settled ..
    old_wanted : WantedFrom p s o 0 → (h i : ℕ) → h < 2 → i < blocks h * s.domains → old (words p) h i ≡ true
        → want R h i ≡ true
    old_wanted w h i hi b x =
        let (e, c, t) = was_taken p s fits q o own h hi i b x in
        rw (e, was_owner p s fits q o own h hi i b x) at (w _ (omega arith) c t)

    pub wanted_settled : WantedFrom p s o 0 → Settled (form_of s) (words p)
    wanted_settled w = Exists.wanted_settled s q (λ h hi i b x. old_wanted w h i hi b x)

    -- .. and only there.
    pub settled_wanted : Settled (form_of s) (words p) → WantedFrom p s o 0
    settled_wanted z m a b t = ⊎_elim
        (λ e. absurd (true≢false (sym t ∙ ap not (eq-eqb (get_or o m 0) none e))))
        (λ x. sym (Exists.settled_table s (λ d a bd ba. refl)
        (λ d bd. pool_rights s (words p) d) z (place_height m) (get_or o m 0)
        (place_low s m) x.block) ∙ x.table)
        (own.stands m b)
