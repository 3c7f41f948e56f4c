-- A settled pool in which two domains have tables: two changes, one for each, of the same 64 bytes.
use Prim.Native.Nat.{ℕ, zero, suc, ◌+◌, ◌*◌, ◌/◌, ◌≤◌, ◌<◌}
use mathlib.Core.Path.{◌≡◌, refl, sym, ap, ◌∙◌}
use mathlib.Core.Logic.{◌≢◌}
use mathlib.Core.Bool.{true, false}
use mathlib.Core.List.{List}
use native.Mathlib.Omega.{arith}
use native.Mathlib.Decide.{ℕ_discrete}
use lib.ListN.{length}
use Rattle.theory.specs.Form.{Form}
use Rattle.theory.specs.Pool.{words, right_of}
use Rattle.theory.specs.Settled.{Settled, HasTable}
use Rattle.words.specs.Region.{rounded, covered}
use Rattle.words.specs.declared.Region.{Region}
use Rattle.words.proofs.RegionLaws.{covered_no}
use Rattle.table.specs.declared.Shape.{Shape}
use Rattle.table.specs.Shape.{Fits, places}
use Rattle.table.specs.Map.{addresses, block, form_of}
use Rattle.table.specs.Fresh.{fresh_pool}
use Rattle.table.proofs.BlockLaws.{part_in_block}
use Rattle.table.proofs.WantLaws.{wants_divided}
use Rattle.table.proofs.FreshWordLaws.{fresh_right, fresh_settled}
use Rattle.places.specs.Count.{count, Room, blocks, domain_of, address_of, want}
use Rattle.places.proofs.CountLaws.{count_into, count_all}
use Rattle.places.proofs.NumberLaws.{number_first}
use Rattle.plan.proofs.AimLaws.{aimed_covered, aimed_other, change_misses}
use Rattle.plan.specs.Aims.{Aim, change_aim, aimed_at}
use Rattle.change.specs.Answers.{IsDone}
use Rattle.change.proofs.GoalLaws.{change_sets, fits_goal}
use Rattle.benchmarks.specs.Witnesses.{SomeSettled}
use Rattle.benchmarks.proofs.RowLaws.{fresh_fits}
use Rattle.benchmarks.proofs.AllowanceLaws.{enough_done}

abbrev pub here : Region
here = rounded 0x1000 64

abbrev pub two : Shape
two = record { domains = 2; middles = 2; leaves = 2 }

abbrev F : Form
F = form_of two

-- A block that is not that of the 64 bytes has none of them.
outside : (h b : ℕ) → h < 2 → b / block (suc h) ≢ 0x1000 / block (suc h) → covered here b ≡ false
outside zero b hi n = covered_no here b (λ x y. n (omega arith))
outside (suc zero) b hi n = covered_no here b (λ x y. n (omega arith))
outside (suc (suc h)) b hi n = absurd (omega arith)

-- Rights that are none elsewhere want at most one table of each height in each domain.
module _ (R : ℕ → ℕ → ℕ) (none : (d b : ℕ) → d < 2 → b < addresses → covered here b ≡ false → R d b ≡ 0) where
  home : (h i : ℕ) → h < 2 → i < blocks h * 2 → want R h i ≡ true → address_of h i / block (suc h)
      ≡ 0x1000 / block (suc h)
  home h i hi bi w =
      let (bd, ba, _) = number_first h 2 i hi bi in
      let (b, c, bb, bc, x, y, z) = wants_divided (R (domain_of h i)) (suc h) (address_of h i) ba w in
      elim (ℕ_discrete (address_of h i / block (suc h)) (0x1000 / block (suc h))) [
        | yes e ↦ e
        | no n ↦ absurd (z (none (domain_of h i) b bd bb (outside h b hi (λ e. n (sym x ∙ e)))
            ∙ sym (none (domain_of h i) c bd bc (outside h c hi (λ e. n (sym x ∙ part_in_block (suc h) b c y ∙ e))))))
      ]

  one_each : (h i j : ℕ) → h < 2 → i < blocks h * 2 → j < blocks h * 2 → want R h i ≡ true → want R h j ≡ true
      → domain_of h i ≡ domain_of h j → i ≡ j
  one_each h i j hi bi bj w v e =
      let (_, _, x) = number_first h 2 i hi bi in
      let (_, _, y) = number_first h 2 j hi bj in
      let z : address_of h i / block (suc h) ≡ address_of h j / block (suc h) = home h i hi bi w
      ∙ sym (home h j hi bj v) in
      sym x ∙ ap (λ d. blocks h * d + address_of h i / block (suc h)) e ∙ ap (λ n. blocks h * domain_of h j + n) z ∙ y

  fit : (h : ℕ) → h < 2 → count (want R h) (blocks h * 2) ≤ 2
  fit h hi =
      let x : count (want R h) (blocks h * 2) ≤ count (λ p. true) 2 =
      count_into (want R h) (blocks h * 2) (λ p. true) 2 (domain_of h) (λ i bi w. ((number_first h 2 i hi bi).0, refl))
      (λ i j bi bj w v e. one_each h i j hi bi bj w v e) in
      let y = count_all 2 in
      omega arith

  fits_two : Room two R
  fits_two = record { tables = λ h hi. rw (two_of_each h hi) (fit h hi) }
    where
      two_of_each : (h : ℕ) → h < 2 → places two h ≡ 2
      two_of_each zero hi = refl
      two_of_each (suc h) hi = refl

-- The change of a domain.
abbrev pub aim : ℕ → Aim
aim d = change_aim d here 2

-- A pool whose rights are none elsewhere; the same of the pool after the change of a domain.
pub record Begun (p : List ℕ) : Type 0 where
  pub fits : Fits two (length p)
  pub settled : Settled F (words p)
  pub none : (e b : ℕ) → e < 2 → b < addresses → covered here b ≡ false → right_of F (words p) e b ≡ 0

aims_none : (p : List ℕ) → Begun p → (d e b : ℕ) → e < 2 → b < addresses → covered here b ≡ false
    → aimed_at two (aim d) (words p) e b ≡ 0
aims_none p o d e b be bb n = aimed_other two (aim d) (words p) e b (change_misses d here 2 e b n) ∙ o.none e b be bb n

-- That change finishes.
pub next : (p : List ℕ) → Begun p → (d : ℕ) → (q : List ℕ) × IsDone two (aim d) p (length p) q
next p o d =
    let (Q, kept, g) = fits_goal two (aim d) p (change_sets two d here 2 p (omega arith)) o.fits o.settled.sound
    (fits_two (aimed_at two (aim d) (words p)) (aims_none p o d)) in
    enough_done two (aim d) p Q kept g

begun : (p : List ℕ) → Begun p → (d : ℕ) (q : List ℕ) → IsDone two (aim d) p (length p) q → Begun q
begun p o d q f = record {
  fits = rw f.long o.fits;
  settled = f.finished.settled;
  none = λ e b be bb n. f.finished.rights e b be bb ∙ aims_none p o d e b be bb n;
}

pub fresh_begun : Begun (fresh_pool two)
fresh_begun = record {
  fits = fresh_fits two (record {
    some_domain = omega arith;
    domains = omega arith;
    middles = omega arith;
    leaves =
        omega arith;
  });
  settled = fresh_settled two;
  none = λ e b be bb n. fresh_right two e b be;
}

pub some_settled : SomeSettled
some_settled =
    let (p, f) = next (fresh_pool two) fresh_begun 0 in
    let o = begun (fresh_pool two) fresh_begun 0 p f in
    let (q, g) = next p o 1 in
    let z = begun p o 1 q g in
    let first : right_of F (words q) 0 0x1000 ≡ 2 =
    g.finished.rights 0 0x1000 (omega arith) (omega arith) ∙ aimed_other two (aim 1) (words p) 0 0x1000 refl
    ∙ f.finished.rights 0 0x1000 (omega arith) (omega arith) ∙ aimed_covered two (aim 0)
    (words (fresh_pool two)) 0 0x1000 refl in
    let second : right_of F (words q) 1 0x1000 ≡ 2 =
    g.finished.rights 1 0x1000 (omega arith) (omega arith) ∙ aimed_covered two (aim 1) (words p) 1 0x1000
    refl in
    let rights : (d : ℕ) → d < 2 → right_of F (words q) d 0x1000 ≡ 2 = λ d h. elim (ℕ_discrete d 0) [
      | yes e ↦ rw e first
      | no n ↦ (let e : d ≡ 1 = omega arith in rw e second)
    ] in
    record {
      shape = two;
      pool = q;
      fits = z.fits;
      settled = z.settled;
      two = omega arith;
      middle = λ d h. (0x1000, has q z d 1 h (omega arith) (rights d h));
      leaf = λ d h. (0x1000, has q z d 0 h (omega arith) (rights d h));
    }
  where
    differ : {x y : ℕ} → x ≡ 2 → y ≡ 0 → x ≢ y
    differ a b e = omega arith

    has : (q : List ℕ) → Begun q → (d h : ℕ) → d < 2 → h < 2 → right_of F (words q) d 0x1000 ≡ 2
        → HasTable F (words q) d 0x1000 h
    has q z d zero bd hi e =
        z.settled.there bd (omega arith) (omega arith)
        (0x1000, 0x1040, omega arith, omega arith, refl, refl, differ e (z.none d 0x1040 bd (omega arith) refl))
    has q z d (suc zero) bd hi e =
        z.settled.there bd (omega arith) (omega arith)
        (0x1000, 0x1040, omega arith, omega arith, refl, refl, differ e (z.none d 0x1040 bd (omega arith) refl))
    has q z d (suc (suc h)) bd hi e = absurd (omega arith)
