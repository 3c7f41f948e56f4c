-- Laws of regions: the three answers, what a region covers, and that these are the words asked for. Assumes nothing.
use Prim.Native.Nat.{ℕ, ◌+◌, ◌*◌, ◌/◌, ◌%◌, ◌≤◌, ◌<◌}
use mathlib.Core.Path.{◌≡◌, refl, sym, ap, ◌∙◌}
use mathlib.Core.Logic.{◌⊎◌, inl, inr}
use mathlib.Core.Bool.{true, false, ◌&&◌, and-eq-true_iff}
use native.Mathlib.Omega.{arith}
use native.Mathlib.Decide.{ℕ_discrete, dec_lt, dec_le}
use lib.Dec.{leb, ltb}
use borrow.Author.Tests.{eq-eqb, ne_eqb, le-leb, lt-leb, lt-ltb, le-ltb, leb-true, ltb-true}
use Rattle.words.specs.declared.Region.{Region}
use Rattle.std.specs.Prelude.{Result, Ok, Err}
use Rattle.refusals.specs.declared.Refusal.{Refusal}
use Rattle.refusals.specs.declared.Refusal.TheVariants.{EmptyRegion, PastTheEnd}
use Rattle.words.specs.Region.{rounded_start, rounded_length, rounded_end, rounded, region_of, numbers, covered}

pub region_equal : (r s : Region) → r.lo ≡ s.lo → r.hi ≡ s.hi → r ≡ s
region_equal r s e f = ap (λ x. record { lo = x; hi = r.hi }) e ∙ ap (λ x. record { lo = s.lo; hi = x }) f

-- The three answers.

pub region_empty : (start length : ℕ) → length ≡ 0 → region_of start length ≡ Err EmptyRegion
unfolding region_of
region_empty start length h = rw (eq-eqb length 0 h) refl

pub region_beyond : (start length : ℕ) → 0 < length → 4294967296 < rounded_end start length → region_of start length
    ≡ Err PastTheEnd
unfolding region_of
region_beyond start length h k = rw (
  ne_eqb length 0 (λ e. omega arith),
  lt-ltb 4294967296 (rounded_end start length)
      k,
) refl

pub region_covers : (start length : ℕ) → 0 < length → rounded_end start length ≤ 4294967296 → region_of start length
    ≡ Ok (rounded start length)
unfolding region_of
region_covers start length h k = rw (
  ne_eqb length 0 (λ e. omega arith),
  le-ltb 4294967296 (rounded_end start length)
      k,
) refl

-- A region is refused with 4 or 5 ..
pub region_number : (start length : ℕ) (k : Refusal) → region_of start length ≡ Err k
    → (k ≡ EmptyRegion) ⊎ (k ≡ PastTheEnd)
region_number start length k e = elim (ℕ_discrete length 0) [
  | yes a ↦ inl (number (sym (region_empty start length a) ∙ e))
  | no a ↦ elim (dec_lt 4294967296 (rounded_end start length)) [
    | yes b ↦ inr (number (sym (region_beyond start length (omega (arith, a)) b) ∙ e))
    | no b ↦ absurd (other (sym (region_covers start length (omega (arith, a)) (omega arith)) ∙ e))
  ]
]
  where
    number : {m : Refusal} → ◌≡◌ {A = Result Region Refusal} (Err m) (Err k) → k ≡ m
    number z = cc

    other : {g : Region} → Ok g ≡ Err k → ⊥
    other z = cc

-- .. or has the words from its rounded start up to its rounded end, in the paper's numbers.
pub region_numbers : (start length : ℕ) → 0 < length → rounded_end start length ≤ 4294967296
    → numbers (region_of start length) ≡ record {
      refusal = 0;
      lo = rounded_start start / 4;
      hi = rounded_end start length / 4;
    }
region_numbers start length h k = ap numbers (region_covers start length h k)

-- What a region that is not refused is like.
pub record Covering (start length : ℕ) (r : Region) : Type 0 where
  pub asked : 0 < length
  pub is_rounded : r ≡ rounded start length
  pub within : rounded_end start length ≤ 4294967296
  pub some : r.lo < r.hi
  pub below : r.hi ≤ 1073741824

pub region_covering : (start length : ℕ) (r : Region) → region_of start length ≡ Ok r → Covering start length r
region_covering start length r e = elim (ℕ_discrete length 0) [
  | yes h ↦ absurd (never (sym (region_empty start length h) ∙ e))
  | no h ↦ elim (dec_lt 4294967296 (rounded_end start length)) [
    | yes k ↦ absurd (never (sym (region_beyond start length (omega arith) k) ∙ e))
    | no k ↦ made (omega arith) (omega arith) (same (sym e ∙ region_covers start length (omega arith) (omega arith)))
  ]
]
  where
    never : {k : Refusal} → Err k ≡ Ok r → ⊥
    never p = cc

    same : ◌≡◌ {A = Result Region Refusal} (Ok r) (Ok (rounded start length)) → r ≡ rounded start length
    same p = cc

    made : 0 < length → rounded_end start length ≤ 4294967296 → r ≡ rounded start length → Covering start length r
    made h k p = record { asked = h; is_rounded = p; within = k; some = rw p (omega arith); below = rw p (omega arith) }

-- Whether an address is covered.

pub covered_yes : (g : Region) (a : ℕ) → g.lo ≤ a / 4 → a / 4 < g.hi → covered g a ≡ true
covered_yes g a x y = rw (le-leb g.lo (a / 4) x, lt-ltb (a / 4) g.hi y) refl

pub covered_no : (g : Region) (a : ℕ) → (g.lo ≤ a / 4 → a / 4 < g.hi → ⊥) → covered g a ≡ false
covered_no g a f = elim (dec_le g.lo (a / 4)) [
  | yes x ↦ elim (dec_lt (a / 4) g.hi) [
    | yes y ↦ absurd (f x y)
    | no y ↦ rw (le-leb g.lo (a / 4) x, le-ltb (a / 4) g.hi (omega arith)) refl
  ]
  | no x ↦ rw (lt-leb g.lo (a / 4) (omega arith)) refl
]

pub covered_range : (g : Region) (a : ℕ) → covered g a ≡ true → (g.lo ≤ a / 4) × (a / 4 < g.hi)
covered_range g a e =
    let (x, y) = (and-eq-true_iff (leb g.lo (a / 4)) (ltb (a / 4) g.hi)).0 e in
    (leb-true g.lo (a / 4) x, ltb-true (a / 4) g.hi y)

-- What a region covers, in bytes.

pub covered_bytes : (r : Region) (a : ℕ) → covered r a ≡ (leb (4 * r.lo) a && ltb a (4 * r.hi))
covered_bytes r a = ap (λ x. x && ltb (a / 4) r.hi) (low r.lo) ∙ ap (λ x. leb (4 * r.lo) a && x) (high r.hi)
  where
    low : (n : ℕ) → leb n (a / 4) ≡ leb (4 * n) a
    low n = elim (dec_le n (a / 4)) [
      | yes h ↦ le-leb n (a / 4) h ∙ sym (le-leb (4 * n) a (omega arith))
      | no h ↦ lt-leb n (a / 4) (omega arith) ∙ sym (lt-leb (4 * n) a (omega arith))
    ]

    high : (n : ℕ) → ltb (a / 4) n ≡ ltb a (4 * n)
    high n = elim (dec_lt (a / 4) n) [
      | yes h ↦ lt-ltb (a / 4) n h ∙ sym (lt-ltb a (4 * n) (omega arith))
      | no h ↦ le-ltb (a / 4) n (omega arith) ∙ sym (le-ltb a (4 * n) (omega arith))
    ]

-- The covered bytes are those from the rounded start on, as many as the rounded length says.
pub rounded_covers : (start length a : ℕ) → covered (rounded start length) a
    ≡ (leb (rounded_start start) a && ltb a (rounded_end start length))
rounded_covers start length a =
    covered_bytes (rounded start length) a ∙ ap (λ n. leb n a && ltb a (4 * (rounded start length).hi)) lo
    ∙ ap (λ n. leb (rounded_start start) a && ltb a n) hi
  where
    lo : 4 * (rounded start length).lo ≡ rounded_start start
    lo = omega arith

    hi : 4 * (rounded start length).hi ≡ rounded_end start length
    hi = omega arith

-- What is asked for is the bytes from the start on, as many as the length says. Each of them is covered ..
pub asked_covered : (start length b : ℕ) → start ≤ b → b < start + length → covered (rounded start length) b ≡ true
asked_covered start length b lo hi = covered_yes (rounded start length) b (omega arith) (omega arith)

-- .. and each word covered has one of them.
pub covered_asked : (start length a : ℕ) → 0 < length → covered (rounded start length) a ≡ true
    → (b : ℕ) × (b / 4 ≡ a / 4) × (start ≤ b) × (b < start + length)
covered_asked start length a h e =
    let (lo, hi) = covered_range (rounded start length) a e in
    elim (dec_le start (a / 4 * 4)) [
      | yes k ↦ (a / 4 * 4, omega arith, k, omega (arith, hi))
      | no k ↦ (start, omega (arith, lo), omega arith, omega (arith, h))
    ]

-- 5 is given exactly where one of them lies past the end of memory.
pub asked_beyond : (start length : ℕ) → 0 < length → 4294967296 < start + length → region_of start length ≡ Err PastTheEnd
asked_beyond start length h k = region_beyond start length h (omega arith)

pub asked_within : (start length : ℕ) → 0 < length → start + length ≤ 4294967296
    → region_of start length ≡ Ok (rounded start length)
asked_within start length h k = region_covers start length h (omega arith)

-- From the first byte of a word on, the length is rounded by itself.
pub whole_words : (start length : ℕ) → start % 4 ≡ 0 → rounded_length start length ≡ (length + 3) / 4 * 4
whole_words start length e = omega (arith, e)
