-- Laws of the census as a program takes it: what an answer tells, a table one entry further, and an entry by what it
-- decodes to.
use Prim.Native.Nat.{ℕ, zero, suc, ◌+◌, ◌*◌, ◌-◌, ◌≤◌, ◌<◌}
use mathlib.Core.Path.{◌≡◌, refl, sym, ap, ◌∙◌}
use mathlib.Core.Bool.{Bool, true, false, cond, true≢false}
use mathlib.Core.List.{List}
use native.Mathlib.Omega.{arith}
use native.Mathlib.Numerals.{add-one, sub-one}
use Rattle.theory.specs.Pool.{words}
use Rattle.words.specs.Rights.{good_rights}
use Rattle.words.specs.declared.PoolWord.{PoolWord}
use Rattle.words.proofs.RightsLaws.{good_range}
use Rattle.table.specs.declared.Shape.{Shape}
use Rattle.table.specs.Shape.{size}
use Rattle.table.specs.declared.Entry.{Entry}
use Rattle.table.specs.declared.Entry.TheVariants.{Rights, Leads, Bad}
use Rattle.table.specs.Entries.{decode_of}
use Rattle.table.proofs.EntryLaws.{decode_rights}
use Rattle.census.specs.Tally.{Tally, refused, owned, and_then, give, enter, through, table_tally, entry_tally}
use Rattle.census.specs.Tally.{roots_tally, Answers}

-- What an answer tells.
pub answers_owned : (y : Tally) (r : Bool) (o : List ℕ) → Answers y r o → r ≡ true → y ≡ owned o
answers_owned refused r o a e = absurd (true≢false (sym e ∙ a))
answers_owned (owned x) r o a e = ap owned (sym a.1)

pub answers_refused : (y : Tally) (r : Bool) (o : List ℕ) → Answers y r o → r ≡ false → y ≡ refused
answers_refused refused r o a e = refl
answers_refused (owned x) r o a e = absurd (true≢false (sym a.0 ∙ e))

pub same_answers : (y z : Tally) (r : Bool) (o : List ℕ) → y ≡ z → Answers z r o → Answers y r o
same_answers y z r o e a = rw e a

pub owned_answers : (y : Tally) (r : Bool) (o : List ℕ) → r ≡ true → y ≡ owned o → Answers y r o
owned_answers y r o f e = rw e (f, refl)

pub refused_answers : (y : Tally) (r : Bool) (o : List ℕ) → r ≡ false → y ≡ refused → Answers y r o
refused_answers y r o f e = rw e f

-- Of `n` words, `i` are passed; one further.
module _ (f : ℕ → ℕ → List ℕ → Tally) (n k j i : ℕ) (o : List ℕ) (b : i < n) where
  through_next : through f (n - i) (k + i) (j + i) o ≡ and_then (f (k + i) (j + i) o)
      (through f (n - (i + 1)) (k + (i + 1)) (j + (i + 1)))
  unfolding through
  through_next =
      let z : n - i ≡ suc (n - (i + 1)) = omega arith in
      let x : k + i + 1 ≡ k + (i + 1) = omega arith in
      let y : j + i + 1 ≡ j + (i + 1) = omega arith in
      rw (z, x, y)

  pub through_step : (q : List ℕ) → f (k + i) (j + i) o ≡ owned q
      → through f (n - i) (k + i) (j + i) o ≡ through f (n - (i + 1)) (k + (i + 1)) (j + (i + 1)) q
  through_step q e = through_next ∙ ap (λ y. and_then y (through f (n - (i + 1)) (k + (i + 1)) (j + (i + 1)))) e

  pub through_stop : f (k + i) (j + i) o ≡ refused → through f (n - i) (k + i) (j + i) o ≡ refused
  through_stop e = through_next ∙ ap (λ y. and_then y (through f (n - (i + 1)) (k + (i + 1)) (j + (i + 1)))) e

-- .. or several further, where each of them leaves the owners as they are.
pub through_pass : (f : ℕ → ℕ → List ℕ → Tally) (n k j i : ℕ) (o : List ℕ) (m : ℕ) → i + m ≤ n
    → ((e : ℕ) → e < m → f (k + i + e) (j + i + e) o ≡ owned o)
    → through f (n - i) (k + i) (j + i) o ≡ through f (n - (i + m)) (k + (i + m)) (j + (i + m)) o
through_pass f n k j i o zero b pass = let z : i + 0 ≡ i = omega arith in rw z
through_pass f n k j i o (suc m) b pass =
    let x : k + (i + m) ≡ k + i + m = omega arith in
    let y : j + (i + m) ≡ j + i + m = omega arith in
    let z : i + m + 1 ≡ i + suc m = omega arith in
    through_pass f n k j i o m (omega arith) (λ e h. pass e (omega arith))
    ∙ (rw z at (through_step f n k j (i + m) o (omega arith) o (rw (x, y) (pass m (omega arith)))))

pub through_start : (f : ℕ → ℕ → List ℕ → Tally) (n k j : ℕ) (o : List ℕ) → through f (n - 0) (k + 0) (j + 0) o
    ≡ through f n k j o
through_start f n k j o =
    let m : n - 0 ≡ n = omega arith in
    let x : k + 0 ≡ k = omega arith in
    let y : j + 0 ≡ j = omega arith in
    rw (m, x, y)

pub through_end : (f : ℕ → ℕ → List ℕ → Tally) (n k j : ℕ) (o : List ℕ) → n ≡ 0 → through f n k j o ≡ owned o
unfolding through
through_end f n k j o e = rw e

module _ (s : Shape) (p : List ℕ) where
  pub table_leaf : (h t i : ℕ) (o : List ℕ) → h ≡ 0 → table_tally s p h t i o ≡ owned o
  unfolding table_tally
  table_leaf h t i o e = rw e

  pub table_through : (h t i : ℕ) (o : List ℕ) → 0 < h
      → table_tally s p h t i o ≡ through (λ k. entry_tally s p h (words p k)) 1024 t (1024 * i) o
  unfolding table_tally
  table_through zero t i o lo = absurd (omega arith)
  table_through (suc h) t i o lo =
      ap (λ m. through (λ k j. enter (table_tally s p m) (decode_of s (suc h) (words p k)) j) 1024 t (1024 * i) o)
      (sym (sub-one (suc h)))

-- An entry by what it decodes to.
module _ (down : ℕ → ℕ → List ℕ → Tally) {e : Entry} (i : ℕ) (o : List ℕ) where
  pub enter_rights : {w : ℕ} → e ≡ Rights w → enter down e i o ≡ owned o
  unfolding enter
  enter_rights x = rw x

  pub enter_bad : e ≡ Bad → enter down e i o ≡ refused
  unfolding enter
  enter_bad x = rw x

  module _ {t : PoolWord} {n : ℕ} (x : e ≡ Leads t n) where
    pub enter_given : {q : List ℕ} → give n i o ≡ owned q → enter down e i o ≡ down t.0 i q
    unfolding enter
    enter_given g = rw (x, g)

    pub enter_again : give n i o ≡ refused → enter down e i o ≡ refused
    unfolding enter
    enter_again g = rw (x, g)

-- Eight rights may be passed over.
pub rights_pass : (s : Shape) (p : List ℕ) (h w i : ℕ) (o : List ℕ) → 0 < h → w < 4294967296 → good_rights w ≡ true
    → entry_tally s p h w i o ≡ owned o
rights_pass s p h w i o lo b g =
    let (low, high) = good_range w b g in
    enter_rights (table_tally s p (h - 1)) i o
    (decode_rights s h w (λ z. omega arith) low ∙ ap (λ x. cond x (Rights w) Bad) g)

-- One root further; and once one is refused, so are all.
pub roots_next : (s : Shape) (p : List ℕ) (n : ℕ) (o : List ℕ) → roots_tally s p n ≡ owned o → roots_tally s p (n + 1)
    ≡ table_tally s p 2 (1024 * n) n o
unfolding roots_tally
roots_next s p n o e = rw add-one (ap (λ y. and_then y (table_tally s p 2 (1024 * n) n)) e)

pub roots_refused : (s : Shape) (p : List ℕ) (n m : ℕ) → roots_tally s p n ≡ refused → roots_tally s p (n + m) ≡ refused
unfolding roots_tally
roots_refused s p n zero e = let z : n + 0 ≡ n = omega arith in rw z e
roots_refused s p n (suc m) e =
    let z : n + suc m ≡ suc (n + m) = omega arith in
    rw z (ap (λ y. and_then y (table_tally s p 2 (1024 * (n + m)) (n + m))) (roots_refused s p n m e))

pub upper_size : (h : ℕ) → 0 < h → size h ≡ 1024
upper_size zero lo = absurd (omega arith)
upper_size (suc h) lo = refl
