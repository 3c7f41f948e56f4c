-- The targets read from the pool as it is are those at which a tidying aims; and what it passes over stays.
use Prim.Native.Nat.{ℕ, ◌+◌, ◌*◌, ◌-◌, ◌/◌, ◌%◌, ◌≤◌, ◌<◌}
use mathlib.Core.Path.{◌≡◌, sym, ◌∙◌}
use mathlib.Core.Logic.{◌≢◌, inl, inr, ⊎_elim}
use mathlib.Core.Bool.{Bool, true, false}
use mathlib.Core.List.{List}
use native.Mathlib.Omega.{arith}
use native.Mathlib.Decide.{dec_lt}
use lib.ListN.{length, get_or}
use lib.Dec.{eqb, ltb}
use borrow.Author.Tests.{lt-ltb, le-ltb, eqb-true}
use Rattle.std.specs.Prelude.{Option, None}
use Rattle.theory.specs.Pool.{words, SoundPool, right_of}
use Rattle.table.specs.declared.Shape.{Shape}
use Rattle.table.specs.Shape.{Fits, first_middle, first_leaf}
use Rattle.table.specs.Map.{leads, form_of}
use Rattle.theory.proofs.Logic.{and_both}
use Rattle.census.proofs.PlaceLaws.{middle_number}
use Rattle.census.specs.Tally.{AllPlain}
use Rattle.census.specs.Census.{Owners}
use Rattle.targets.specs.Targets.{painted, target_of, Gives, Readable}
use Rattle.targets.proofs.PoolLaws.{root_gives, middle_gives, root_readable, middle_readable}
use Rattle.targets.proofs.WantedLaws.{unpainted_target}
use Rattle.targets.specs.Paints.{no_paint}
use Rattle.change.specs.Runs.{Tidying}
use Rattle.change.specs.Runs.{Run, Stands, OnlyFrom, MiddleOwners}
use Rattle.change.specs.Tidying.{TidyAt, AimedAt, MiddlePlace, Owns, Table, Place}
use Rattle.change.proofs.TidyWordLaws.{root_becomes, page_becomes, root_stays, still_leads, page_stays}
use Rattle.change.proofs.TidyWordLaws.{leaf_stays, place_stays}
use Rattle.change.proofs.TidyingLaws.{tidy_now, tidy_old, between, behind, tidy_to, as_tidying, of_tidying}

-- The target read from the pool `x` for the block of height `h`, of `size` bytes, that has the number `n` and the
-- entry `w`.
abbrev pub ReadTarget : List ℕ → ℕ → ℕ → ℕ → ℕ → Option ℕ → Type 0
ReadTarget x h w n size t = (R : ℕ → ℕ) → Gives (words x) h w n R → t ≡ target_of (painted no_paint R) h (n * size)

-- Eight rights do not lead.
plain_stands : (P : ℕ → ℕ) (k m j : ℕ) → AllPlain P k m → k ≤ j → j < k + m → ltb (P j) 2147483648 ≡ false
plain_stands P k m j plain lo hi =
    let e : k + (j - k) ≡ j = omega arith in
    let g = rw e at (plain (j - k) (omega arith)) in
    let b = eqb-true (P j / 2147483648) 1 (and_both (eqb (P j / 2147483648) 1) (eqb (P j / 65536 % 32768) 0) g).0 in
    le-ltb (P j) 2147483648 (omega arith)

module _ (s : Shape) (x : List ℕ) where
  -- Root word `k`.
  module _ (k : ℕ) (b : k < first_middle s) where
    split : 1024 * (k / 1024) + k % 1024 ≡ k
    split = omega arith

    pub root_reads : Fits s (length x) → SoundPool (form_of s) (words x) → Readable x 2 (words x k)
    root_reads f o = rw split at (root_readable s x f o (k / 1024) (k % 1024) (omega arith) (omega arith))

    pub root_aim : (t : Option ℕ) → leads 2 (words x k) ≡ true → ReadTarget x 2 (words x k) (k % 1024) 4194304 t
        → AimedAt s k x t
    root_aim t l f old goal kept n left a =
        let R = right_of (form_of s) (words x) (k / 1024) in
        let g : Gives (words x) 2 (words x k) (k % 1024) R =
        rw split at (root_gives s (words x) (k / 1024) (k % 1024) (omega arith)) in
        root_becomes s a.cut.sound (tidy_now a) k t b l
        (f R g ∙ unpainted_target no_paint R 2 (k % 1024) (omega arith))

    pub root_passed : leads 2 (words x k) ≡ false → AimedAt s k x None
    root_passed l old goal kept n left a = root_stays s a.cut.sound
        (tidy_now a) k b l

  -- Word `i` of the middle table at `t`, which the root word `o` owns.
  module _ (o t : ℕ) (w : Owns s x o t) (i : ℕ) (bi : i < 1024) where
    low : Fits s (length x) → leads 2 (words x o) ≡ true
    low f = let (p, b, e) = w.place in rw w.leads (lt-ltb t 2147483648 (omega (arith, f.range)))

    cut_in : 1024 * (o / 1024) + o % 1024 ≡ o
    cut_in = omega arith

    pub page_reads : Fits s (length x) → SoundPool (form_of s) (words x) → Readable x 1 (words x (t + i))
    page_reads f z =
        let r = rw cut_in at (middle_readable s x f z (o / 1024) (o % 1024) i (let z = w.root in omega arith)
        (omega arith)
        (rw cut_in (low f)) bi) in
        rw w.leads at r

    pub page_aim : (c : Option ℕ) → Fits s (length x) → leads 1 (words x (t + i)) ≡ true
        → ReadTarget x 1 (words x (t + i)) (o % 1024 * 1024 + i) 4096 c
        → AimedAt s (t + i) x c
    page_aim c f l g old goal kept n left a =
        let R = right_of (form_of s) (words x) (o / 1024) in
        let u : Gives (words x) 2 (words x o) (o % 1024) R =
        rw cut_in at (root_gives s (words x) (o / 1024) (o % 1024) (omega arith)) in
        let v = rw w.leads at (middle_gives (words x) R (words x o) (o % 1024) i (low f) bi u) in
        let (p, b, e) = w.place in
        rw w.leads at (page_becomes s a.cut.sound (tidy_now a) o i c
        w.root bi
        (behind a o (let z = w.root in omega arith)) (low f) (rw w.leads l)
        (g R v ∙ unpainted_target no_paint R 1 (o % 1024 * 1024 + i) (omega arith)))

    pub page_passed : leads 1 (words x (t + i)) ≡ false → AimedAt s (t + i) x None
    page_passed l old goal kept n left a =
        let (p, b, e) = w.place in
        page_stays s a.cut.sound (tidy_now a) (t + i) (omega arith)
        (omega arith) l

  -- A table has words below the leaves; one that begins among the roots is a root, and any other has its owner.
  pub table_inside : (o t i : ℕ) → Table s x o t → i < 1024 → t + i < first_leaf s
  table_inside o t i y bi = ⊎_elim (λ h. omega arith) (λ w. let (p, b, e) = w.place in omega arith) y

  pub table_root : (o t i : ℕ) → Table s x o t → i < 1024 → t < first_middle s
      → t + i < first_middle s
  table_root o t i y bi h = ⊎_elim (λ z. omega arith) (λ w. let (p, b, e) = w.place in absurd (omega arith)) y

  pub table_owned : (o t : ℕ) → Table s x o t → first_middle s ≤ t → Owns s x o t
  table_owned o t y h = ⊎_elim (λ z. absurd (omega arith)) (λ w. w) y

  -- A word that does not lead stays.
  pub table_passed : (o t i : ℕ) → Table s x o t → i < 1024 → 2147483648 ≤ words x (t + i) → AimedAt s (t + i) x None
  table_passed o t i y bi h = ⊎_elim
      (λ z. root_passed (t + i) (omega arith) (le-ltb _ _ h))
      (λ w. page_passed o t w i bi (le-ltb _ _ h)) y

  -- Words of a table that are eight rights each are passed over.
  plain_stays : (o t i m : ℕ) → Table s x o t → i + m ≤ 1024 → AllPlain (words x) (t + i) m
      → (old : List ℕ) (goal : ℕ → ℕ) (kept : ℕ → Bool) (n k left : ℕ)
      → TidyAt s old goal kept n k x left → (j : ℕ) → t + i ≤ j → j < t + i + m → goal j ≡ words x j
  plain_stays o t i m y b plain old goal kept n k left a j lo hi = ⊎_elim
      (λ h. root_stays s a.cut.sound (tidy_now a) j (omega arith)
      (plain_stands (words x) (t + i) m j plain lo hi))
      (λ w.
      let (p, c, e) = w.place in
      page_stays s a.cut.sound (tidy_now a) j (omega arith) (omega arith)
      (plain_stands (words x) (t + i) m j plain lo hi)) y

  pub plain_passed : (o t i m : ℕ) → Table s x o t → i + m ≤ 1024 → AllPlain (words x) (t + i) m
      → (u : Run s Tidying) → Stands s Tidying u 1 (t + i) x → Stands s Tidying u 1 (t + (i + m)) x
  plain_passed o t i m y b plain u v =
      let a = as_tidying s u v in
      of_tidying s u (tidy_to a (t + (i + m)) (omega arith) (λ j lo hi.
      plain_stays o t i m y b plain u.old u.goal u.kept u.allowance (t + i) u.left a j lo (omega arith)))

  -- A middle place that no root word owns is passed over.
  pub place_passed : (t i : ℕ) → MiddlePlace s t → i ≤ 1024 → ((j : ℕ) → j < first_middle s → words x j ≢ t)
      → (u : Run s Tidying) → Stands s Tidying u 1 (t + i) x → Stands s Tidying u 1 (t + 1024) x
  place_passed t i (p, b, e) h nobody u y =
      let a = as_tidying s u y in
      of_tidying s u (tidy_to a (t + 1024) (omega arith) (λ j lo hi.
      let z : j ≡ first_middle s + 1024 * p + (j - t) = omega arith in
      rw z (place_stays s a.cut.sound (tidy_now a) p b
      (λ k bk y. nobody k bk (y ∙ sym e)) (j - t) (omega arith))))

  -- Past the last middle place all is finished: leaves stay.
  pub tidy_end : (k : ℕ) → first_leaf s ≤ k → (u : Run s Tidying) → Stands s Tidying u 1 k x
      → (j : ℕ) → words x j ≡ u.goal j
  tidy_end k h u y j =
      let a = as_tidying s u y in
      elim (dec_lt j k) [
        | yes b ↦ behind a j b
        | no b ↦ sym (leaf_stays s a.cut.sound (tidy_now a) j (omega arith))
      ]

-- A place that does not begin among the roots is a middle place.
pub place_middle : (s : Shape) (t : ℕ) → Place s t → first_middle s ≤ t → MiddlePlace s t
place_middle s t y h = ⊎_elim (λ z. absurd (omega arith)) (λ z. z) y

pub place_at : (s : Shape) (k : ℕ) → k < first_leaf s → Place s (k - k % 1024)
place_at s k h = elim (dec_lt k (first_middle s)) [
  | yes b ↦ inl (omega arith)
  | no b ↦ inr (k / 1024 - s.domains, omega arith, omega arith)
]

-- The census tells the owners of the middle places,
pub owners_begin : {s : Shape} {p o : List ℕ} → Fits s (length p) → Owners p s o → MiddleOwners s o p
owners_begin {s} {p} {o} fits own = record {
  only = λ i b j bj w.
      let range = fits.range in
      let l : leads 2 (words p j) ≡ true = rw w
      (lt-ltb (first_middle s + 1024 * i) 2147483648 (omega arith)) in
      let q = middle_number s i (omega arith) in
      own.owns i j (omega arith) (record {
        block = rw q.height bj;
        table = rw q.height l;
        there =
            rw q.height (w ∙ sym q.word);
      });
}

-- and they stay so while the pool is tidied: a root word that still leads leads where it did.
pub owners_now : {s : Shape} {old o x : List ℕ} {goal : ℕ → ℕ} {kept : ℕ → Bool} {n k left : ℕ} → Fits s (length x)
    → MiddleOwners s o old
    → TidyAt s old goal kept n k x left → MiddleOwners s o x
owners_now {s} {old} {o} {x} {goal} fits own a = record {
  only = λ i b j bj w. own.only i b j bj (⊎_elim
      (λ e. sym e ∙ w)
      (λ e.
      let range = fits.range in
      let v : goal j ≡ first_middle s + 1024 * i = sym e ∙ w in
      let l : leads 2 (goal j) ≡ true = rw v (lt-ltb (first_middle s + 1024 * i) 2147483648 (omega arith)) in
      sym (still_leads s a.goal.sound (tidy_old a) j bj l) ∙ v) (between a j));
}

-- The owner of a middle place, by the place's number.
pub place_owner : (s : Shape) (o x : List ℕ) (t : ℕ) → MiddlePlace s t → MiddleOwners s o x
    → OnlyFrom s x (get_or o ((t - first_middle s) / 1024) 0) t
place_owner s o x t (p, b, e) own =
    let z : (t - first_middle s) / 1024 ≡ p = omega arith in
    rw (z, e) (own.only p b)
