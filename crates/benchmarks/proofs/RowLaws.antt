-- What the rows share: one outcome that is as said settles every outcome; fresh pools; and what a change of a fresh
-- pool aims at.
use Prim.Native.Nat.{ℕ, zero, suc, ◌+◌, ◌≤◌, ◌<◌}
use mathlib.Core.Path.{◌≡◌, refl, sym, ap, ◌∙◌}
use mathlib.Core.Logic.{⊎_elim}
use mathlib.Core.Bool.{cond, ◌&&◌}
use mathlib.Core.List.{List, [], ◌∷◌}
use native.Mathlib.Omega.{arith}
use native.Mathlib.Nat.{le_of_suc-le-suc}
use native.Mathlib.Decide.{dec_lt}
use lib.ListN.{length, length-append, length-replicate, get_or-eq_default}
use lib.Seq.{ext_get_or}
use borrow.Author.Tests.{eq-eqb}
use Rattle.std.specs.Prelude.{Result, Ok}
use Rattle.refusals.specs.declared.Refusal.{Refusal}
use Rattle.theory.specs.Pool.{words, SoundPool, right_of}
use Rattle.theory.specs.Settled.{Settled}
use Rattle.theory.specs.Finished.{Finished}
use Rattle.theory.proofs.FinishedLaws.{one_finished}
use Rattle.words.specs.Region.{covered}
use Rattle.words.specs.declared.Region.{Region}
use Rattle.table.specs.declared.Shape.{Shape}
use Rattle.table.specs.declared.Deciding.{Deciding}
use Rattle.table.specs.Shape.{InRange, Fits, pool_length, max_middles, max_leaves}
use Rattle.table.specs.Map.{form_of}
use Rattle.table.specs.Fresh.{fresh_pool}
use Rattle.table.specs.Lookup.{numbers, lookup_of}
use Rattle.table.proofs.FormLaws.{lawful, exact}
use Rattle.table.proofs.WantLaws.{wanting, pool_rights}
use Rattle.table.proofs.LookupLaws.{looks_up}
use Rattle.table.proofs.FreshWordLaws.{fresh_right}
use Rattle.plan.specs.Aims.{Aim, change_aim, no_aim, aimed_at}
use Rattle.change.specs.declared.Ending.{Ending}
use Rattle.change.specs.declared.Ending.TheVariants.{Done, Cut}
use Rattle.change.specs.Cuts.{differing}
use Rattle.change.specs.Answers.{IsDone, IsCut, Asked, Changes, Tidies, in_order, done, cut}
use Rattle.places.proofs.Exists.{finished_fits}
use Rattle.change.proofs.GoalLaws.{SetsRights, change_sets, fits_goal}
use Rattle.change.proofs.EndLaws.{goal_ends}
use Rattle.change.proofs.ChangesLaws.{one_change}
use Rattle.change.proofs.TidiesLaws.{one_tidy}
use Rattle.benchmarks.specs.Rows.{shape, Always, Finds}

-- One outcome of a change, or of a tidying, that is as said.
pub always_change : {p : List ℕ} {s : Shape} {d start len r n : ℕ} {a : Result Ending Refusal} {q : List ℕ}
    {Is : Result Ending Refusal → List ℕ → Type 0}
    → Changes p s d start len r n a q → Is a q → Always (Changes p s d start len r n) Is
always_change c x = record { some = (_, _, c); each = λ b y z. let (e, f) = one_change z c in rw (e, f) x }

pub always_tidy : {p : List ℕ} {s : Shape} {n : ℕ} {a : Result Ending Refusal} {q : List ℕ}
    {Is : Result Ending Refusal → List ℕ → Type 0}
    → Tidies p s n a q → Is a q → Always (Tidies p s n) Is
always_tidy c x = record { some = (_, _, c); each = λ b y z. let (e, f) = one_tidy z c in rw (e, f) x }

-- The words `f k`, `f (k + 1)`, .. as a list.
unfoldable pub listed : (ℕ → ℕ) → ℕ → ℕ → List ℕ
listed f k zero = []
listed f k (suc n) = f k ∷ listed f (suc k) n

pub listed_long : (f : ℕ → ℕ) (k n : ℕ) → length (listed f k n) ≡ n
unfolding listed
listed_long f k zero = refl
listed_long f k (suc n) = ap suc (listed_long f (suc k) n)

pub listed_word : (f : ℕ → ℕ) (k n j : ℕ) → j < n → words (listed f k n) j ≡ f (k + j)
unfolding listed
listed_word f k zero j h = absurd (omega arith)
listed_word f k (suc n) zero h = ap f (omega arith)
listed_word f k (suc n) (suc j) h = listed_word f (suc k) n j (le_of_suc-le-suc h) ∙ ap f (omega arith)

-- A list of words that are 0 from its end on.
pub listed_words : (f : ℕ → ℕ) (n : ℕ) → ((j : ℕ) → n ≤ j → f j ≡ 0) → (j : ℕ) → words (listed f 0 n) j ≡ f j
listed_words f n z j = elim (dec_lt j n) [
  | yes h ↦ listed_word f 0 n j h ∙ ap f (omega arith)
  | no h ↦ get_or-eq_default (listed f 0 n) 0 (rw (listed_long f 0 n) (omega arith)) ∙ sym (z j (omega arith))
]

-- What a lookup answers by its definition.
-- An answer, by its numbers.
abbrev pub by : (right entry loads first last : ℕ) → Result Deciding Refusal
by right entry loads first last =
    Ok (record {
      right = right;
      entry = entry;
      loads = loads;
      first = record { 0 = first };
      last = record { 0 = last };
    })

pub finds : (p : List ℕ) (s : Shape) (a : ℕ) (r : Result Deciding Refusal) → lookup_of p s 0 a ≡ r
    → Finds p s a (numbers r)
finds p s a r e = record { some = (r, looks_up p s 0 a r (sym e)); each = λ t l. ap numbers (l.answer ∙ e) }

-- A fresh pool has its length.
fresh_long : (s : Shape) → length (fresh_pool s) ≡ pool_length s
fresh_long s = simp (length-append, length-replicate) (omega arith)

pub fresh_fits : (s : Shape) → InRange s → Fits s (length (fresh_pool s))
fresh_fits s r = record { range = r; long = fresh_long s }

pub in_range_lem : (M L : ℕ) → M ≤ max_middles → L ≤ max_leaves → InRange (shape M L)
in_range_lem M L m l = record { some_domain = omega arith; domains = omega arith; middles = m; leaves = l }

-- What a change aims at where there are no rights: the right on the covered words, and none elsewhere.
pub aims_bare : (s : Shape) (g : Region) (r : ℕ) (X : ℕ → ℕ) (d a : ℕ) → d < 1 → right_of (form_of s) X d a ≡ 0
    → aimed_at s (change_aim 0 g r) X d a ≡ cond (covered g a) r 0
aims_bare s g r X d a lo none =
    ap (λ x. cond (x && covered g a) r (right_of (form_of s) X d a)) (eq-eqb d 0 (omega arith))
    ∙ ap (λ x. cond (covered g a) r x) none

pub aims_fresh : (s : Shape) (g : Region) (r d a : ℕ) → d < s.domains → d < 1
    → aimed_at s (change_aim 0 g r) (words (fresh_pool s)) d a ≡ cond (covered g a) r 0
aims_fresh s g r d a bd lo = aims_bare s g r (words (fresh_pool s)) d a lo (fresh_right s d a bd)

-- With an allowance that does not suffice for the finished pool there is a cut: of a change, and of a tidying.
pub was_cut_lem : (s : Shape) (A : Aim) (p : List ℕ) (n : ℕ) → SetsRights s A p → Fits s (length p)
    → SoundPool (form_of s) (words p) → (q : List ℕ)
    → Finished (form_of s) (words p) (aimed_at s A (words p)) (words q)
    → length q ≡ length p → n < differing p q → (x : List ℕ) × IsCut s A p n x
was_cut_lem s A p n low fits sound q f l h =
    let room = finished_fits s f in
    let (Q, kept, goal) = fits_goal s A p low fits sound room in
    ⊎_elim (λ (y, z). absurd (too_many y z)) (λ c. c) (goal_ends s A p Q kept n goal)
  where
    too_many : (y : List ℕ) → IsDone s A p n y → ⊥
    too_many y z =
        let same : (j : ℕ) → words y j ≡ words q j =
        one_finished (form_of s) (lawful _) (wanting _) (words p) _ (exact _) z.finished f in
        let e : y ≡ q = ext_get_or 0 y q (z.long ∙ sym l) (λ j i. same j) in
        let k = rw e at z.enough in
        omega arith

-- The finished pool, and an allowance that suffices or not.
module _ (p : List ℕ) (s : Shape) (d start len r n : ℕ) (g : Region) (asked : Asked p s d start len r g)
    (settled : Settled (form_of s) (words p)) where
  pub change_done : (q : List ℕ) (k : ℕ)
      → Finished (form_of s) (words p) (aimed_at s (change_aim d g r) (words p)) (words q)
      → length q ≡ length p → differing p q ≡ k → k ≤ n → Changes p s d start len r n (Ok (Done k)) q
  change_done q k f l e h =
      let whole : IsDone s (change_aim d g r) p n q = record { finished = f; long = l; enough = rw e h } in
      let c : Changes p s d start len r n (Ok (Done (differing p q))) q = in_order g asked (done settled q whole) in
      rw e at c

  pub change_cut : (q : List ℕ) → Finished (form_of s) (words p) (aimed_at s (change_aim d g r) (words p)) (words q)
      → length q ≡ length p → n < differing p q → (x : List ℕ) × IsCut s (change_aim d g r) p n x
  change_cut q f l h =
      let low = change_sets s d g r p (let z = asked.right in omega arith) in
      was_cut_lem s (change_aim d g r) p n low asked.fits settled.sound q f l h

-- The same of a tidying.
module _ (p : List ℕ) (s : Shape) (n : ℕ) (fits : Fits s (length p)) (sound : SoundPool (form_of s) (words p)) where
  pub tidy_done : (q : List ℕ) (k : ℕ) → Finished (form_of s) (words p) (aimed_at s no_aim (words p)) (words q)
      → length q ≡ length p → differing p q ≡ k → k ≤ n → Tidies p s n (Ok (Done k)) q
  tidy_done q k f l e h =
      let whole : IsDone s no_aim p n q = record { finished = f; long = l; enough = rw e h } in
      let c : Tidies p s n (Ok (Done (differing p q))) q = done fits sound q whole in
      rw e at c

  pub tidy_cut : (q : List ℕ) → Finished (form_of s) (words p) (aimed_at s no_aim (words p)) (words q)
      → length q ≡ length p → n < differing p q → (x : List ℕ) × Tidies p s n (Ok Cut) x
  tidy_cut q f l h = let (x, c) = was_cut_lem s no_aim p n (λ e be. pool_rights s (words p) e) fits sound q f l h in
      (x, cut fits sound x c)
