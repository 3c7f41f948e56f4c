-- Every change and every tidying has an outcome: the run that goes from word to word and from phase to phase ends,
-- finished or cut.
use Prim.Native.Nat.{ℕ, zero, suc, ◌+◌, ◌≤◌, ◌<◌}
use mathlib.Core.Path.{◌≡◌, refl, sym, ap, ◌∙◌}
use mathlib.Core.Logic.{◌≢◌, ◌⊎◌, inl, inr, ⊎_elim}
use mathlib.Core.Bool.{Bool, false, true≢false}
use mathlib.Core.List.{List}
use native.Mathlib.Omega.{arith}
use native.Mathlib.Decide.{ℕ_discrete, dec_lt}
use lib.ListN.{length, set}
use Rattle.std.specs.Prelude.{Result, Ok, Err}
use Rattle.refusals.specs.declared.Refusal.{Refusal}
use Rattle.theory.specs.Pool.{words, SoundPool}
use Rattle.theory.specs.Settled.{Settled}
use Rattle.theory.specs.Check.{refused, met, roots_check}
use Rattle.theory.specs.Check.{Finding}
use Rattle.theory.proofs.CheckLaws.{roots_check_sound, roots_check_refused}
use Rattle.theory.proofs.FinishedLaws.{one_finished, finished_words, settled_finished}
use Rattle.theory.proofs.Logic.{by_cases}
use Rattle.words.specs.Region.{region_of}
use Rattle.words.specs.declared.Region.{Region}
use Rattle.table.specs.declared.Shape.{Shape}
use Rattle.table.specs.Shape.{Fits, fits_of}
use Rattle.table.specs.Map.{form_of}
use Rattle.table.proofs.ShapeLaws.{test_fits, fits_test}
use Rattle.table.proofs.FormLaws.{lawful, exact}
use Rattle.table.proofs.WantLaws.{wanting}
use Rattle.places.proofs.Exists.{fits_dec}
use Rattle.plan.specs.Aims.{Aim, change_aim, no_aim, aimed_at, Goal}
use Rattle.change.specs.declared.Ending.{Ending}
use Rattle.change.specs.Runs.{phases, At}
use Rattle.change.specs.Answers.{IsDone, IsCut, ChangesRegion, Changes, Tidies}
use Rattle.change.specs.Answers.{no_shape, no_domain, no_right, no_region, in_order, unsound, unsettled}
use Rattle.change.specs.Answers.{no_room, done, cut}
use Rattle.change.proofs.State.{at_skip, at_store, at_long}
use Rattle.change.proofs.StateLaws.{at_begin, at_turn, at_end}
use Rattle.change.proofs.OutcomeLaws.{outcome_done, outcome_cut}
use Rattle.change.proofs.GoalLaws.{SetsRights, change_sets, fits_goal, tidy_goal}

module _ (s : Shape) (A : Aim) (old : List ℕ) (Q : ℕ → ℕ) (kept : ℕ → Bool) (n : ℕ) where
  -- A run that stands at word `k` of phase `c`.
  abbrev Stands : ℕ → ℕ → Type 0
  Stands c k = (x : List ℕ) × (left : ℕ) × At s A old Q kept n c k x left

  abbrev WasCut : Type 0
  WasCut = (x : List ℕ) × IsCut s A old n x

  -- It comes to the next word, or is cut here ..
  turn_ends : (c k : ℕ) → k < length old → Stands c k → Stands c (k + 1) ⊎ WasCut
  turn_ends c k h (x, left, a) = elim (ℕ_discrete (Q k) (words x k)) [
    | yes z ↦ inl (x, left, at_skip a (inl z))
    | no z ↦ elim (ℕ_discrete (phases s old kept k) c) [
      | no y ↦ inl (x, left, at_skip a (inr y))
      | yes y ↦ stores left a z y
    ]
  ]
    where
      stores : (l : ℕ) → At s A old Q kept n c k x l → Q k ≢ words x k → phases s old kept k ≡ c
          → Stands c (k + 1) ⊎ WasCut
      stores zero b z y = inr (x, outcome_cut s A old Q kept n c k x b (let i = at_long b in omega arith) z)
      stores (suc l) b z y = inl (set x k (Q k), l, at_store b l (omega arith) (let i = at_long b in omega arith) z y)

  -- .. and so to the end of the phase.
  phase_ends : (c m k : ℕ) → k + m ≡ length old → Stands c k → Stands c (length old) ⊎ WasCut
  phase_ends c zero k e (x, left, a) = let z : k ≡ length old = omega arith in inl (x, left, rw z at a)
  phase_ends c (suc m) k e a = ⊎_elim (λ b. phase_ends c m (k + 1) (omega arith) b) inr (turn_ends c k (omega arith) a)

  next_phase : (c : ℕ) → Stands c 0 ⊎ WasCut → Stands (c + 1) 0 ⊎ WasCut
  next_phase c (inr w) = inr w
  next_phase c (inl a) = ⊎_elim (λ (x, left, b). inl (x, left, at_turn c b)) inr
      (phase_ends c (length old) 0 (omega arith) a)

  pub goal_ends : Goal s A old Q kept → ((q : List ℕ) × IsDone s A old n q) ⊎ WasCut
  goal_ends g = ⊎_elim
      (λ (x, left, a). inl (
        x,
        outcome_done s A old Q kept x n left g (at_long a) (at_end (omega arith) a)
            (ap (λ t. left + t) a.cut.count ∙ a.sum),
      ))
      inr
      (next_phase 3 (next_phase 2 (next_phase 1 (inl (old, n, at_begin n g)))))

-- Whether a pool is sound is decided by the check ..
sound_or : (s : Shape) (P : ℕ → ℕ) → SoundPool (form_of s) P ⊎ (SoundPool (form_of s) P → ⊥)
sound_or s P = go (roots_check (form_of s) P s.domains (λ x. false)) refl
  where
    go : (r : Finding) → roots_check (form_of s) P s.domains (λ x. false) ≡ r → SoundPool (form_of s) P
        ⊎ (SoundPool (form_of s) P → ⊥)
    go refused e = inr (roots_check_refused (form_of s) (lawful _) P e)
    go (met u) e = inl (roots_check_sound (form_of s) (lawful _) P u e).sound

-- Two pools are the same up to word `n`, or differ at one.
same_or : (P Q : ℕ → ℕ) (n : ℕ) → ((j : ℕ) → j < n → Q j ≡ P j) ⊎ ((j : ℕ) × (Q j ≢ P j))
same_or P Q zero = inl (λ j h. absurd (omega arith))
same_or P Q (suc n) = ⊎_elim
    (λ all. elim (ℕ_discrete (Q n) (P n)) [
      | yes e ↦ inl (λ j h. elim (ℕ_discrete j n) [ yes z ↦ rw z e | no z ↦ all j (omega arith) ])
      | no e ↦ inr (n, e)
    ])
    inr
    (same_or P Q n)

-- .. and whether a sound one is settled by whether a tidying would leave it as it is.
settled_or : (s : Shape) (p : List ℕ) → Fits s (length p) → SoundPool (form_of s) (words p)
    → Settled (form_of s) (words p) ⊎ (Settled (form_of s) (words p) → ⊥)
settled_or s p f sP =
    let (Q, kept, g) = tidy_goal s p f sP in
    ⊎_elim
    (λ all. inl (finished_words (form_of s) (words p) _ {Q = Q} (λ j. elim (dec_lt j (length p)) [
      | yes h ↦ all j h
      | no h ↦ g.beyond j (omega arith)
    ]) g.finished).settled)
    (λ (j, z). inr (λ t. z (one_finished (form_of s) (lawful _) (wanting _) (words p) _ (exact _)
    g.finished (settled_finished (form_of s) t) j)))
    (same_or (words p) Q (length p))

-- An outcome of a tidying.
pub tidy_ends : (p : List ℕ) (s : Shape) (n : ℕ) → (a : Result Ending Refusal) × (q : List ℕ) × Tidies p s n a q
tidy_ends p s n = by_cases (fits_of s (length p))
    (λ e.
    let f = test_fits s (length p) e in
    ⊎_elim
    (λ sP. let (Q, kept, g) = tidy_goal s p f sP in
    ⊎_elim (λ (q, x). (_, q, done f sP q x)) (λ (x, y). (_, x, cut f sP x y)) (goal_ends s no_aim p Q kept n g))
    (λ u. (_, p, unsound f u))
    (sound_or s (words p)))
    (λ e. (_, p, no_shape (λ f. true≢false (sym (fits_test s (length p) f) ∙ e))))

-- An outcome of a change, from refusal 6 on ..
pub region_ends : (p : List ℕ) (s : Shape) (A : Aim) (n : ℕ) → Fits s (length p) → SetsRights s A p
    → (a : Result Ending Refusal) × (q : List ℕ) × ChangesRegion p s A n a q
region_ends p s A n f r = ⊎_elim
    (λ sP. ⊎_elim
    (λ t. elim (fits_dec s (aimed_at s A (words p))) [
      | yes room ↦
          (let (Q, kept, g) = fits_goal s A p r f sP room in
          ⊎_elim (λ (q, x). (_, q, done t q x)) (λ (x, y). (_, x, cut t x y)) (goal_ends s A p Q kept n g))
      | no full ↦ (_, p, no_room t full)
    ])
    (λ u. (_, p, unsettled sP u))
    (settled_or s p f sP))
    (λ u. (_, p, unsound u))
    (sound_or s (words p))

-- .. and of any change.
pub change_ends : (p : List ℕ) (s : Shape) (d start len r n : ℕ) → (a : Result Ending Refusal) × (q : List ℕ)
    × Changes p s d start len r n a q
change_ends p s d start len r n = by_cases (fits_of s (length p))
    (λ e.
    let f = test_fits s (length p) e in
    elim (dec_lt d s.domains) [
      | yes bd ↦ elim (dec_lt 3 r) [
        | yes br ↦ (_, p, no_right f bd br)
        | no br ↦ from_4 f bd (omega arith) (region_of start len) refl
      ]
      | no bd ↦ (_, p, no_domain f (omega arith))
    ])
    (λ e. (_, p, no_shape (λ f. true≢false (sym (fits_test s (length p) f) ∙ e))))
  where
    from_4 : Fits s (length p) → d < s.domains → r ≤ 3 → (g : Result Region Refusal) → region_of start len ≡ g
        → (a : Result Ending Refusal) × (q : List ℕ) × Changes p s d start len r n a q
    from_4 f bd br (Err k) e = (_, p, no_region f bd br k e)
    from_4 f bd br (Ok g) e =
        let (a, q, c) = region_ends p s (change_aim d g r) n f (change_sets s d g r p (omega arith)) in
        (a, q, in_order g (record { fits = f; domain = bd; right = br; region = e }) c)
