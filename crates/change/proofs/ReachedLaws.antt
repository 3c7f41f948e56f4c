-- Which words a cut has reached: with a smaller allowance none that a greater one leaves out, so that a cut, too,
-- leaves one pool.
use Prim.Native.Nat.{ℕ, ◌≤◌, ◌<◌}
use mathlib.Core.Path.{◌≡◌, refl, sym, ap, ◌∙◌, fun_ext}
use mathlib.Core.Logic.{◌⊎◌, inl, inr, ⊎_elim}
use mathlib.Core.Bool.{Bool, true, false, cond, ◌||◌}
use mathlib.Core.List.{List}
use native.Mathlib.Omega.{arith}
use native.Mathlib.Decide.{ℕ_discrete, dec_lt}
use lib.Dec.{ltb}
use lib.ListN.{length}
use lib.Seq.{ext_get_or}
use borrow.Author.Tests.{eq-eqb, lt-ltb, le-ltb}
use Rattle.theory.specs.Form.{Form}
use Rattle.theory.specs.Pool.{words}
use Rattle.theory.specs.Phase.{midway, Tells}
use Rattle.theory.proofs.PhaseLaws.{midway_new, midway_old}
use Rattle.theory.proofs.Logic.{by_cases}
use Rattle.theory.proofs.FinishedLaws.{one_finished}
use Rattle.table.specs.declared.Shape.{Shape}
use Rattle.table.specs.Map.{form_of}
use Rattle.table.proofs.FormLaws.{lawful, exact}
use Rattle.table.proofs.WantLaws.{wanting}
use Rattle.plan.specs.Aims.{Aim, aimed_at}
use Rattle.change.specs.Cuts.{differing}
use Rattle.change.specs.Runs.{phases}
use Rattle.change.specs.Answers.{OnTheWay, IsCut, IsDone}
use Rattle.change.proofs.DifferLaws.{differing_less}
use Rattle.change.proofs.OutcomeLaws.{one_goal}

-- Every word of `x` that is not as in `old` is as in `y`: the words reached in `x` are among those reached in `y`.
abbrev pub Among : List ℕ → List ℕ → List ℕ → Type 0
Among old x y = (j : ℕ) → (words x j ≡ words old j) ⊎ (words x j ≡ words y j)

-- One point of the order comes no later than another.
abbrev Upto : (c k e m : ℕ) → Type 0
Upto c k e m = (c < e) ⊎ ((c ≡ e) × (k ≤ m))

upto_or : (c k e m : ℕ) → Upto c k e m ⊎ Upto e m c k
upto_or c k e m = elim (dec_lt c e) [
  | yes h ↦ inl (inl h)
  | no h ↦ elim (dec_lt e c) [
    | yes g ↦ inr (inl g)
    | no g ↦ elim (dec_lt m k) [
      | yes f ↦ inr (inr (omega arith, omega arith))
      | no f ↦ inl (inr (omega arith, omega arith))
    ]
  ]
]

module _ (P Q ph : ℕ → ℕ) (j : ℕ) where
  -- A word of the phase that is running: done before the point, waiting from it on.
  midway_done : (c k : ℕ) → ph j ≡ c → j < k → midway P Q ph c k j ≡ Q j
  midway_done c k e h = rw (eq-eqb (ph j) c e, lt-ltb j k h) (go (ltb (ph j) c))
    where
      go : (b : Bool) → cond (b || true) (Q j) (P j) ≡ Q j
      go true = refl
      go false = refl

  midway_waits : (c k : ℕ) → ph j ≡ c → k ≤ j → midway P Q ph c k j ≡ P j
  midway_waits c k e h = rw (le-ltb (ph j) c (omega arith), eq-eqb (ph j) c e, le-ltb j k h) refl

  -- A word that is done at a point is done at every later one.
  stays_done : (c k e m : ℕ) → Upto c k e m → (midway P Q ph c k j ≡ P j) ⊎ (midway P Q ph c k j ≡ midway P Q ph e m j)
  stays_done c k e m u = elim (dec_lt (ph j) c) [
    | yes h ↦ inr (midway_new P Q ph c k j h
        ∙ sym (midway_new P Q ph e m j (⊎_elim (λ z. omega arith) (λ z. let y = z.0 in omega arith) u)))
    | no h ↦ elim (dec_lt c (ph j)) [
      | yes g ↦ inl (midway_old P Q ph c k j g)
      | no g ↦ elim (dec_lt j k) [
        | yes f ↦ inr (midway_done c k (omega arith) f ∙ sym (⊎_elim
            (λ z. midway_new P Q ph e m j (omega arith))
            (λ z. let y = z.0 in let w = z.1 in midway_done e m (omega arith) (omega arith))
            u))
        | no f ↦ inl (midway_waits c k (omega arith) (omega arith))
      ]
    ]
  ]

-- There is one test of what is kept.
pub one_test : (F : Form) {P Q : ℕ → ℕ} {t u : ℕ → Bool} → Tells F P Q t → Tells F P Q u → (j : ℕ) → t j ≡ u j
one_test F {t = t} {u = u} a b j = by_cases (t j)
    (λ e. e ∙ sym (b.is _ j (a.are j e)))
    (λ e. by_cases (u j) (λ f. a.is _ j (b.are j f) ∙ sym f) (λ f. e ∙ sym f))

way_among : {s : Shape} {old : List ℕ} {goal : ℕ → ℕ} {x y : List ℕ} (a : OnTheWay s old goal x)
    (b : OnTheWay s old goal y)
    → Upto a.phase_reached a.word_reached b.phase_reached b.word_reached → Among old x y
way_among {s} {old} {goal} {x} {y} a b u j =
    let e : a.kept ≡ b.kept = fun_ext (one_test (form_of s) a.tells b.tells) in
    let here : words y j ≡ midway (words old) goal (phases s old a.kept) b.phase_reached b.word_reached j =
    rw e (b.is j) in
    ⊎_elim (λ z. inl (a.is j ∙ z)) (λ z. inr (a.is j ∙ z ∙ sym here))
    (stays_done (words old) goal (phases s old a.kept) j a.phase_reached a.word_reached b.phase_reached
    b.word_reached u)

ways_among : {s : Shape} {old : List ℕ} {goal : ℕ → ℕ} {x y : List ℕ} → OnTheWay s old goal x → OnTheWay s old goal y
    → Among old x y ⊎ Among old y x
ways_among a b = ⊎_elim (λ u. inl (way_among a b u)) (λ u. inr (way_among b a u))
    (upto_or a.phase_reached a.word_reached b.phase_reached b.word_reached)

-- Where no more words differ, being among them is being the same.
among_same : (old x y : List ℕ) → length x ≡ length old → length y ≡ length old → Among old x y
    → differing old y ≤ differing old x → x ≡ y
among_same old x y a b among h = ext_get_or 0 x y (a ∙ sym b) (λ j i. elim (ℕ_discrete (words x j) (words y j)) [
  | yes e ↦ e
  | no e ↦ absurd (let z = differing_less old x y j a b among (rw a at i) (λ q. e (sym q)) in omega arith)
])

module _ {s : Shape} {A : Aim} {old : List ℕ} {n m : ℕ} {x y : List ℕ} where
  cuts_among : IsCut s A old n x → IsCut s A old m y → Among old x y ⊎ Among old y x
  cuts_among a b =
      let e : b.cut.goal ≡ a.cut.goal = fun_ext
      (one_goal s A old a.cut.goal a.cut.finished b.cut) in
      ways_among a.way (rw e at b.way)

  -- The words reached with an allowance are among those reached with a greater one, whether that is cut ..
  pub reached_among : IsCut s A old n x → IsCut s A old m y → n ≤ m → Among old x y
  reached_among a b h = ⊎_elim (λ u. u)
      (λ u.
      let p = a.cut.count in
      let q = b.cut.count in
      let e : y ≡ x = among_same old y x b.cut.long a.cut.long u (omega arith) in
      λ j. inr (ap (λ z. words z j) (sym e)))
      (cuts_among a b)

  -- .. or suffices.
  pub reached_done : IsCut s A old n x → IsDone s A old m y → Among old x y
  reached_done a b j = ⊎_elim inl
      (λ z. inr (z ∙ one_finished (form_of s) (lawful _) (wanting _) (words old) (aimed_at s A (words old))
      (exact _)
      a.cut.finished b.finished j))
      (a.cut.each j)

-- A cut leaves one pool.
pub one_cut : {s : Shape} {A : Aim} {old : List ℕ} {n : ℕ} {x y : List ℕ} → IsCut s A old n x
    → IsCut s A old n y → x ≡ y
one_cut {old = old} {x = x} {y = y} a b =
    let p = a.cut.count in
    let q = b.cut.count in
    among_same old x y a.cut.long b.cut.long (reached_among a b (omega arith)) (omega arith)
