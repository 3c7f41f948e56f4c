-- The stores of a change as a list: whatever the allowance, the first of them are made, and each leaves what is said
-- of a cut.
use Prim.Native.Nat.{ℕ, zero, suc, ◌+◌, ◌-◌, ◌<◌}
use mathlib.Core.Path.{◌≡◌, refl, sym, ap, ◌∙◌}
use mathlib.Core.Logic.{◌≢◌, inl, inr}
use mathlib.Core.Bool.{Bool, true, false, not, cond, ◌&&◌}
use mathlib.Core.List.{List, [], ◌∷◌, ◌++◌}
use native.Mathlib.Omega.{arith}
use native.Mathlib.Decide.{ℕ_discrete, dec_lt}
use lib.Dec.{eqb}
use lib.ListN.{length, set, take, length-append}
use lib.Seq.{take-append-le}
use borrow.Author.Tests.{eqb-true, eqb-false, eq-eqb, not-true, not-false}
use Rattle.theory.specs.Pool.{words}
use Rattle.theory.proofs.Logic.{and_both}
use Rattle.table.specs.declared.Shape.{Shape}
use Rattle.plan.specs.Aims.{Aim}
use Rattle.change.specs.Runs.{phases, At}
use Rattle.change.specs.Answers.{IsCut}
use Rattle.change.specs.StoreList.{OneStore, stores_in, stores_from, stored}
use Rattle.change.proofs.State.{at_long, here_old, at_skip, at_store}
use Rattle.change.proofs.StateLaws.{at_turn}
use Rattle.change.proofs.OutcomeLaws.{outcome_cut}

-- Stores in two parts.
stored_append : (x : List ℕ) (l m : List OneStore) → stored x (l ++ m) ≡ stored (stored x l) m
unfolding stored
stored_append x [] m = refl
stored_append x (w ∷ l) m = stored_append (set x w.word w.value) l m

take_past : (l m : List OneStore) (k n : ℕ) → k ≡ length l + n → take k (l ++ m) ≡ l ++ take n m
take_past [] m k n e = let z : k ≡ n = omega arith in rw z
take_past (w ∷ l) m zero n e = absurd (omega arith)
take_past (w ∷ l) m (suc k) n e = ap (λ t. w ∷ t) (take_past l m k n (omega arith))

module _ (s : Shape) (A : Aim) (old : List ℕ) (Q : ℕ → ℕ) (kept : ℕ → Bool) (n : ℕ) where
  abbrev ph : ℕ → ℕ
  ph = phases s old kept

  abbrev Stands : ℕ → ℕ → List ℕ → ℕ → Type 0
  Stands c k x left = At s A old Q kept n c k x left

  abbrev in_phase : ℕ → ℕ → ℕ → List OneStore
  in_phase c m k = stores_in (words old) Q ph c m k

  abbrev from_phase : ℕ → ℕ → List OneStore
  from_phase f c = stores_from (words old) Q ph (length old) f c

  abbrev here : ℕ → OneStore
  here k = record { word = k; value = Q k }

  -- What the list's test says of the word at which a run stands: it is to change now, or is passed over.
  module _ {c k : ℕ} {x : List ℕ} {left : ℕ} (a : Stands c k x left) where
    abbrev test : Bool
    test = eqb (ph k) c && not (eqb (words old k) (Q k))

    phase_now : test ≡ true → ph k ≡ c
    phase_now e = eqb-true (ph k) c (and_both (eqb (ph k) c) _ e).0

    changes_now : test ≡ true → Q k ≢ words x k
    changes_now e z =
        let w = here_old a (let y = phase_now e in omega arith) in
        let u = not-true (eqb (words old k) (Q k)) (and_both (eqb (ph k) c) _ e).1 in
        eqb-false (words old k) (Q k) u (sym w ∙ sym z)

    passed_over : test ≡ false → Stands c (k + 1) x left
    passed_over e = elim (ℕ_discrete (ph k) c) [
      | no y ↦ at_skip a (inr y)
      | yes y ↦
          (let u : not (eqb (words old k) (Q k)) ≡ false = rw (eq-eqb (ph k) c y) at e in
          let w = here_old a (omega arith) in
          at_skip a (inl (sym (w ∙ eqb-true (words old k) (Q k) (not-false _ u)))))
    ]

  -- A run of a phase whose stores the rest of the allowance does not cover is cut after as many of them ..
  cut_in : (c m k : ℕ) → k + m ≡ length old → (x : List ℕ) (left : ℕ) → Stands c k x left
      → left < length (in_phase c m k)
      → IsCut s A old n (stored x (take left (in_phase c m k)))
  unfolding stores_in stored
  cut_in c zero k e x left a h = absurd (omega arith)
  cut_in c (suc m) k e x left a h = go (test a) refl (cut_in c m (k + 1) (omega arith)) left a h
    where
      rest : List OneStore
      rest = in_phase c m (k + 1)

      go : (t : Bool) → test a ≡ t
          → ((y : List ℕ) (l : ℕ) → Stands c (k + 1) y l → l < length rest → IsCut s A old n
          (stored y (take l rest)))
          → (l : ℕ) → Stands c k x l → l < length (cond t (here k ∷ rest) rest)
          → IsCut s A old n (stored x (take l (cond t (here k ∷ rest) rest)))
      go true q later zero b h = outcome_cut s A old Q kept n c k x b (let i = at_long b in omega arith)
          (changes_now a q)
      go true q later (suc l) b h = later (set x k (Q k)) l
          (at_store b l (omega arith) (let i = at_long b in omega arith) (changes_now a q) (phase_now a q))
          (omega arith)
      go false q later l b h = later x l (passed_over b q) h

  -- .. and one that it covers goes on to the next phase.
  all_in : (c m k : ℕ) → k + m ≡ length old → (x : List ℕ) (all left : ℕ) → all ≡ length (in_phase c m k) + left
      → Stands c k x all
      → Stands c (length old) (stored x (in_phase c m k)) left
  unfolding stores_in stored
  all_in c zero k e x all left h a = let z : k ≡ length old = omega arith in let y : all
      ≡ left = omega arith in rw (z, y) at a
  all_in c (suc m) k e x all left h a = go (test a) refl (all_in c m (k + 1) (omega arith)) all h a
    where
      rest : List OneStore
      rest = in_phase c m (k + 1)

      go : (t : Bool) → test a ≡ t
          → ((y : List ℕ) (l i : ℕ) → l ≡ length rest + i → Stands c (k + 1) y l → Stands c (length old)
          (stored y rest) i)
          → (l : ℕ) → l ≡ length (cond t (here k ∷ rest) rest) + left → Stands c k x l
          → Stands c (length old) (stored x (cond t (here k ∷ rest) rest)) left
      go true q later zero h b = absurd (omega arith)
      go true q later (suc l) h b = later (set x k (Q k)) l left (omega arith)
          (at_store b l (omega arith) (let i = at_long b in omega arith) (changes_now a q) (phase_now a q))
      go false q later l h b = later x l left h (passed_over b q)

  -- A phase with the stores `later` of those that come after it: it is cut, or they are.
  module _ (c : ℕ) (later : List OneStore) where
    abbrev now : List OneStore
    now = in_phase c (length old) 0

    phase_cut : ((y : List ℕ) (l : ℕ) → Stands (c + 1) 0 y l → l < length later → IsCut s A old n
        (stored y (take l later)))
        → (x : List ℕ) (left : ℕ) → Stands c 0 x left → left < length (now ++ later)
        → IsCut s A old n (stored x (take left (now ++ later)))
    phase_cut then x left a h = elim (dec_lt left (length now)) [
      | yes i ↦ rw (take-append-le left now later (omega arith)) (cut_in c (length old) 0 (omega arith) x left a i)
      | no i ↦
          (let e : left ≡ length now + (left - length now) = omega arith in
          let z = length-append now later in
          rw (take_past now later left (left - length now) e, stored_append x now (take (left - length now) later))
          (then (stored x now) (left - length now)
          (at_turn c (all_in c (length old) 0 (omega arith) x left (left - length now) e a)) (omega arith)))
    ]

    phase_all : (e : ℕ) → ((y : List ℕ) (l i : ℕ) → l ≡ length later + i → Stands (c + 1) 0 y l
        → Stands e 0 (stored y later) i)
        → (x : List ℕ) (all left : ℕ) → all ≡ length (now ++ later) + left → Stands c 0 x all
        → Stands e 0 (stored x (now ++ later)) left
    phase_all e then x all left h a =
        let z = length-append now later in
        rw (stored_append x now later) (then (stored x now) (length later + left) left refl
        (at_turn c (all_in c (length old) 0 (omega arith) x all (length later + left) (omega arith) a)))

  -- The same of all phases from one on.
  pub cut_from : (f c : ℕ) (x : List ℕ) (left : ℕ) → Stands c 0 x left → left < length (from_phase f c)
      → IsCut s A old n (stored x (take left (from_phase f c)))
  unfolding stores_from
  cut_from zero c x left a h = absurd (omega arith)
  cut_from (suc f) c x left a h = phase_cut c (from_phase f (c + 1)) (cut_from f (c + 1)) x left a h

  pub all_from : (f c e : ℕ) → e ≡ c + f → (x : List ℕ) (all left : ℕ) → all ≡ length (from_phase f c) + left
      → Stands c 0 x all
      → Stands e 0 (stored x (from_phase f c)) left
  unfolding stores_from stored
  all_from zero c e q x all left h a = let z : e ≡ c = omega arith in let y : all ≡ left = omega arith in rw z
      (rw y at a)
  all_from (suc f) c e q x all left h a =
      phase_all c (from_phase f (c + 1)) e (all_from f (c + 1) e (omega arith)) x all left h a
