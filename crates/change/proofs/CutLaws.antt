-- A store that is due leaves all that is said of a cut, with one store more.
use Prim.Native.Nat.{ℕ, suc, ◌+◌, ◌<◌}
use mathlib.Core.Path.{◌≡◌, sym, ap, ◌∙◌}
use mathlib.Core.Logic.{◌≢◌, ◌⊎◌, inl, inr, ⊎_elim}
use mathlib.Core.Bool.{false}
use mathlib.Core.List.{List}
use native.Mathlib.Decide.{ℕ_discrete}
use native.Mathlib.Numerals.{add-one}
use lib.ListN.{set, length-set}
use lib.Seq.{get_or-set_same, get_or-set_other}
use Rattle.theory.specs.Pool.{words, right_of}
use Rattle.theory.specs.Finished.{Finished}
use Rattle.theory.specs.Stores.{Cut, Stage}
use Rattle.theory.proofs.Logic.{by_cases}
use Rattle.theory.proofs.StoreLaws.{Store, store_set}
use Rattle.theory.proofs.BetweenLaws.{Mixed, next_stage, stage_mixed, put_cut}
use Rattle.theory.proofs.FinishedLaws.{one_finished, finished_same, finished_words}
use Rattle.theory.proofs.ReadyLaws.{finished_links, finished_ready}
use Rattle.theory.proofs.StayLaws.{finished_stays}
use Rattle.table.specs.declared.Shape.{Shape}
use Rattle.table.specs.Map.{addresses, form_of}
use Rattle.table.proofs.FormLaws.{lawful, exact}
use Rattle.table.proofs.WantLaws.{wanting}
use Rattle.plan.specs.Aims.{Aim, aimed_at}
use Rattle.change.specs.Cuts.{CutAt, Due}
use Rattle.plan.proofs.AimLaws.{aimed_covered, aimed_other}
use Rattle.change.proofs.DifferLaws.{differing_set}

module _ (s : Shape) (A : Aim) {x : List ℕ} {k v : ℕ} (due : Due s A x k v) where
  abbrev after_it : List ℕ
  after_it = set x k v

  stored : Store (words x) (words after_it) k (due.goal k)
  stored = rw (← due.value) (store_set x k v due.inside)

  stage : Stage (form_of s) (words x) due.goal (words after_it)
  stage = next_stage (form_of s) (lawful _) (words x) due.goal due.sound stored due.next

  mixed : Mixed (form_of s) (words x) due.goal (words after_it)
  mixed = stage_mixed (form_of s) (lawful _) due.sound due.finished.settled.sound
      (finished_links (form_of s) (lawful _) (exact _) due.sound due.finished) stage

  safe : Cut (form_of s) (words x) due.goal (words after_it)
  safe = put_cut (form_of s) (lawful _) x k v due.inside (words x) due.goal
      (finished_ready (form_of s) (lawful _) (exact _) due.sound due.finished k due.next) due.value

  word : (j : ℕ) → (words after_it j ≡ words x j) ⊎ (words after_it j ≡ due.goal j)
  word j = elim (ℕ_discrete j k) [
    | yes q ↦ inr (rw q (get_or-set_same x k v 0 due.inside ∙ due.value))
    | no q ↦ inl (get_or-set_other x k j v 0 q)
  ]

  -- Elsewhere the right stays.
  other : (e a : ℕ) → e < s.domains → a < addresses → A.covers e a ≡ false → right_of (form_of s) (words after_it)
      e a ≡ right_of (form_of s) (words x) e a
  other e a be ba n = ⊎_elim (λ q. q) (λ q. q ∙ due.finished.rights e a be ba ∙ aimed_other s A (words x) e a
      n) (safe.rights e a be ba)

  same_aims : (e a : ℕ) → e < s.domains → a < addresses → aimed_at s A (words x) e a
      ≡ aimed_at s A (words after_it) e a
  same_aims e a be ba = by_cases (A.covers e a)
      (λ c. aimed_covered s A (words x) e a c ∙ sym (aimed_covered s A (words after_it) e a c))
      (λ n. aimed_other s A (words x) e a n ∙ sym (other e a be ba n)
      ∙ sym (aimed_other s A (words after_it) e a n))

  -- The change from after the store finishes where the change from before it did.
  pub due_again : Finished (form_of s) (words after_it) (aimed_at s A (words after_it)) due.goal
  due_again = finished_same (form_of s) _ _ _ same_aims
      (finished_stays (form_of s) (lawful _) (exact _) due.sound due.finished mixed word)

  pub put_cuts : (old : List ℕ) (n : ℕ) → CutAt s A old n x → CutAt s A old (n + 1) (set x k v)
  put_cuts old n c = record {
    goal = c.goal;
    finished = c.finished;
    long = length-set x k v ∙ c.long;
    count = differing_set old x k v c.long due.inside was changes ∙ ap suc c.count ∙ sym (add-one n);
    each = λ j. ⊎_elim (λ q. ⊎_elim (λ z. inl (q ∙ z)) (λ z. inr (q ∙ z)) (c.each j)) (λ q. inr (q ∙ same j)) (word j);
    sound = safe.sound;
    covered = λ e a be ba z. ⊎_elim
        (λ q. ⊎_elim (λ y. inl (q ∙ y)) (λ y. inr (q ∙ y)) (c.covered e a be ba z))
        (λ q. inr (q ∙ due.finished.rights e a be ba ∙ aimed_covered s A (words x) e a z))
        (safe.rights e a be ba);
    others = λ e a be ba n. other e a be ba n ∙ c.others e a be ba n;
    again = finished_words (form_of s) _ _ same due_again;
  }
    where
      same : (j : ℕ) → due.goal j ≡ c.goal j
      same = one_finished (form_of s) (lawful _) (wanting _) (words x) (aimed_at s A (words x)) (exact _)
          due.finished c.again

      was : words x k ≡ words old k
      was = ⊎_elim (λ q. q) (λ q. absurd (due.differs (q ∙ sym (same k) ∙ sym due.value))) (c.each k)

      changes : v ≢ words old k
      changes z = due.differs (was ∙ sym z)
