-- A change or a tidying has one finished pool, and one that is done was not cut.
use Prim.Native.Nat.{ℕ}
use mathlib.Core.Path.{◌≡◌, sym, ◌∙◌}
use mathlib.Core.List.{List}
use native.Mathlib.Omega.{arith}
use lib.Seq.{ext_get_or}
use Rattle.theory.specs.Pool.{words}
use Rattle.theory.proofs.FinishedLaws.{one_finished}
use Rattle.table.specs.declared.Shape.{Shape}
use Rattle.table.specs.Map.{form_of}
use Rattle.table.proofs.FormLaws.{lawful, exact}
use Rattle.table.proofs.WantLaws.{wanting}
use Rattle.plan.specs.Aims.{Aim, aimed_at}
use Rattle.change.specs.Answers.{IsDone, IsCut}

module _ {s : Shape} {A : Aim} {p : List ℕ} {n : ℕ} where
  pub one_done : {q x : List ℕ} → IsDone s A p n q → IsDone s A p n x → q ≡ x
  one_done {q} {x} a b = ext_get_or 0 q x (a.long ∙ sym b.long) (λ j h.
      one_finished (form_of s) (lawful _) (wanting _) (words p) (aimed_at s A (words p)) (exact _)
      a.finished b.finished j)

  pub done_not_cut : {q x : List ℕ} → IsDone s A p n q → IsCut s A p n x → ⊥
  done_not_cut {q} {x} a b =
      let z = b.more q a.long
      (one_finished (form_of s) (lawful _) (wanting _) (words p) (aimed_at s A (words p)) (exact _)
      a.finished b.cut.finished) in
      let y = a.enough in
      omega arith
