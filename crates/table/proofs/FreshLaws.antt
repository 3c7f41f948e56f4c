-- A fresh pool, put together from its parts.
use Prim.Native.Nat.{ℕ}
use mathlib.Core.Path.{◌≡◌, sym, ◌∙◌}
use mathlib.Core.Bool.{true}
use mathlib.Core.List.{List}
use lib.ListN.{length}
use Rattle.std.specs.Prelude.{Result, Ok}
use Rattle.refusals.specs.declared.Refusal.{Refusal}
use Rattle.table.specs.declared.Shape.{Shape}
use Rattle.table.specs.Shape.{fits_of}
use Rattle.table.specs.Fresh.{fresh_pool, MakesFresh}

-- One that fits is done.
pub makes_fresh : (s : Shape) (p q : List ℕ) → fits_of s (length p) ≡ true → q ≡ fresh_pool s → MakesFresh s p (Ok tt) q
makes_fresh s p q e f = record { answer = rw e; pool = rw e f }

-- There is one outcome.
pub one_fresh : {s : Shape} {p : List ℕ} {x y : Result (Unit {0}) Refusal} {q r : List ℕ} → MakesFresh s p x q → MakesFresh s p y r
    → (x ≡ y) × (q ≡ r)
one_fresh a b = (a.answer ∙ sym b.answer, a.pool ∙ sym b.pool)
