-- The setting in which a change is planned: a settled pool, a region of a domain, and the places of the finished
-- tables. Definitions.
use Prim.Native.Nat.{ℕ, ◌<◌}
use mathlib.Core.Bool.{Bool}
use Rattle.theory.specs.Settled.{Settled}
use Rattle.table.specs.declared.Shape.{Shape}
use Rattle.table.specs.Shape.{InRange}
use Rattle.table.specs.Map.{form_of}
use Rattle.places.specs.Final.{AllOwned}
use Rattle.targets.specs.declared.Paint.{Paint}
use Rattle.plan.specs.Planning.{Regular}
use Rattle.plan.specs.Aims.{aim_of, aimed_at}

pub record Setting (s : Shape) (d : ℕ) (paint : Paint) (P : ℕ → ℕ) (owner : ℕ → ℕ → ℕ)
    (free : ℕ → ℕ → Bool) : Type 0 where
  pub range : InRange s
  pub settled : Settled (form_of s) P
  pub domain : d < s.domains
  pub regular : Regular paint
  pub placed : AllOwned s (aimed_at s (aim_of d paint) P) P free owner
