-- `targets::meeting` meets its contract.
use Prim.Native.Nat.{ℕ, ◌+◌, ◌-◌, ◌<◌, ◌≤◌}
use mathlib.Core.Logic.{⊎_elim}
use native.Mathlib.Omega.{arith}
use Rattle.targets.specs.declared.Paint.{Paint}
use Rattle.targets.specs.Steps.{Half}
use Rattle.targets.proofs.PaintLaws.{inside_is, inside_low, inside_high, inside_not}
use Rattle.targets.proofs.meeting.Goals as goal

below_edge : (p : Paint) (s n : ℕ) → s < p.lo → p.lo < p.hi → p.lo < s + n → Half p s n
below_edge p s n a b d = record {
  hit = p.lo - s;
  miss = 0;
  hit_below = omega arith;
  miss_below = omega arith;
  hit_is = inside_is p (s + (p.lo - s)) (omega arith) (omega arith);
  miss_is = inside_low p (s + 0) (omega arith);
}

above_edge : (p : Paint) (s n : ℕ) → p.lo ≤ s → s < p.hi → p.hi < s + n → Half p s n
above_edge p s n a b d = record {
  hit = 0;
  miss = p.hi - s;
  hit_below = omega arith;
  miss_below = omega arith;
  hit_is = inside_is p (s + 0) (omega arith) (omega arith);
  miss_is = inside_high p (s + (p.hi - s)) (omega arith);
}

pub returns-then-paint : goal.returns-then-paint
returns-then-paint c = λ j h. inside_not _ _ (λ a b. omega arith)

pub returns-then-end-paint : goal.returns-then-end-paint
returns-then-end-paint c = λ j h. inside_not _ _ (λ a b. omega arith)

pub returns-then-paint-end : goal.returns-then-paint-end
returns-then-paint-end c =
    let (before, after) = c.if-end-paint.false in
    ⊎_elim (λ l. below_edge _ _ _ l c.if-paint.false after) (λ (l, m). above_edge _ _ _ l before m) c.if-paint-end.either

pub returns-else-paint-end : goal.returns-else-paint-end
returns-else-paint-end c = λ j h. inside_is _ _ (omega arith) (omega arith)
