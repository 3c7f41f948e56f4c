-- `targets::repack` meets its contract.
use Prim.Native.Nat.{ℕ, ◌+◌, ◌*◌, ◌-◌, ◌%◌, ◌^◌}
use mathlib.Core.Path.{◌≡◌, ◌∙◌}
use native.Mathlib.Omega.{arith}
use native.Mathlib.Nat.{one-mul}
use lib.Pow.{shl_exact}
use Rattle.words.specs.Rights.{pack}
use Rattle.words.proofs.RightsLaws.{pack_range}
use Rattle.targets.specs.Steps.{Before, right_after}
use Rattle.targets.proofs.PackLaws.{low_grows}
use Rattle.targets.proofs.PaintLaws.{before_order, after_small, after_partly}
use Rattle.targets.proofs.repack.Goals as goal
use Rattle.targets.proofs.repack.Goals.{After-from-old}

-- The shift of a divisor loses no bit.
unit : (s x k : ℕ) → Before s x k → 1 * 2 ^ (2 * k) % 18446744073709551616 ≡ 2 ^ (2 * k)
unit s x k b = shl_exact 1 (2 * k) 64 (omega arith) (omega (arith, b.upto)) ∙ one-mul (2 ^ (2 * k))

-- What is put together.
whole : (c : After-from-old) → let s = c.args in
    let low = 1 * 2 ^ (2 * c.words_before-a.result) % 18446744073709551616 in
    let high = 1 * 2 ^ (2 * c.words_before-b.result) % 18446744073709551616 in
    let same = c.from-same.result in
    let old = c.from-old.result in
    old % low + (same % high - same % low) + (old - old % high) ≡ pack 0 16 (right_after s.paint s.w s.s)
whole c =
    let a = c.words_before-a in
    let b = c.words_before-b in
    rw (c.from-old.ensures, c.from-same.ensures, unit _ _ _ a.ensures, unit _ _ _ b.ensures, c.sixteen_of.ensures)
    (after_partly c.args.paint c.args.s _ _ c.requires.lo_le_hi a.ensures b.ensures c.args.w (omega arith)
    c.requires.s_bound.1)

pub overflow_sub-result : goal.overflow_sub-result
overflow_sub-result c = let a = c.words_before-a in
    let b = c.words_before-b in
    rw (unit _ _ _ a.ensures, unit _ _ _ b.ensures)
    (low_grows c.from-same.result a.result b.result
    (before_order c.args.paint c.args.s _ _ c.requires.lo_le_hi a.ensures b.ensures))

pub overflow_cast-result : goal.overflow_cast-result
overflow_cast-result c = let r = pack_range 0 16 (right_after c.args.paint c.args.w c.args.s) (λ j l.
    after_small c.args.paint c.args.w c.args.s j c.requires.s_bound.1) in
    omega (arith, whole (goal.at.overflow_cast-result c).After-from-old)

pub returns : goal.returns
returns c = whole (goal.at.returns c).After-from-old
