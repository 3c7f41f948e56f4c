-- `change::entry_after` meets its contract.
use Prim.Native.Nat.{ℕ, zero, suc, ◌-◌, ◌<◌, ◌≤◌}
use mathlib.Core.Path.{◌≡◌, refl, ap, ◌∙◌}
use mathlib.Core.Logic.{◌≢◌, ◌⊎◌, ⊎_elim}
use mathlib.Core.Bool.{Bool, true, false, cond, ◌&&◌}
use native.Mathlib.Omega.{arith}
use lib.Dec.{ltb}
use borrow.Author.Tests.{lt-ltb, le-ltb, ne_eqb}
use Rattle.words.specs.Rights.{eight_of}
use Rattle.plan.specs.declared.Ends.{Ends}
use Rattle.plan.specs.Plan.{Plan, ends_of, entry_after, entry_before, plan_in}
use Rattle.change.proofs.entry_after.Goals as goal

-- An entry above the leaves that is at neither end of the region.
inner : (q : Plan) (h n x : ℕ) (e : Ends) → h ≢ 0 → e ≡ ends_of q (h - 1) → n ≢ e.first.number → n ≢ e.last.number
    → cond (ltb e.first.number n && ltb n e.last.number) (eight_of q.paint.right) x ≡ entry_after q h n x
inner q zero n x e above is first last = absurd (above refl)
inner q (suc h) n x e above is first last =
    let y : suc h - 1 ≡ h = omega arith in
    let z = is ∙ ap (ends_of q) y in
    rw (← z) (rw (ne_eqb n e.first.number first, ne_eqb n e.last.number last) refl)

pub returns-then-n-ends-3 : goal.returns-then-n-ends-3
returns-then-n-ends-3 c =
    let e = c.ends_in-ends.result in
    c.entry_before-was.ensures
    ∙ outside _ _ _ e c.then-n-ends-3.either
    ∙ inner (plan_in c.args.plan.now) c.args.height c.args.n (entry_before c.args.height c.args.old c.args.n c.args.x) e
    c.if-height-eq0.false c.ends_in-ends.ensures c.if-n-ends.false c.if-n-ends-2.false
  where
    outside : (n x y : ℕ) (e : Ends) → (n < e.first.number) ⊎ ((e.first.number ≤ n) × (e.last.number < n))
        → x ≡ cond (ltb e.first.number n && ltb n e.last.number) y x
    outside n x y e = ⊎_elim (λ h. rw (le-ltb e.first.number n (omega arith)) refl)
        (λ h. rw (le-ltb n e.last.number (omega arith)) (none (ltb e.first.number n)))
      where
        none : (b : Bool) → x ≡ cond (b && false) y x
        none true = refl
        none false = refl

pub returns : goal.returns
returns c =
    let e = c.ends_in-ends.result in
    rw c.paint_in-paint.ensures at c.eight_of.ensures
    ∙ inside _ _ _ e (omega arith) (omega arith)
    ∙ inner (plan_in c.args.plan.now) c.args.height c.args.n (entry_before c.args.height c.args.old c.args.n c.args.x) e
    c.if-height-eq0.false c.ends_in-ends.ensures c.if-n-ends.false c.if-n-ends-2.false
  where
    inside : (n x y : ℕ) (e : Ends) → e.first.number < n → n < e.last.number
        → y ≡ cond (ltb e.first.number n && ltb n e.last.number) y x
    inside n x y e g h = rw (lt-ltb e.first.number n g, lt-ltb n e.last.number h) refl
