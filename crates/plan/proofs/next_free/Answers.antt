-- `plan::next_free` meets its contract: the closure says of each place whether a kept table stands there.
use Rattle.std.proofs.Common.{◌≡◌, ℕ, ◌+◌, ◌<◌, ◌≤◌, Bool, true, false, Option, Some, None, MatchOption, get_or, subst, ◌∙◌, rules}
use Rattle.std.proofs.lemmas.Iterator.{first_from_Range}
use Rattle.plan.specs.Edges.{owner_stays, FreeIs}
use Rattle.plan.proofs.LayoutLaws.{ends_in_lem}
use Rattle.plan.proofs.next_free.Goals as goal

-- A search finds the first place that is not kept, or none.
free_is : (f : ℕ → Bool) (c m : ℕ) (r : Option ℕ)
    → MatchOption r ((k : ℕ) → c ≤ k → k < m → f k ≡ true)
    (λ i. (c ≤ i) × (i < m) × (f i ≡ false) × ((k : ℕ) → c ≤ k → k < i → f k ≡ true))
    → FreeIs f c m r
free_is f c m (Some i) x = record { low = x.0; high = x.1; gap = x.3; free = x.2 }
free_is f c m None x = x

pub returns : goal.returns
returns c = let a = c.args in
    let kept = λ (b p : ℕ). owner_stays a.height a.domain c.ends_in-ends.result (get_or a.owners.now (b + p) 0) in
    let b = c.first_number-base.result in
    rw (← (c.ends_in-ends.ensures ∙ ends_in_lem a.plan.now a.height))
    (subst (λ b. FreeIs (kept b) a.from a.to c.find.result) c.first_number-base.ensures
    (free_is (kept b) a.from a.to c.find.result
    (first_from_Range _ _ _ c.find.result (λ p. kept b p ≡ false) (λ p. kept b p ≡ true) c.find.ensures.ran
    (λ x q k. search rules) (λ x q k. search rules))))
