-- `gates::places::place_of` meets its contract.
use Prim.Native.Nat.{ℕ, ◌*◌, ◌≤◌, ◌<◌}
use mathlib.Core.Path.{◌≡◌, sym, ap, ◌∙◌}
use mathlib.Core.Bool.{true, false}
use mathlib.Core.List.{List}
use native.Mathlib.Omega.{arith}
use borrow.Author.Tests.{tests}
use lib.ListN.{get_or}
use Rattle.std.proofs.Common.{rules, Option, Some, None, MatchOption, IfSome}
use Rattle.std.proofs.lemmas.Iterator.{first_from_Range}
use Rattle.gates.specs.Gates.{no_gate, held, stands_at, place_of}
use Rattle.gates.specs.Layout.{gate_at, gates_of}
use Rattle.gates.proofs.ListLaws.{place_first, place_nowhere}
use Rattle.gates.proofs.LayoutLaws.{held_said, held_at}
use Rattle.gates.proofs.places.place_of.Goals as goal

-- The first number whose words say a gate that passes a test is the place of the first such gate.
module _ (ws : List ℕ) (d a : ℕ) (few : get_or ws 192 0 ≤ 64) where
  first : (r : Option ℕ)
      → MatchOption r ((k : ℕ) → 0 ≤ k → k < get_or ws 192 0 → stands_at d a (gate_at ws (3 * k)) ≡ false)
      (λ i. (0 ≤ i) × (i < get_or ws 192 0) × (stands_at d a (gate_at ws (3 * i)) ≡ true)
      × ((k : ℕ) → 0 ≤ k → k < i → stands_at d a (gate_at ws (3 * k)) ≡ false))
      → (r ≡ place_of (gates_of ws) d a) × IfSome r (λ k. k < get_or ws 192 0)
  unfolding place_of
  first None h =
      let n = held_said ws few in (
        sym (place_nowhere (stands_at d a) (held (gates_of ws)) no_gate
            (λ k q. ap (stands_at d a) (held_at ws few k (omega arith)) ∙ h k (omega arith) (omega arith))),
        tt,
      )
  first (Some i) h =
      let n = held_said ws few in
      let (_, l, e, q) = h in (
        sym (place_first (stands_at d a) (held (gates_of ws)) i no_gate (omega arith)
            (ap (stands_at d a) (held_at ws few i l) ∙ e)
            (λ k m. ap (stands_at d a) (held_at ws few k (omega arith)) ∙ q k (omega arith) m)),
        l,
      )

pub returns : goal.returns
returns c =
    let a = c.args in
    let (place, held) = first a.gates.now a.domain a.address.0 c.requires c.find.result
    (first_from_Range _ _ _ c.find.result (λ i. stands_at a.domain a.address.0 (gate_at a.gates.now (3 * i)) ≡ true)
    (λ i. stands_at a.domain a.address.0 (gate_at a.gates.now (3 * i)) ≡ false) c.find.ensures.ran
    (λ x q k. search (rules, tests)) (λ x q k. search (rules, tests))) in
    record { place = place; held = held }
