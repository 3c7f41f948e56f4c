-- What the tests of a plan's tables say, and where its edges lie.
use Prim.Native.Nat.{ℕ, zero, suc, ◌+◌, ◌≤◌, ◌<◌}
use mathlib.Core.Path.{◌≡◌}
use mathlib.Core.Bool.{Bool, true, false}
use native.Mathlib.Omega.{arith}
use lib.Dec.{leb, ltb}
use borrow.Author.Tests.{leb-true, ltb-true}
use Rattle.theory.proofs.Logic.{and_both}
use Rattle.table.specs.Shape.{size}
use Rattle.table.specs.Map.{leads}
use Rattle.places.specs.Count.{heights, blocks}
use Rattle.plan.specs.declared.Edge.{Edge}
use Rattle.plan.specs.Plan.{Plan, ends_of, edge_of, InTable, of_table, PlanFits}
use Rattle.plan.proofs.MeetLaws.{ends_below, end_below}

-- A table has at most 1,024 words.
pub wide : (h : ℕ) → size h ≤ 1024
wide zero = omega arith
wide (suc h) = omega arith

pub in_within : (t n k : ℕ) → InTable t n k ≡ true → (t ≤ k) × (k < t + n)
in_within t n k e = let (a, b) = and_both (leb t k) (ltb k (t + n)) e in (leb-true t k a, ltb-true k (t + n) b)

pub of_within : (h : ℕ) (e : Edge) (k : ℕ) → of_table h e k ≡ true → (leads (suc h) e.last ≡ true)
    × (InTable e.last (size h) k ≡ true)
of_within h e k z = and_both (leads (suc h) e.last) (InTable e.last (size h) k) z

pub table_within : (h : ℕ) (e : Edge) (k : ℕ) → of_table h e k ≡ true → (e.last ≤ k) × (k < e.last + size h)
table_within h e k z = in_within e.last (size h) k (of_within h e k z).1

-- The edges of a plan lie in memory, the first not after the last.
pub edge_below : (q : Plan) → PlanFits q → (h : ℕ) → h < heights → (first : Bool) → (edge_of q h first).number < blocks h
edge_below q r h hi true = rw (r.first h hi) (end_below q.paint r.region h hi true)
edge_below q r h hi false = rw (r.last h hi) (end_below q.paint r.region h hi false)

pub edges_order : (q : Plan) → PlanFits q → (h : ℕ) → h < heights
    → (ends_of q h).first.number ≤ (ends_of q h).last.number
edges_order q r h hi = rw (r.first h hi, r.last h hi) (ends_below q.paint r.region h hi).0
