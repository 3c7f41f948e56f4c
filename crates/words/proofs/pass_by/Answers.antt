-- `words::pass_by` meets its contract. Assumes nothing.
use Prim.Native.Nat.{ℕ, ◌*◌, ◌≤◌, ◌<◌}
use mathlib.Core.Path.{◌≡◌, refl, ap, ◌∙◌}
use native.Mathlib.Omega.{arith}
use native.Mathlib.Nat.{mul-le-mul_right}
use lib.ListN.{length, take, drop}
use Rattle.std.proofs.Common.{rules, true, ◌&&◌, slice_index_or}
use Rattle.std.specs.Prelude.{Option, Some, None}
use Rattle.std.specs.List.{fold}
use Rattle.std.specs.Option.{IfSome, option_map}
use Rattle.words.specs.Rights.{good_rights}
use Rattle.words.proofs.PassingLaws.{prefix_parts}
use Rattle.words.proofs.pass_by.Goals as goal

-- What two runs say of the item that both have at a place.
both : {A : Type 0} (P Q : A → Type 0) (o u : Option A) (y : A) → o ≡ u → IfSome o P → IfSome u Q
    → option_map (λ y. y) u ≡ Some y → P y × Q y
both P Q (Some x) (Some z) y e a b h =
    let i : x ≡ z = cc in
    let j : z ≡ y = cc in (rw (i, j) at a, rw j at b)
both P Q (Some x) None y e a b h = absurd (cc)
both P Q None (Some z) y e a b h = absurd (cc)
both P Q None None y e a b h = absurd (cc)

pub returns : goal.returns
returns c =
    let xs = c.args.words.now in
    let m = c.args.step in
    let (u, from, whole, long) = c.count-whole.ensures.runs in
    let (q, source, passed) = c.take_while.ensures.runs u u.seen from in
    let size : q.from.size ≡ m = ap (λ z. z.size) source ∙ c.chunks_exact.ensures.size in
    let rest : q.from.rest.now ≡ xs = ap (λ z. z.rest.now) source ∙ c.chunks_exact.ensures.rest in
    let parts = c.chunks_exact.ensures.runs q q.seen (omega arith) in
    let fit : q.len * m ≤ length xs = rw (size, rest) at parts.0 in
    let few : u.len * m ≤ length xs = omega (arith, mul-le-mul_right m passed.0) in
    let each : (k : ℕ) → k < u.len → fold (λ all w. all && good_rights w) true (take m (drop (k * m) xs)) ≡ true =
    λ k b. let y = slice_index_or u.items k c.args.words in
    let t = both _ _ (q.at k) (u.at k) y (passed.1 k b) (parts.2 k) ((passed.2 (λ e r f h. refl)).0 k)
    (u.reads k c.args.words b) in
    let e : y.now ≡ take m (drop (k * m) xs) = rw (size, rest) at t.0.2.0 in
    let f : fold (λ all w. all && good_rights w) true y.now ≡ true = search (rules, t.1) in
    rw e at f in
    rw long (few, prefix_parts good_rights xs u.len m few each)
