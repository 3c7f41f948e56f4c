-- `table::reach::reached_by` meets its contract. Assumes nothing.
use Prim.Native.Nat.{ℕ, ◌+◌, ◌-◌, ◌*◌, ◌/◌, ◌%◌, ◌≤◌, ◌<◌}
use mathlib.Core.Path.{◌≡◌, refl, ap, ◌∙◌}
use native.Mathlib.Omega.{arith}
use Rattle.words.specs.Rights.{right_at}
use Rattle.words.specs.Stretches.{Longest}
use Rattle.table.specs.Map.{addresses, part, parts, part_of}
use Rattle.table.proofs.BlockLaws.{part_first, number_fits}
use Rattle.table.proofs.StretchLaws.{entry_stretch}
use Rattle.table.proofs.reach.reached_by.Goals as goal
use Rattle.table.proofs.reach.reached_by.Goals.{After-stretch_at-around}

-- The stretch, among the parts of the entry.
found : (c : After-stretch_at-around)
    → let h = 3 - c.args.loads in
    Longest (right_at c.args.w) 0 (parts h) (part_of h c.args.address.0) c.stretch_at-around.result.first
    c.stretch_at-around.result.last
found c =
    rw (c.from.ensures, c.requires.0, c.requires.1) at c.stretch_at-around.ensures.1

-- The number of one of its parts in memory, in bytes.
fits : (c : After-stretch_at-around) (i : ℕ) → i ≤ c.stretch_at-around.result.last
    → let n = c.from.result / c.args.step in
    let x = n - n % c.args.count + i in
    (x ≤ x * c.args.step) × (x * c.args.step + (c.args.step - 1) < addresses)
fits c i b =
    let fit : c.from.result < addresses = c.from.type_inv in
    rw (c.requires.0, c.requires.1) (number_fits (3 - c.args.loads) c.from.result i fit
    (omega (arith, (found c).high_end)))

pub overflow_mul-block-2 : goal.overflow_mul-block-2
overflow_mul-block-2 c = let (lo, hi) = fits (goal.at.overflow_mul-block-2 c).After-stretch_at-around c.stretch_at-around.result.last (omega arith) in
    omega arith

pub overflow_add-block-3 : goal.overflow_add-block-3
overflow_add-block-3 c = record { fits = (fits (goal.at.overflow_add-block-3 c).After-stretch_at-around c.stretch_at-around.result.last (omega arith)).1 }

pub returns : goal.returns
returns c = let h = 3 - c.args.loads in
    let a = c.args.address.0 in
    let (e, g) = entry_stretch h c.args.w a (found (goal.at.returns c).After-stretch_at-around) in
    let first = (part_first h a c.stretch_at-around.result.first).1 ∙ e in
    let last = ap (λ x. x + (part h - 1)) (part_first h a c.stretch_at-around.result.last).1 ∙ g in
    let loads : 3 - h ≡ c.args.loads = omega (arith, c.requires.2) in
    rw (
      c.stretch_at-around.ensures.0,
      loads,
      c.from-first.ensures,
      c.from-last.ensures,
      c.from.ensures,
      c.requires.0,
      c.requires.1,
      first,
      last,
    ) refl
