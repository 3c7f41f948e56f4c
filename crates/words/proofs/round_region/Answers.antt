-- `words::round_region` meets its contract. Assumes nothing.
use mathlib.Core.Path.{sym, ap, ◌∙◌}
use native.Mathlib.Omega.{arith}
use Rattle.std.specs.Prelude.{Ok}
use Rattle.words.specs.Region.{rounded}
use Rattle.words.proofs.RegionLaws.{region_equal, region_empty, region_beyond, region_covers}
use Rattle.words.proofs.round_region.Goals as goal

pub returns-then-length-eq0 : goal.returns-then-length-eq0
returns-then-length-eq0 c = sym (region_empty c.args.start.0 c.args.length (omega arith))

pub returns-then-hi-gt1073741824 : goal.returns-then-hi-gt1073741824
returns-then-hi-gt1073741824 c = let a = c.args in
    let some = c.if-length-eq0.false in
    let e = c.words_from.ensures in
    sym (region_beyond a.start.0 a.length (omega (arith, some)) (omega (arith, e)))

pub returns : goal.returns
returns c = let a = c.args in
    let some = c.if-length-eq0.false in
    let e = c.words_from.ensures in
    ap Ok (region_equal _ (rounded a.start.0 a.length) (omega arith) (omega (arith, e)))
    ∙ sym (region_covers a.start.0 a.length (omega (arith, some)) (omega (arith, e)))
