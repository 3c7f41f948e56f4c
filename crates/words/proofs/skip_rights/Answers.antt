-- `words::skip_rights` meets its contract. Assumes nothing.
use Prim.Native.Nat.{◌+◌, ◌-◌, ◌≤◌}
use mathlib.Core.Path.{◌≡◌}
use native.Mathlib.Omega.{arith}
use lib.ListN.{take, drop}
use Rattle.std.specs.List.{prefix_len}
use Rattle.std.proofs.lemmas.List.{take_rest}
use Rattle.words.specs.Rights.{good_rights}
use Rattle.words.proofs.PassingLaws.{prefix_split, skips_rights}
use Rattle.words.proofs.skip_rights.Goals as goal

pub returns : goal.returns
returns c = let a = c.args in
    let first = c.index-first.result in
    let wide = c.pass_by-wide.result in
    let words = take (first + a.count - first) (drop first a.pool.now) in
    let w : wide ≤ prefix_len good_rights words = c.pass_by-wide.ensures.1 in
    let n : c.pass_by.result ≤ prefix_len good_rights (drop wide words) =
    rw (take_rest words wide) at c.pass_by.ensures.1 in
    let e : c.rights_ahead.result ≡ prefix_len good_rights (drop (wide + c.pass_by.result) words) =
    rw (take_rest words (wide + c.pass_by.result)) at c.rights_ahead.ensures.1 in
    let s = prefix_split good_rights words wide w in
    let t = prefix_split good_rights words (wide + c.pass_by.result) (omega arith) in
    let z : first + a.count - first ≡ a.count = omega arith in
    let r : wide + c.pass_by.result + c.rights_ahead.result ≡ prefix_len good_rights words = omega arith in
    skips_rights a.pool.now a.from.0 a.count _ c.requires (rw (z, c.index-first.ensures) at r)
