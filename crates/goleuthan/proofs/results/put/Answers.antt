-- `goleuthan::results::put` meets its contract. Assumes nothing.
use Prim.Native.Nat.{◌+◌}
use mathlib.Core.Path.{◌≡◌, sym, ap, ◌∙◌}
use native.Mathlib.Omega.{arith}
use lib.ListN.{take, set, get_or}
use lib.Seq.{set_out}
use Rattle.std.proofs.Common.{add-one}
use Rattle.goleuthan.specs.Out.{out_with}
use Rattle.goleuthan.proofs.OutLaws.{none_yet, one_more, with_room}
use Rattle.goleuthan.proofs.results.put.Goals as goal
use Rattle.goleuthan.proofs.results.put.Goals.{then-i-out, else-i-out}

pub loop-i-init : goal.loop-i-init
loop-i-init g c = sym (none_yet c.args.results.now c.args.out.now)

pub loop-i-preserved : goal.loop-i-preserved
loop-i-preserved g c =
    let rs = c.args.results.now in
    let i = c.loop-i.i in
    let more = one_more rs c.args.out.now i (omega arith) in
    let next : set c.loop-i.out i (get_or rs i 0) ≡ out_with (take (i + 1) rs) c.args.out.now =
    ap (λ out. set out i (get_or rs i 0)) c.loop-i.invariant ∙ rw (add-one i) more in
    elim c.if-i-out.branch [
      | then-i-out w ↦ w.out-is ∙ next
      | else-i-out w ↦ w.out-is ∙ sym (set_out c.loop-i.out i (get_or rs i 0) w.if-i-out.false) ∙ next
    ]

pub returns-in-Some : goal.returns-in-Some
returns-in-Some g c = let e = with_room c.args.results.now c.args.out.now in grind (arith, c.in-Some.ensures, e)
