-- `pages::write_fours` meets its contract.
use Rattle.std.proofs.Common.{refl, sym, ◌∙◌, arith}
use Rattle.rights_listing.proofs.TextLaws.{text_took, text_none}
use Rattle.rights_listing.proofs.pages.write_fours.Goals as goal

pub loop-i-init : goal.loop-i-init
loop-i-init c = (omega arith, refl, sym (text_none 4))

pub loop-i-preserved : goal.loop-i-preserved
loop-i-preserved c = let i = c.loop-i.invariant in
    let w = c.write_number-len in
    let t = text_took 4 c.loop-i.i c.args.runs.now (omega arith) in (
      omega arith,
      w.auto.out ∙ i.1,
      w.ensures.1 ∙ rw (i.2, c.end_of.ensures) (sym t),
    )
