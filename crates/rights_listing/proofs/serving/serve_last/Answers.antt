-- `serving::serve_last` meets its contract.
use Rattle.std.proofs.Common.{sym, ◌∙◌, arith}
use Rattle.rights_listing.proofs.ChunkLaws.{last_none, last_one}
use Rattle.rights_listing.proofs.serving.serve_last.Goals as goal

pub returns-in-None : goal.returns-in-None
returns-in-None c = last_none (sym c.last_line.ensures ∙ c.in-None.is)

pub returns-in-Some : goal.returns-in-Some
returns-in-Some c = let w = c.write_number in
    let i = w.ensures.0 in
    let l = w.auto.out in
    last_one c.args.out.now (sym c.last_line.ensures ∙ c.in-Some.is) c.reply.ensures (omega arith) w.ensures.1
