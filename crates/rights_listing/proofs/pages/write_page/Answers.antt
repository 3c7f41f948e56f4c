-- `pages::write_page` meets its contract.
use Rattle.std.proofs.Common.{ℕ, ◌*◌, arith}
use lib.Seq.{length-take-le}
use Rattle.std.proofs.Math.ListN.{length-replicate}
use Rattle.rights_listing.proofs.PageLaws.{page_refused, page_shown}
use Rattle.rights_listing.proofs.pages.write_page.Goals as goal

pub returns-in_default : goal.returns-in_default
returns-in_default c = page_refused (rw c.shape.ensures at c.in_default.ensures)

pub returns : goal.returns
returns c = let w = c.write_fours-len in
    let s = c.saturating_sub-rest.ensures in
    let m = c.min-now.ensures in
    let o = w.auto.out in
    let l = c.list_runs.auto.runs in
    let k = length-take-le (4 * c.min-now.result) c.list_runs.new.runs
    (let z = length-replicate {A = ℕ} 4096 0 in omega arith) in
    rw s (page_shown (rw c.shape.ensures at c.in-Ok.ensures) w.new.out c.min-now.result w.result
    (length-replicate {A = ℕ} 4096 0) (omega arith) (omega arith) (omega arith) w.ensures.1)
