-- `owners::list::put_region` meets its contract.
use native.Mathlib.Numerals.{add-one}
use native.Mathlib.Omega.{arith}
use lib.ListN.{length-set}
use Rattle.rows.proofs.RowLaws.{add_two, add_three, add_four}
use Rattle.owners.proofs.list.put_region.Goals as goal

pub bounds-ws-at-2 : goal.bounds-ws-at-2
bounds-ws-at-2 c = simp length-set (omega arith)

pub bounds-ws-at-3 : goal.bounds-ws-at-3
bounds-ws-at-3 c = simp length-set (omega arith)

pub bounds-ws-at-4 : goal.bounds-ws-at-4
bounds-ws-at-4 c = simp length-set (omega arith)

pub bounds-ws-at-5 : goal.bounds-ws-at-5
bounds-ws-at-5 c = simp length-set (omega arith)

pub returns : goal.returns
returns c = rw (add-one, add_two, add_three, add_four)
