-- `owners::exports::with_right` meets its contract.
use Rattle.std.proofs.Common.{◌*◌, ◌%◌, ◌^◌, ◌≡◌, ◌∙◌, ap, arith}
use Rattle.words.specs.Rights.{right_at}
use Rattle.words.proofs.RightsLaws.{right_small}
use Rattle.owners.proofs.BitLaws.{right_fits, shifted_right}
use Rattle.owners.proofs.exports.with_right.Goals as goal
use Rattle.owners.proofs.exports.with_right.Goals.{After-right_at}

-- The two shifts, in the definition's words.
module _ (c : After-right_at) where
  taken : let a = c.args in c.right_at.result * 2 ^ (2 * a.k) % 4294967296 ≡ right_at a.w a.k * 2 ^ (2 * a.k)
  taken = let a = c.args in ap (λ x. x * 2 ^ (2 * a.k) % 4294967296) c.right_at.ensures
      ∙ shifted_right a.k (right_at a.w a.k) (omega arith) (right_small a.w a.k)

  set : let a = c.args in a.right * 2 ^ (2 * a.k) % 4294967296 ≡ a.right * 2 ^ (2 * a.k)
  set = let a = c.args in shifted_right a.k a.right (omega arith) (omega arith)

pub overflow_add-result : goal.overflow_add-result
overflow_add-result c = let a = c.args in
    omega (arith, taken c, set c, right_fits a.w a.k a.right (omega arith) (omega arith) (omega arith))

pub returns : goal.returns
returns c = omega (arith, taken c, set c)
