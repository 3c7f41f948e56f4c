-- `owners::exports::with_bit` meets its contract.
use Rattle.std.proofs.Common.{◌∙◌, ap, arith, bit_or}
use Rattle.std.proofs.lemmas.Nat.{shl_whole}
use Rattle.owners.proofs.BitLaws.{or_bit}
use Rattle.owners.proofs.exports.with_bit.Goals as goal

pub returns : goal.returns
returns c = let a = c.args in
    ap (λ x. bit_or a.g x) (shl_whole 1 1 a.k 32 (omega arith) (omega arith) ∙ omega arith) ∙ or_bit a.g a.k
