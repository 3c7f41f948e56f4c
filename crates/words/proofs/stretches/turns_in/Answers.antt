-- `words::stretches::turns_in` meets its contract. Assumes nothing.
use Rattle.words.proofs.TurnLaws.{turn_right}
use Rattle.words.proofs.stretches.turns_in.Goals as goal

pub returns : goal.returns
returns c = turn_right c.args.w
