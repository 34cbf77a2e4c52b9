-- `operand::as_number` meets its contract: the number there. Assumes nothing.
use Rattle.operand.specs.AsNumbers.{as_number}
use Rattle.operand.proofs.as_number.Goals as goal

pub returns : goal.returns
unfolding as_number
returns c = c.number.ensures
