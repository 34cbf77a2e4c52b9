-- `operand::optional` meets its contract: whether the byte stands there. Assumes nothing.
use Rattle.operand.specs.Fronts.{optional}
use Rattle.operand.proofs.Said.{left_none, left_some}
use Rattle.operand.proofs.optional.Goals as goal

pub returns-in-Some : goal.returns-in-Some
unfolding optional
returns-in-Some c = rw (left_some c.after.ensures c.in-Some.is)

pub returns-in-None : goal.returns-in-None
unfolding optional
returns-in-None c = rw (left_none c.after.ensures c.in-None.is)
