-- `operand::part` meets its contract: a number, then its dot. Assumes nothing.
use Rattle.operand.specs.Addresses.{part_read}
use Rattle.operand.proofs.Said.{said_none, said_some, left_none, left_some}
use Rattle.operand.proofs.part.Goals as goal

pub returns-in_err-value : goal.returns-in_err-value
unfolding part_read
returns-in_err-value c = rw (c.from_residual.ensures, said_none c.number.ensures c.in_err-value.was)

pub returns-in_err-rest : goal.returns-in_err-rest
unfolding part_read
returns-in_err-rest c =
    rw (c.from_residual-in_err-rest.ensures, said_some c.number.ensures c.in_ok-value.was, left_none c.after.ensures c.in_err-rest.was)

pub returns : goal.returns
unfolding part_read
returns c = rw (said_some c.number.ensures c.in_ok-value.was, left_some c.after.ensures c.in_ok-rest.was)
