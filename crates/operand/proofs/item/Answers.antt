-- `operand::item` meets its contract: a number, or else the sign at the front. Assumes nothing.
use Rattle.operand.specs.Patterns.{item_read}
use Rattle.operand.proofs.Said.{said_none, said_some, left_none, left_some}
use Rattle.operand.proofs.item.Goals as goal

pub returns-in-Some : goal.returns-in-Some
unfolding item_read
returns-in-Some c = rw (said_some c.as_number.ensures c.in-Some.is)

pub returns-in-Some-after : goal.returns-in-Some-after
unfolding item_read
returns-in-Some-after c = rw (said_none c.as_number.ensures c.in_default.is, left_some c.after.ensures c.in-Some-after.is)

pub returns-in_err-after : goal.returns-in_err-after
unfolding item_read
returns-in_err-after c =
    rw (
      c.from_residual.ensures,
      said_none c.as_number.ensures c.in_default.is,
      left_none c.after.ensures c.in_default-after.is,
      left_none c.after-2.ensures c.in_err-after.was,
    )

pub returns-in_err-n : goal.returns-in_err-n
unfolding item_read
returns-in_err-n c =
    rw (
      c.from_residual-in_err-n.ensures,
      said_none c.as_number.ensures c.in_default.is,
      left_none c.after.ensures c.in_default-after.is,
      left_some c.after-2.ensures c.in_ok-after.was,
      said_none c.as_number-2.ensures c.in_err-n.was,
    )

pub returns : goal.returns
unfolding item_read
returns c =
    rw (
      said_none c.as_number.ensures c.in_default.is,
      left_none c.after.ensures c.in_default-after.is,
      left_some c.after-2.ensures c.in_ok-after.was,
      said_some c.as_number-2.ensures c.in_ok-n.was,
    )
