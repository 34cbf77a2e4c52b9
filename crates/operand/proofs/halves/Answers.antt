-- `operand::halves` meets its contract: a number, a colon, a number. Assumes nothing.
use native.Mathlib.Omega.{arith}
use Rattle.operand.specs.Communities.{halves_read}
use Rattle.operand.proofs.Said.{said_none, said_some, left_none, left_some}
use Rattle.operand.proofs.Numbers.{number_below}
use Rattle.operand.proofs.halves.Goals as goal

pub returns-in_err-n : goal.returns-in_err-n
unfolding halves_read
returns-in_err-n c = rw (c.from_residual.ensures, said_none c.number.ensures c.in_err-n.was)

pub returns-in_err-after : goal.returns-in_err-after
unfolding halves_read
returns-in_err-after c =
    rw (c.from_residual-in_err-after.ensures, said_some c.number.ensures c.in_ok-n.was, left_none c.after.ensures c.in_err-after.was)

pub returns-in_err-m : goal.returns-in_err-m
unfolding halves_read
returns-in_err-m c =
    rw (
      c.from_residual-in_err-m.ensures,
      said_some c.number.ensures c.in_ok-n.was,
      left_some c.after.ensures c.in_ok-after.was,
      said_none c.number-2.ensures c.in_err-m.was,
    )

pub overflow_mul-result : goal.overflow_mul-result
overflow_mul-result c =
    omega (arith, number_below _ _ (said_some c.number.ensures c.in_ok-n.was), number_below _ _ (said_some c.number-2.ensures c.in_ok-m.was))

pub overflow_add-result : goal.overflow_add-result
overflow_add-result c =
    omega (arith, number_below _ _ (said_some c.number.ensures c.in_ok-n.was), number_below _ _ (said_some c.number-2.ensures c.in_ok-m.was))

pub returns : goal.returns
unfolding halves_read
returns c =
    rw (
      said_some c.number.ensures c.in_ok-n.was,
      left_some c.after.ensures c.in_ok-after.was,
      said_some c.number-2.ensures c.in_ok-m.was,
    )
