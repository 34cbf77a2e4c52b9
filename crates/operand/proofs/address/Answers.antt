-- `operand::address` meets its contract: three parts with their dots, and a fourth. Assumes nothing.
use native.Mathlib.Omega.{arith}
use Rattle.operand.specs.Addresses.{address_read}
use Rattle.operand.proofs.Said.{said_none, said_some}
use Rattle.operand.proofs.Numbers.{number_below}
use Rattle.operand.proofs.OperandAddresses.{part_below}
use Rattle.operand.proofs.address.Goals as goal

pub returns-in_err-a : goal.returns-in_err-a
unfolding address_read
returns-in_err-a c = rw (c.from_residual.ensures, said_none c.part.ensures c.in_err-a.was)

pub returns-in_err-b : goal.returns-in_err-b
unfolding address_read
returns-in_err-b c = rw (c.from_residual-in_err-b.ensures, said_some c.part.ensures c.in_ok-a.was, said_none c.part-2.ensures c.in_err-b.was)

pub returns-in_err-c : goal.returns-in_err-c
unfolding address_read
returns-in_err-c c =
    rw (
      c.from_residual-in_err-c.ensures,
      said_some c.part.ensures c.in_ok-a.was,
      said_some c.part-2.ensures c.in_ok-b.was,
      said_none c.part-3.ensures c.in_err-c.was,
    )

pub returns-in_err-d : goal.returns-in_err-d
unfolding address_read
returns-in_err-d c =
    rw (
      c.from_residual-in_err-d.ensures,
      said_some c.part.ensures c.in_ok-a.was,
      said_some c.part-2.ensures c.in_ok-b.was,
      said_some c.part-3.ensures c.in_ok-c.was,
      said_none c.number.ensures c.in_err-d.was,
    )

pub overflow_mul-result : goal.overflow_mul-result
overflow_mul-result c =
    omega (
      arith,
      part_below _ (said_some c.part.ensures c.in_ok-a.was),
      part_below _ (said_some c.part-2.ensures c.in_ok-b.was),
      part_below _ (said_some c.part-3.ensures c.in_ok-c.was),
      number_below _ _ (said_some c.number.ensures c.in_ok-d.was),
    )

pub overflow_add-result : goal.overflow_add-result
overflow_add-result c =
    omega (
      arith,
      part_below _ (said_some c.part.ensures c.in_ok-a.was),
      part_below _ (said_some c.part-2.ensures c.in_ok-b.was),
      part_below _ (said_some c.part-3.ensures c.in_ok-c.was),
      number_below _ _ (said_some c.number.ensures c.in_ok-d.was),
    )

pub overflow_mul-result-2 : goal.overflow_mul-result-2
overflow_mul-result-2 c =
    omega (
      arith,
      part_below _ (said_some c.part.ensures c.in_ok-a.was),
      part_below _ (said_some c.part-2.ensures c.in_ok-b.was),
      part_below _ (said_some c.part-3.ensures c.in_ok-c.was),
      number_below _ _ (said_some c.number.ensures c.in_ok-d.was),
    )

pub overflow_add-result-2 : goal.overflow_add-result-2
overflow_add-result-2 c =
    omega (
      arith,
      part_below _ (said_some c.part.ensures c.in_ok-a.was),
      part_below _ (said_some c.part-2.ensures c.in_ok-b.was),
      part_below _ (said_some c.part-3.ensures c.in_ok-c.was),
      number_below _ _ (said_some c.number.ensures c.in_ok-d.was),
    )

pub overflow_mul-result-3 : goal.overflow_mul-result-3
overflow_mul-result-3 c =
    omega (
      arith,
      part_below _ (said_some c.part.ensures c.in_ok-a.was),
      part_below _ (said_some c.part-2.ensures c.in_ok-b.was),
      part_below _ (said_some c.part-3.ensures c.in_ok-c.was),
      number_below _ _ (said_some c.number.ensures c.in_ok-d.was),
    )

pub overflow_add-result-3 : goal.overflow_add-result-3
overflow_add-result-3 c =
    omega (
      arith,
      part_below _ (said_some c.part.ensures c.in_ok-a.was),
      part_below _ (said_some c.part-2.ensures c.in_ok-b.was),
      part_below _ (said_some c.part-3.ensures c.in_ok-c.was),
      number_below _ _ (said_some c.number.ensures c.in_ok-d.was),
    )

pub returns : goal.returns
unfolding address_read
returns c =
    rw (
      said_some c.part.ensures c.in_ok-a.was,
      said_some c.part-2.ensures c.in_ok-b.was,
      said_some c.part-3.ensures c.in_ok-c.was,
      said_some c.number.ensures c.in_ok-d.was,
    )
