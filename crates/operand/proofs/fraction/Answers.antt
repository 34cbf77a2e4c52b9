-- `operand::fraction` meets its contract: nothing, or a dot and its digits. Assumes nothing.
use native.Mathlib.Omega.{arith}
use mathlib.Core.Path.{sym, ◌∙◌}
use borrow.Author.Tests.{le-leb, lt-leb}
use lib.ListN.{length}
use Rattle.operand.specs.Times.{fraction_digits}
use Rattle.operand.proofs.Said.{left_none, left_some, empty_true, empty_false}
use Rattle.operand.proofs.Fractions.{digits_below, no_fraction, fraction_behind}
use Rattle.operand.proofs.fraction.Goals as goal

pub returns-then-is_empty : goal.returns-then-is_empty
returns-then-is_empty c = sym (no_fraction c.args.s.now (empty_true _ c.is_empty.ensures c.if-is_empty.true))

pub returns-in_err-written : goal.returns-in_err-written
returns-in_err-written c =
    rw (
      c.from_residual.ensures,
      fraction_behind c.args.s.now (empty_false _ c.is_empty.ensures c.if-is_empty.false),
      left_none c.after.ensures c.in_err-written.was,
    )

pub returns-then-is_empty-2 : goal.returns-then-is_empty-2
returns-then-is_empty-2 c = let n = length c.in_ok-written.written.now in
    rw (
      fraction_behind c.args.s.now (empty_false _ c.is_empty.ensures c.if-is_empty.false),
      left_some c.after.ensures c.in_ok-written.was,
      lt-leb 1 n (omega (arith, empty_true n c.is_empty-2.ensures c.if-is_empty-2.true)),
    )

pub returns-then-written-gt-FRACTION_DIGITS : goal.returns-then-written-gt-FRACTION_DIGITS
returns-then-written-gt-FRACTION_DIGITS c = let n = length c.in_ok-written.written.now in
    rw (
      fraction_behind c.args.s.now (empty_false _ c.is_empty.ensures c.if-is_empty.false),
      left_some c.after.ensures c.in_ok-written.was,
      le-leb 1 n (omega arith),
      lt-leb n fraction_digits c.if-written-gt-FRACTION_DIGITS.true,
    )

pub returns-in_err-n : goal.returns-in_err-n
returns-in_err-n c = let n = length c.in_ok-written.written.now in
    let f = empty_false n c.is_empty-2.ensures c.if-is_empty-2.false in
    rw (
      c.from_residual-in_err-n.ensures,
      fraction_behind c.args.s.now (empty_false _ c.is_empty.ensures c.if-is_empty.false),
      left_some c.after.ensures c.in_ok-written.was,
      le-leb 1 n (omega arith),
      le-leb n fraction_digits c.if-written-gt-FRACTION_DIGITS.false,
      sym c.digits.ensures ∙ c.in_err-n.was,
    )

pub scaled-requires : goal.scaled-requires
scaled-requires c = (c.if-written-gt-FRACTION_DIGITS.false, digits_below c.in_ok-written.written.now (sym c.digits.ensures ∙ c.in_ok-n.was))

pub returns : goal.returns
returns c = let n = length c.in_ok-written.written.now in
    let f = empty_false n c.is_empty-2.ensures c.if-is_empty-2.false in
    rw (
      fraction_behind c.args.s.now (empty_false _ c.is_empty.ensures c.if-is_empty.false),
      left_some c.after.ensures c.in_ok-written.was,
      le-leb 1 n (omega arith),
      le-leb n fraction_digits c.if-written-gt-FRACTION_DIGITS.false,
      sym c.digits.ensures ∙ c.in_ok-n.was,
      c.scaled.ensures,
    )
