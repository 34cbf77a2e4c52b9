-- `operand::digit` meets its contract, by the first byte. Assumes nothing.
use native.Mathlib.Omega.{arith}
use mathlib.Core.Path.{◌≡◌, sym, ◌∙◌}
use mathlib.Core.Bool.{true, false}
use lib.ListN.{get_or}
use Rattle.operand.specs.Decimals.{is_digit, digit_read}
use Rattle.operand.proofs.Said.{front_cons, no_front}
use Rattle.operand.proofs.Numbers.{digit_at, ascii_digit}
use Rattle.operand.proofs.digit.Goals as goal

pub returns-in_default : goal.returns-in_default
unfolding digit_read
returns-in_default c = rw (no_front c.args.s.now (omega arith))

pub returns-then-not-is_ascii_digit : goal.returns-then-not-is_ascii_digit
returns-then-not-is_ascii_digit c =
    let x : is_digit (get_or c.args.s.now 0 0) ≡ false = ascii_digit _ c.is_ascii_digit.ensures.value ∙ c.if-not-is_ascii_digit.true in
    sym (digit_at (front_cons c.args.s.now (omega arith)) ∙ rw x)

pub returns : goal.returns
returns c =
    let x : is_digit (get_or c.args.s.now 0 0) ≡ true = ascii_digit _ c.is_ascii_digit.ensures.value ∙ c.if-not-is_ascii_digit.false in
    sym (digit_at (front_cons c.args.s.now (omega arith)) ∙ rw x)
