-- `operand::digits` meets its contract. The loop's invariant: what is read behind the digits so far is what is read. Assumes nothing.
use native.Mathlib.Omega.{arith}
use mathlib.Core.Path.{◌≡◌, refl, sym, ◌∙◌}
use mathlib.Core.Bool.{true, false}
use lib.ListN.{get_or, drop_of_length-le}
use Rattle.operand.specs.Decimals.{is_digit}
use Rattle.operand.specs.Times.{any_digits}
use Rattle.operand.proofs.Decimals.{digit_of}
use Rattle.operand.proofs.Numbers.{ascii_digit}
use Rattle.operand.proofs.Fractions.{six_digits, more_digits, digits_onward, digits_other}
use Rattle.operand.proofs.digits.Goals as goal

pub loop-b-init : goal.loop-b-init
loop-b-init c = (omega arith, refl)

pub returns-then-not-is_ascii_digit : goal.returns-then-not-is_ascii_digit
returns-then-not-is_ascii_digit c = let l = c.loop-b in
    let n : is_digit (get_or c.args.s.now l.b-index 0) ≡ false = ascii_digit _ c.is_ascii_digit.ensures.value ∙ c.if-not-is_ascii_digit.true in
    sym (digits_other c.args.s.now l.n l.b-index (omega arith) n) ∙ l.invariant.1

pub overflow_mul-n : goal.overflow_mul-n
overflow_mul-n c = omega (arith, six_digits c.loop-b.invariant.0 (omega arith))

pub overflow_sub-n : goal.overflow_sub-n
overflow_sub-n c = let l = c.loop-b in
    let y : is_digit (get_or c.args.s.now l.b-index 0) ≡ true = ascii_digit _ c.is_ascii_digit.ensures.value ∙ c.if-not-is_ascii_digit.false in
    omega (arith, (digit_of _ y).0)

pub overflow_add-n : goal.overflow_add-n
overflow_add-n c = let l = c.loop-b in
    let y : is_digit (get_or c.args.s.now l.b-index 0) ≡ true = ascii_digit _ c.is_ascii_digit.ensures.value ∙ c.if-not-is_ascii_digit.false in
    omega (arith, six_digits l.invariant.0 (omega arith), (digit_of _ y).1)

pub loop-b-preserved : goal.loop-b-preserved
loop-b-preserved c = let l = c.loop-b in
    let y : is_digit (get_or c.args.s.now l.b-index 0) ≡ true = ascii_digit _ c.is_ascii_digit.ensures.value ∙ c.if-not-is_ascii_digit.false in
    (more_digits l.b-index l.n _ (digit_of _ y).1 l.invariant.0, sym (digits_onward c.args.s.now l.n l.b-index (omega arith) y) ∙ l.invariant.1)

pub returns : goal.returns
unfolding any_digits
returns c = rw (← c.loop-b.invariant.1, drop_of_length-le c.args.s.now {i = c.loop-b.b-index} (omega arith))
