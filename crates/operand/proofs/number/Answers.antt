-- `operand::number` meets its contract. The loop's invariant: what is read behind the digits so far is what is read. Assumes nothing.
use native.Mathlib.Omega.{arith}
use mathlib.Core.Path.{sym, ◌∙◌}
use Rattle.operand.proofs.Said.{said_none, said_some}
use Rattle.operand.proofs.Numbers.{digit_small, digit_shorter, number_first, number_zero, number_over, number_more, number_missing, number_ends}
use Rattle.operand.proofs.number.Goals as goal

pub returns-in_err-first : goal.returns-in_err-first
returns-in_err-first c = rw c.from_residual.ensures (sym (number_missing c.args.limit c.args.s.now (said_none c.digit.ensures c.in_err-first.was)))

pub loop-d-init : goal.loop-d-init
loop-d-init c = let e = said_some c.digit.ensures c.in_ok-first.was in
    (omega (arith, digit_small _ e), sym (number_first _ e c.args.limit c.requires.0))

pub returns-then-n-eq0 : goal.returns-then-n-eq0
returns-then-n-eq0 c = let e = said_some c.digit-in-loop-d.ensures c.in-Some.is in
    sym (number_zero _ e c.args.limit c.loop-d.n c.if-n-eq0.true) ∙ c.loop-d.invariant.1

pub returns-then-limit-n : goal.returns-then-limit-n
returns-then-limit-n c = let e = said_some c.digit-in-loop-d.ensures c.in-Some.is in
    sym (number_over _ e c.args.limit c.loop-d.n c.if-limit-n.true) ∙ c.loop-d.invariant.1

pub loop-d-smaller : goal.loop-d-smaller
loop-d-smaller c = digit_shorter _ (said_some c.digit-in-loop-d.ensures c.in-Some.is)

pub loop-d-preserved : goal.loop-d-preserved
loop-d-preserved c = let e = said_some c.digit-in-loop-d.ensures c.in-Some.is in
    (omega arith, sym (number_more _ e c.args.limit c.loop-d.n c.if-n-eq0.false (omega arith)) ∙ c.loop-d.invariant.1)

pub returns : goal.returns
returns c = sym (number_ends c.args.limit c.loop-d.n c.loop-d.rest.now (said_none c.digit-in-loop-d.ensures c.in_default.is)) ∙ c.loop-d.invariant.1
