-- `operand::after` meets its contract, by the first byte. Assumes nothing.
use native.Mathlib.Omega.{arith}
use mathlib.Core.Path.{sym, ◌∙◌}
use borrow.Author.Tests.{eq-eqb, ne_eqb}
use Rattle.operand.specs.Fronts.{after}
use Rattle.operand.proofs.Said.{front_cons, no_front, after_of}
use Rattle.operand.proofs.after.Goals as goal

pub returns-in_default : goal.returns-in_default
unfolding after
returns-in_default c = rw (no_front c.args.s.now (omega arith))

pub returns-then-first-b : goal.returns-then-first-b
returns-then-first-b c = sym (after_of c.args.b (front_cons c.args.s.now (omega arith)) ∙ rw (ne_eqb _ c.args.b c.if-first-b.true))

pub returns : goal.returns
returns c = sym (after_of c.args.b (front_cons c.args.s.now (omega arith)) ∙ rw (eq-eqb _ c.args.b c.if-first-b.false))
