-- `truth::in_time` meets its contract, comparison by comparison. Assumes nothing.
use native.Mathlib.Nat.{add-zero}
use mathlib.Core.Path.{ap₂, ◌∙◌}
use borrow.Author.Tests.{ne_eqb}
use Rattle.program.specs.Readings.{equal, below, at_most, above, at_least}
use Rattle.truth.specs.Means.{compares}
use native.Mathlib.Omega.{arith}
use Rattle.truth.proofs.in_time.Goals as goal

pub returns-in-0 : goal.returns-in-0
returns-in-0 c = rw c.in-0.is (ap₂ (compares equal) (c.micros-time.ensures ∙ add-zero _) c.micros-operand.ensures)

pub returns-in-1 : goal.returns-in-1
returns-in-1 c = rw c.in-1.is (ap₂ (compares below) (c.micros-time.ensures ∙ add-zero _) c.micros-operand.ensures)

pub returns-in-2 : goal.returns-in-2
returns-in-2 c = rw c.in-2.is (ap₂ (compares at_most) (c.micros-time.ensures ∙ add-zero _) c.micros-operand.ensures)

pub returns-in-3 : goal.returns-in-3
returns-in-3 c = rw c.in-3.is (ap₂ (compares above) (c.micros-time.ensures ∙ add-zero _) c.micros-operand.ensures)

pub returns-in-4 : goal.returns-in-4
returns-in-4 c = rw c.in-4.is (ap₂ (compares at_least) (c.micros-time.ensures ∙ add-zero _) c.micros-operand.ensures)

pub returns-in_default : goal.returns-in_default
returns-in_default c = let v = c.args.f.variant in
    simp (ne_eqb v 0 (omega arith), ne_eqb v 1 (omega arith), ne_eqb v 2 (omega arith), ne_eqb v 3 (omega arith), ne_eqb v 4 (omega arith))
