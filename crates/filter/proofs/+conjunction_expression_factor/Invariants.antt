-- The one proof of the cycle {conjunction, expression, factor}: each part is read as the reader reads it. The measure is 3 for each token left, and the part's rank. Assumes nothing.
use Prim.Native.Nat.{◌+◌, ◌*◌}
use lib.ListN.{length}
use Rattle.program.specs.Readings.{and as and·op, or as or·op}
use Rattle.filter.specs.Parsing.{from}
use Rattle.filter.proofs.Sides.{Sofar}
use Rattle.filter.proofs.+conjunction_expression_factor.Given as goal

abbrev pub decreases-conjunction : goal.decreases-conjunction
decreases-conjunction l = 3 * length (from l.text.now l.t) + 1

abbrev pub decreases-expression : goal.decreases-expression
decreases-expression l = 3 * length (from l.text.now l.t) + 2

abbrev pub decreases-factor : goal.decreases-factor
decreases-factor l = 3 * length (from l.text.now l.t)

-- the sides that were read so far
abbrev pub invariant-conjunction-loop-pass : goal.invariant-conjunction-loop-pass
invariant-conjunction-loop-pass l = Sofar and·op l.text l.level l.fn.t l.n l.fn.out l.part l.out

abbrev pub decreases-conjunction-loop-pass : goal.decreases-conjunction-loop-pass
decreases-conjunction-loop-pass l = length (from l.text l.part.next)

-- the sides that were read so far
abbrev pub invariant-expression-loop-pass : goal.invariant-expression-loop-pass
invariant-expression-loop-pass l = Sofar or·op l.text l.level l.fn.t l.n l.fn.out l.part l.out

abbrev pub decreases-expression-loop-pass : goal.decreases-expression-loop-pass
decreases-expression-loop-pass l = length (from l.text l.part.next)
