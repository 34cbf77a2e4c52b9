-- `operand::count_listed` meets its contract: there are no more than bytes. Assumes nothing.
use native.Mathlib.Omega.{arith}
use Rattle.operand.proofs.ListedReads.{listed_reads}
use Rattle.operand.proofs.PartedFronts.{parted_few}
use Rattle.operand.proofs.count_listed.Goals as goal

pub overflow_add-count : goal.overflow_add-count
overflow_add-count c = omega (arith, c.loop-behind.invariant.0, parted_few (listed_reads c.args.list) c.args.s.now)
