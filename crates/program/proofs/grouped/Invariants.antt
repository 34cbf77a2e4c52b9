-- `program::grouped` meets its contract. The loop's invariant: the records are grouped just where those that are left are. Assumes nothing.
use mathlib.Core.Path.{◌≡◌}
use lib.ListN.{length}
use Rattle.octets.specs.Rows.{whole}
use Rattle.program.specs.Checks.{group_size}
use Rattle.program.proofs.grouped.Given as goal

abbrev pub invariant-loop-size : goal.invariant-loop-size
invariant-loop-size l = whole group_size l.rest ≡ whole group_size l.program

abbrev pub decreases-loop-size : goal.decreases-loop-size
decreases-loop-size l = length l.rest
