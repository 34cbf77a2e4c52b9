-- `program::each_record` meets its contract. The loop's invariant: the test holds at each record just where it holds at those left. Assumes nothing.
use Rattle.std.proofs.Common.{◌≡◌, ◌/◌, ℕ, Bool, List, length}
use Rattle.program.specs.Layout.{record_size}
use Rattle.program.specs.Checks.{each_record, Decides}
use Rattle.program.specs.contracts.each_record.F-Fn as testing
use Rattle.program.proofs.each_record.Given as goal

abbrev pub invariant-loop-rest : goal.invariant-loop-rest
invariant-loop-rest g l = (holds : List ℕ → Bool) → Decides ((testing.words g.row.F g.F.Fn).post l.test) holds
    → each_record holds (length l.rest / record_size) l.rest ≡ each_record holds (length l.program / record_size) l.program

abbrev pub decreases-loop-rest : goal.decreases-loop-rest
decreases-loop-rest g l = length l.rest
