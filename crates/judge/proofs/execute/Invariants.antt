-- `judge::execute` meets its contract.
-- The loop's invariant: the state stands at a record, and from there the machine comes to what it comes to. Assumes nothing.
use Prim.Native.Nat.{◌-◌, ◌≤◌}
use lib.ListN.{length}
use Rattle.message.specs.Decode.{message_at}
use Rattle.program.specs.Layout.{records_in}
use Rattle.program.specs.Machine.{machine}
use Rattle.program.proofs.ValidRecords.{Right}
use Rattle.truth.specs.Records.{record_truth}
use Rattle.judge.proofs.Execution.{Stands}
use Rattle.judge.proofs.execute.Given as goal

abbrev pub invariant-loop-parts : goal.invariant-loop-parts
invariant-loop-parts l = (l.state.spent.steps ≤ l.state.at)
    × ((r : Right l.program (records_in l.program))
    → Stands (message_at l.bytes l.parts) l.program r l.state (machine (record_truth (message_at l.bytes l.parts)) l.program))

abbrev pub decreases-loop-parts : goal.decreases-loop-parts
decreases-loop-parts l = length l.program - l.state.at
