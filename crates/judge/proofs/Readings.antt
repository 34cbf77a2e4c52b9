-- Judging with the program of a reading: its verdict on the message, and what it spends. Assumes nothing.
use Prim.Native.Nat.{ℕ, ◌≤◌}
use mathlib.Core.Path.{◌≡◌, ap, ◌∙◌}
use mathlib.Core.Bool.{Bool}
use Rattle.std.specs.Prelude.{Option}
use mathlib.Core.List.{List}
use Rattle.message.specs.Message.{Message}
use Rattle.message.specs.Represents.{Represents}
use Rattle.program.specs.Readings.{Reading, weight, verdict, spent}
use Rattle.program.specs.Records.{weight_limit}
use Rattle.program.specs.Compiling.{program_of}
use Rattle.program.proofs.ReadingValid.{PossibleReading, records_possible, reading_valid}
use Rattle.truth.specs.Means.{test_holds}
use Rattle.truth.proofs.Machines.{machine_truth}
use Rattle.judge.specs.declared.Tally.{Tally}
use Rattle.judge.specs.Tallies.{FullTally}
use Rattle.judge.specs.Judging.{judged_by, judge_of}
use Rattle.judge.proofs.Answered.{message_judged}

-- a verdict false drops the record; a verdict true keeps it, or is 19 where its lines have no room
pub reading_judged : (r : Reading) → PossibleReading r → weight r ≤ weight_limit → {m : Message} {bytes : List ℕ} → Represents m bytes
    → {counting : Option Tally} → (FullTally counting → ⊥) → (room : ℕ) {b : Bool} → verdict (test_holds m) r ≡ b
    → judge_of (program_of r) bytes room counting ≡ judged_by room m (b, spent (test_holds m) r)
reading_judged r p h {m} x n room e =
    message_judged (reading_valid r p h) n x room
    ∙ ap (judged_by room m) (machine_truth m r (records_possible r p h))
    ∙ ap (λ (b : Bool). judged_by room m (b, spent (test_holds m) r)) e
