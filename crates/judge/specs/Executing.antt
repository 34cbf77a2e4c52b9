-- What the parts of judging compute: the machine a record at a time, and an answer with what it counts as.
use Rattle.std.specs.Prelude.{ℕ, ◌+◌, ◌*◌, ◌≡◌, Bool, not, Option, None, Some, Result, Ok, Err, List, drop, eqb}
use Rattle.octets.specs.Choice.{pick}
use Rattle.message.specs.Message.{Message}
use Rattle.program.specs.declared.Fields.{Fields}
use Rattle.program.specs.declared.Spent.{Spent}
use Rattle.program.specs.declared.Class.{Class}
use Rattle.program.specs.declared.Class.TheVariants.{Test, Item, Flip, Pass}
use Rattle.program.specs.Spent.{one_step, together}
use Rattle.program.specs.Kinds.{and_kind, class_is}
use Rattle.program.specs.Layout.{record_size, fields_in}
use Rattle.program.specs.Checks.{following_in}
use Rattle.truth.specs.Records.{truth_at}
use Rattle.judge.specs.declared.MachineState.{MachineState}
use Rattle.judge.specs.declared.Tally.{Tally}
use Rattle.judge.specs.declared.Refusal.{Refusal}
use Rattle.judge.specs.declared.Refusal.TheVariants.{Program, Count, Record, Lines}
use Rattle.judge.specs.declared.Verdict.{Verdict}
use Rattle.judge.specs.declared.Verdict.TheVariants.{Kept, Dropped}
use Rattle.judge.specs.Tallies.{one_kept, one_dropped, one_refused}
use Rattle.judge.specs.Answers.{RecordOutcome, tally_after}
use Rattle.judge.specs.Functions.{value_of, said_of}

-- the tally after an answer
unfoldable pub tally_of : Result Verdict Refusal → Tally → Tally
tally_of (Ok (Kept spent bytes)) t = one_kept t
tally_of (Ok (Dropped spent)) t = one_dropped t
tally_of (Err (Record r)) t = one_refused t
tally_of (Err Program) t = t
tally_of (Err Count) t = t
tally_of (Err Lines) t = t

-- an answer that says an outcome and counts as it does
pub record JudgedAs (j : Result Verdict Refusal) (o : RecordOutcome) : Type 0 where
  pub said : value_of j ≡ said_of o
  pub counts : (t : Tally) → tally_of j t ≡ tally_after o t

-- the records that a pass passes over
unfoldable pub passed_over : Fields → Bool → ℕ
passed_over f flag = pick (pick (eqb f.kind and_kind) flag (not flag)) 0 f.count

-- the state past the record at its place and some after it
abbrev pub on_from : MachineState → ℕ → Bool → Spent → MachineState
on_from s over flag spent = record { at = s.at + record_size + record_size * over; flag = flag; spent = spent }

-- the state after a record of a class and these fields, if it is true or not as a test
abbrev pub state_by : Option Class → Fields → Bool → MachineState → MachineState
state_by (Some Test) f truth s = on_from s (following_in f) truth (together s.spent one_step)
state_by (Some Item) f truth s = on_from s 0 s.flag s.spent
state_by (Some Flip) f truth s = on_from s 0 (not s.flag) (together s.spent one_step)
state_by (Some Pass) f truth s = on_from s (passed_over f s.flag) s.flag (together s.spent one_step)
state_by None f truth s = on_from s 0 s.flag s.spent

-- the state after the record at its place
unfoldable pub state_after : Message → List ℕ → MachineState → MachineState
state_after m program s =
    let f = fields_in (drop s.at program) in
    state_by (class_is f.kind) f (truth_at m program s.at) s
