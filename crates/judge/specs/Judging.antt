-- The answer of judging, as the code computes it.
use Rattle.std.specs.Prelude.{ℕ, Bool, List, length, ltb, Option, Result, Ok, Err}
use Rattle.octets.specs.Choice.{pick}
use Rattle.message.specs.Message.{Message}
use Rattle.message.specs.declared.Parts.{Parts}
use Rattle.message.specs.declared.Refusal.{Refusal as RecordRefusal}
use Rattle.message.specs.Decode.{message_at, decode_of}
use Rattle.line.specs.Line.{lines_of}
use Rattle.program.specs.declared.Spent.{Spent}
use Rattle.program.specs.Machine.{machine}
use Rattle.program.specs.Checks.{is_valid}
use Rattle.truth.specs.Records.{record_truth}
use Rattle.judge.specs.declared.Tally.{Tally}
use Rattle.judge.specs.declared.Refusal.TheVariants.{Program, Count, Record, Lines}
use Rattle.judge.specs.Tallies.{is_full_tally}
use Rattle.judge.specs.Answers.{RecordOutcome, kept, dropped, refused}

-- lines that have room, or 19
abbrev pub printed : ℕ → Spent → List ℕ → RecordOutcome
printed room spent lines = pick (ltb room (length lines)) (refused Lines) (kept spent lines)

-- the verdict on a message, and 19
abbrev pub judged_by : ℕ → Message → Bool × Spent → RecordOutcome
judged_by room m x = pick x.0 (printed room x.1 (lines_of m)) (dropped x.1)

-- 11 to 18, or the verdict
abbrev pub decoded : List ℕ → List ℕ → ℕ → Result Parts RecordRefusal → RecordOutcome
decoded program bytes room (Ok parts) = judged_by room (message_at bytes parts) (machine (record_truth (message_at bytes parts)) program)
decoded program bytes room (Err why) = refused (Record why)

-- the answer for a program, a record, the room for lines and a tally or none
unfoldable pub judge_of : List ℕ → List ℕ → ℕ → Option Tally → RecordOutcome
judge_of program bytes room counting =
    pick (is_valid program) (pick (is_full_tally counting) (refused Count) (decoded program bytes room (decode_of bytes))) (refused Program)
