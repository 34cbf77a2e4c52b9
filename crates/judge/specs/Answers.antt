-- What judging a record with a program answers: 20, 21, 11 to 18, the verdict, 19, in the paper's words.
use Rattle.std.specs.Prelude.{ℕ, ◌≤◌, ◌<◌, ◌≡◌, true, false, List, ◌++◌, length, drop, Option}
use Rattle.message.specs.Message.{Message}
use Rattle.message.specs.declared.Refusal.{Refusal as RecordRefusal}
use Rattle.message.specs.Represents.{Represents}
use Rattle.message.specs.Refusals.{RefusedWith, number}
use Rattle.line.specs.Line.{lines_of}
use Rattle.line.specs.Answer.{short_number}
use Rattle.program.specs.declared.Spent.{Spent}
use Rattle.program.specs.Machine.{machine}
use Rattle.program.specs.Validity.{Valid}
use Rattle.truth.specs.Records.{record_truth}
use Rattle.judge.specs.declared.Tally.{Tally}
use Rattle.judge.specs.declared.Refusal.{Refusal}
use Rattle.judge.specs.declared.Refusal.TheVariants.{Program, Count, Record, Lines}
use Rattle.judge.specs.Tallies.{FullTally, one_kept, one_dropped, one_refused}

-- the paper's numbers
unfoldable pub number_of : Refusal → ℕ
number_of Program = 20
number_of Count = 21
number_of (Record why) = number why
number_of Lines = short_number

pub data RecordOutcome : Type 0 where
  -- what was spent, and the lines
  kept : Spent → List ℕ → RecordOutcome
  dropped : Spent → RecordOutcome
  refused : Refusal → RecordOutcome

-- the answer for a program, the bytes of a record, the room for lines and a tally or none
pub data RecordAnswers (program bytes : List ℕ) (room : ℕ) (counting : Option Tally) : RecordOutcome → Type 1 where
  -- 20: program not valid
  not_valid : (Valid program → ⊥) → RecordAnswers program bytes room counting (refused Program)
  -- 21: judging with a tally that is full
  full : Valid program → FullTally counting → RecordAnswers program bytes room counting (refused Count)
  -- 11 to 18
  unread : {why : RecordRefusal} → Valid program → (FullTally counting → ⊥) → RefusedWith bytes why
      → RecordAnswers program bytes room counting (refused (Record why))
  -- the last flag is the verdict
  drops : {m : Message} {spent : Spent} → Valid program → (FullTally counting → ⊥) → Represents m bytes
      → machine (record_truth m) program ≡ (false, spent)
      → RecordAnswers program bytes room counting (dropped spent)
  -- 19: record kept and line buffer too short
  short : {m : Message} {spent : Spent} → Valid program → (FullTally counting → ⊥) → Represents m bytes
      → machine (record_truth m) program ≡ (true, spent)
      → room < length (lines_of m) → RecordAnswers program bytes room counting (refused Lines)
  keeps : {m : Message} {spent : Spent} → Valid program → (FullTally counting → ⊥) → Represents m bytes
      → machine (record_truth m) program ≡ (true, spent)
      → length (lines_of m) ≤ room → RecordAnswers program bytes room counting (kept spent (lines_of m))

-- the line buffer afterwards: a kept record's lines over its start, else as it was
abbrev pub lines_after : RecordOutcome → List ℕ → List ℕ
lines_after (kept spent lines) old = lines ++ drop (length lines) old
lines_after (dropped spent) old = old
lines_after (refused why) old = old

-- the tally afterwards: of the refusals only those of a record, 11 to 18, are counted
abbrev pub tally_after : RecordOutcome → Tally → Tally
tally_after (kept spent lines) t = one_kept t
tally_after (dropped spent) t = one_dropped t
tally_after (refused (Record why)) t = one_refused t
tally_after (refused Program) t = t
tally_after (refused Count) t = t
tally_after (refused Lines) t = t
