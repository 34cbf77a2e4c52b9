-- Demand 1, as a claim about a compiler and a judge: each clause under the demand's own words. "It answers and stops": both are functions of all
-- that is lent, and the checker proves that the code ends. "It never asks its caller to have looked first": nothing is asked of the arguments but
-- that bytes are bytes.
use Rattle.std.specs.Prelude.{ℕ, ◌≤◌, ◌≡◌, true, List, ◌↔◌, length, Option}
use Rattle.octets.specs.Numbers.{Octets}
use Rattle.message.specs.Message.{Message}
use Rattle.message.specs.Represents.{Represents}
use Rattle.program.specs.Readings.{Test}
use Rattle.program.specs.Records.{Record, PossibleHead, Possible}
use Rattle.program.specs.Compiling.{head_of, following_of}
use Rattle.truth.specs.Means.{Means}
use Rattle.truth.specs.Records.{record_truth}
use Rattle.filter.specs.declared.Refusal.{Refusal as TextRefusal}
use Rattle.filter.specs.Answers as texts
use Rattle.filter.specs.Functions.{Compiling, Compiler, compiling}
use Rattle.filter.specs.Given.{Given}
use Rattle.line.specs.Answer.{line_room, short_number}
use Rattle.judge.specs.declared.Tally.{Tally}
use Rattle.judge.specs.declared.Refusal.{Refusal}
use Rattle.judge.specs.Answers as records
use Rattle.judge.specs.Functions.{Judging, Judge, judgement}
use Rattle.run.specs.Damage.{OneMore}

-- of a text and a program buffer, and what compiling answers
pub record OfText (text buffer : List ℕ) (c : Compiling) : Type 0 where
  -- "it answers": 0, or one of 1 to 8
  pub numbered : c.number ≤ 8
  -- "Each refusal has its number, given exactly when the paper says": 1 to 8, each at its place
  pub refuses : (why : TextRefusal) (place : ℕ)
      → ((c.number ≡ texts.number_of why) × (c.value ≡ place)) ↔ texts.TextAnswers text (length buffer) (texts.refused why place)
  -- ".. and a refusal writes nothing"
  pub leaves : 1 ≤ c.number → c.buffer ≡ buffer
  -- the whole of it is an answer that the words give
  pub answer : texts.TextOutcome
  pub given : texts.TextAnswers text (length buffer) answer
  pub is : c ≡ compiling answer buffer

-- the numbers of judging: 0 dropped, 1 kept, 11 to 21 a refusal
pub data JudgingNumber (n : ℕ) : Type 0 where
  verdict : n ≤ 1 → JudgingNumber n
  refusal : 11 ≤ n → n ≤ 21 → JudgingNumber n

-- of a program, a record, a line buffer and a tally or none, and what judging answers
pub record OfRecord (program bytes lines : List ℕ) (counting : Option Tally) (j : Judging) : Type 1 where
  -- "it answers"
  pub numbered : JudgingNumber j.number
  -- "Each refusal has its number, given exactly when the paper says": 11 to 21
  pub refuses : (why : Refusal)
      → (j.number ≡ records.number_of why) ↔ records.RecordAnswers program bytes (length lines) counting (records.refused why)
  -- ".. and a refusal writes nothing but its count"
  pub leaves : 11 ≤ j.number → (j.lines ≡ lines) × (j.written ≡ 0)
  -- 11 to 18 are counted; 19, 20 and 21 aren't
  pub counts : 11 ≤ j.number → j.number ≤ 18 → OneMore j.tally counting
  pub uncounted : 19 ≤ j.number → j.tally ≡ counting
  -- "A line buffer of 65,536 bytes never gives 19"
  pub roomy : line_room ≤ length lines → j.number ≡ short_number → ⊥
  -- the whole of it is an answer that the words give: "The last flag is the verdict", of any valid program; "Judging with a tally adds one to seen
  -- and one to kept, dropped or, for 11 to 18, refused"
  pub answer : records.RecordOutcome
  pub given : records.RecordAnswers program bytes (length lines) counting answer
  pub is : j ≡ judgement answer lines counting

-- "Hand it any text, any program bytes, any record, any buffer size"
pub record DemandOne (compiler : Compiler) (judge : Judge) : Type 1 where
  pub texts : (text buffer : List ℕ) → OfText text buffer (compiler text buffer)
  pub records : (program bytes lines : List ℕ) (counting : Option Tally) → Octets program → Octets bytes
      → OfRecord program bytes lines counting (judge program bytes lines counting)
  -- 20, "every record is one that compiling some text could give": what a valid program's records are held to is just that
  pub possible : (r : Record) → Possible r ↔ Given r
  -- the truth of a test that the machine asks for is what the test means on the message
  pub truthful : {m : Message} {bytes : List ℕ} → Represents m bytes → (t : Test) → PossibleHead (head_of t)
      → (record_truth m (head_of t) (following_of t) ≡ true) ↔ Means m t
