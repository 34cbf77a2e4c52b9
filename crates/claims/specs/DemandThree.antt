-- Demand 3, as a claim about a compiler and a judge: each clause under the demand's own words.
use Rattle.std.specs.Prelude.{ℕ, ◌*◌, ◌≤◌, ◌≡◌, Bool, List, ◌++◌, ◌↔◌, length, drop, Option, Some}
use Rattle.octets.specs.Numbers.{Octets}
use Rattle.message.specs.Message.{Message}
use Rattle.message.specs.Represents.{Represents}
use Rattle.message.specs.Refusals.{Readable}
use Rattle.line.specs.Line.{lines_of}
use Rattle.program.specs.declared.Spent.{Spent}
use Rattle.program.specs.Readings.{Reading, weight}
use Rattle.program.specs.Records.{weight_limit}
use Rattle.program.specs.Layout.{record_size}
use Rattle.program.specs.Compiling.{program_of}
use Rattle.program.specs.Machine.{machine}
use Rattle.truth.specs.Records.{record_truth}
use Rattle.truth.specs.Verdict.{Keeps, Drops, HasVerdict, Spends}
use Rattle.token.specs.Tokens.{Placed, Lexes}
use Rattle.filter.specs.Answers.{Fine, Derived, DerivedWithin}
use Rattle.filter.specs.Refused.{FirstRefused}
use Rattle.filter.specs.Functions.{Compiling, Compiler, reported}
use Rattle.judge.specs.declared.Tally.{Tally}
use Rattle.judge.specs.Tallies.{FullTally}
use Rattle.judge.specs.Functions.{Judging, Judge}
use Rattle.claims.specs.Functions.{judged_with}

-- "its size, bytes, quotes and nesting are as the paper allows, the grammar derives it, its weight is within the limit and the buffer holds its
-- program": what filter/Answers asks in its rule `compiles`
pub record Compiles (text : List ℕ) (room : ℕ) : Type 0 where
  pub fine : Fine text
  pub reading : Reading
  -- tokens, so every quote is closed; derived, with at most 32 levels open
  pub derives : DerivedWithin text reading
  pub light : weight reading ≤ weight_limit
  pub fits : record_size * weight reading ≤ room

-- what is claimed of the reading of a text that compiles, of a readable record's message, and of judging it with the reported bytes
pub record JudgedSo (r : Reading) (m : Message) (lines : List ℕ) (counting : Option Tally) (c : Compiling) (j : Judging) : Type 0 where
  -- "the paper's machine .. give[s] exactly the reading's verdict and steps on that record", which has therefore one verdict and one number of steps
  pub machine_gives : {b : Bool} {s : Spent} → (machine (record_truth m) (reported c) ≡ (b, s)) ↔ (HasVerdict m r b × Spends m r s)
  -- "with no full tally and, if the reading keeps it, room for its lines, .. the judging .. give[s] exactly the reading's verdict and steps"
  pub judging_keeps : (FullTally counting → ⊥) → length (lines_of m) ≤ length lines → {s : Spent}
      → ((j.number ≡ 1) × (j.spent ≡ s)) ↔ (Keeps m r × Spends m r s)
  pub judging_drops : (FullTally counting → ⊥) → {s : Spent} → ((j.number ≡ 0) × (j.spent ≡ s)) ↔ (Drops m r × Spends m r s)
  -- "the steps never more than the text's weight"
  pub few : {s : Spent} → Spends m r s → s.steps ≤ weight r

-- the demand at a text, a program buffer, a record, a line buffer and a tally or none; c is what compiling answers, j what judging with the
-- reported bytes does, if the text compiles
pub record DemandThreeAt (text buffer bytes lines : List ℕ) (counting : Option Tally) (c : Compiling) (j : Option Judging) : Type 0 where
  -- "the text compiles exactly when .."
  pub compiles : (c.number ≡ 0) ↔ Compiles text (length buffer)
  -- "Each text that it derives has exactly one reading"
  pub one_reading : {r s : Reading} → Derived text r → Derived text s → r ≡ s
  -- ".. and one that compiles gives the very records that the paper lays down for its reading"
  pub records : {r : Reading} → c.number ≡ 0 → Derived text r
      → (c.value ≡ length (program_of r)) × (c.buffer ≡ program_of r ++ drop (length (program_of r)) buffer)
  -- "Whichever readable record is then judged with that program, .."
  pub judged : {r : Reading} → c.number ≡ 0 → Derived text r → {m : Message} → Represents m bytes
      → (answer : Judging) × (j ≡ Some answer) × JudgedSo r m lines counting c answer
  -- "A text of allowed size and bytes, with closed quotes, that the grammar doesn't derive is refused at the first token that no continuation
  -- allows, or at its end if there is no such token, unless an earlier token opens a level too many."
  pub refused : Fine text → {tokens : List Placed} → Lexes 0 text tokens → ((r : Reading) → Derived text r → ⊥)
      → FirstRefused text c.number c.value

pub record DemandThree (compiler : Compiler) (judge : Judge) : Type 1 where
  -- "Whatever text and program buffer it is given, ..": all are free, and the program judged with is the bytes that compiling reported
  pub anywhere : (text buffer bytes lines : List ℕ) (counting : Option Tally)
      → let c = compiler text buffer in
      DemandThreeAt text buffer bytes lines counting c (judged_with judge c bytes lines counting)
  -- "readable": none of 11 to 18 is true of the record; just then it represents a message
  pub readable : {bytes : List ℕ} → Octets bytes → Readable bytes ↔ ((m : Message) × Represents m bytes)
