-- Demand 2, as a claim about a compiler, a judge and a runner: each clause under the demand's own words.
use Rattle.std.specs.Prelude.{ℕ, ◌^◌, ◌≤◌, ◌<◌, ◌≡◌, List, [], ◌∷◌, ◌++◌, ◌↔◌, length, drop, Option}
use Rattle.octets.specs.Numbers.{Octets}
use Rattle.aspath.specs.declared.Width.{Width}
use Rattle.aspath.specs.Members.{number as member}
use Rattle.aspath.specs.Wire.{width_bytes}
use Rattle.message.specs.Message.{Message}
use Rattle.message.specs.Represents.{Represents}
use Rattle.message.specs.declared.Refusal.{Refusal}
use Rattle.message.specs.Refusals.{RefusedWith, Readable, number}
use Rattle.line.specs.Line.{lines_of}
use Rattle.program.specs.Readings.{Reading}
use Rattle.program.specs.Validity.{Valid}
use Rattle.truth.specs.Means.{HasPath}
use Rattle.truth.specs.Verdict.{Keeps, Drops}
use Rattle.judge.specs.declared.Tally.{Tally}
use Rattle.judge.specs.Tallies.{FullTally}
use Rattle.judge.specs.Functions.{Judging, Judge}
use Rattle.run.specs.Runs.{Runner, RunsOver}
use Rattle.run.specs.Damage.{ChangesNothing}
use Rattle.filter.specs.Answers.{Derived}
use Rattle.filter.specs.Functions.{Compiler, reported}

-- judging a record of a message with the program of a reading
pub record OnMessage (r : Reading) (m : Message) (lines : List ℕ) (j : Judging) : Type 0 where
  -- "keep or drop is what the filter's words mean on that message"
  pub keeps : length (lines_of m) ≤ length lines → (j.number ≡ 1) ↔ Keeps m r
  pub drops : (j.number ≡ 0) ↔ Drops m r
  -- "and the printed line, given room, is the one the paper lays down, byte for byte"
  pub printed : length (lines_of m) ≤ length lines → Keeps m r
      → (j.written ≡ length (lines_of m)) × (j.lines ≡ lines_of m ++ drop (length (lines_of m)) lines)
  -- a dropped record writes nothing
  pub silent : Drops m r → (j.written ≡ 0) × (j.lines ≡ lines)

-- some record comes from a peer with this AS number and has it as its path, in numbers of this width; and its bytes are no other message
pub record Whole (w : Width) (n : ℕ) : Type 0 where
  pub message : Message
  pub record_bytes : List ℕ
  pub represents : Represents message record_bytes
  pub width : message.width ≡ w
  pub peer : message.peer_as ≡ n
  pub path : HasPath message (member n ∷ [])
  pub only : {m : Message} → Represents m record_bytes → m ≡ message

pub record DemandTwo (compiler : Compiler) (judge : Judge) (runner : Runner) : Type 1 where
  -- the records that are read are those of messages
  pub readable : {record_bytes : List ℕ} → Octets record_bytes → Readable record_bytes ↔ ((m : Message) × Represents m record_bytes)
  -- "For every record that RFC 6396 and RFC 4271 allow, of the kinds and sizes we read"
  pub on_message : {text buffer : List ℕ} {r : Reading} → (compiler text buffer).number ≡ 0 → Derived text r
      → {m : Message} {record_bytes : List ℕ} → Represents m record_bytes → (lines : List ℕ) (counting : Option Tally) → (FullTally counting → ⊥)
      → OnMessage r m lines (judge (reported (compiler text buffer)) record_bytes lines counting)
  -- "AS numbers are whole, in two bytes or four"
  pub whole : (w : Width) (n : ℕ) → n < 256 ^ width_bytes w → Whole w n
  -- "A damaged record gets its refusal"
  pub refused : {program record_bytes : List ℕ} {why : Refusal} → Valid program → Octets record_bytes → RefusedWith record_bytes why
      → (lines : List ℕ) (counting : Option Tally) → (FullTally counting → ⊥) → (judge program record_bytes lines counting).number ≡ number why
  -- later verdicts: a run judges its records in order
  pub in_order : RunsOver judge runner
  -- ".. and, while its length is right and no tally is full, changes no later verdict"
  pub unshaken : ChangesNothing runner
