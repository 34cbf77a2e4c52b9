-- Compiling as a function of all that is lent, so that a claim can be said of another compiler too; and ours.
use Rattle.std.specs.Prelude.{ℕ, ◌*◌, List, ◌++◌, length, take, drop, Result, Ok, Err}
use Rattle.program.specs.Readings.{weight}
use Rattle.program.specs.Layout.{record_size}
use Rattle.program.specs.Compiling.{program_of}
use Rattle.filter.specs.declared.Refused.{Refused}
use Rattle.filter.specs.Answers.{number_of, TextOutcome, compiled, refused}
use Rattle.filter.specs.Answering.{answer}

-- what compiling answers, and the program buffer afterwards: 0 and the program's bytes, or a refusal's number and its place
pub record Compiling : Type 0 where
  pub number : ℕ
  pub value : ℕ
  pub buffer : List ℕ

-- of a text and a program buffer
abbrev pub Compiler : Type 0
Compiler = List ℕ → List ℕ → Compiling

-- the bytes that compiling reports
abbrev pub reported : Compiling → List ℕ
reported c = take c.value c.buffer

-- what the code's answer says, with the program buffer afterwards
unfoldable pub compiling_of : Result ℕ Refused → List ℕ → Compiling
compiling_of (Ok bytes) buffer = record { number = 0; value = bytes; buffer = buffer }
compiling_of (Err r) buffer = record { number = number_of r.refusal; value = r.place; buffer = buffer }

-- what an answer in words says, with what it does to the buffer: the program's records over its start, or nothing
abbrev pub compiling : TextOutcome → List ℕ → Compiling
compiling (compiled r) old = record { number = 0; value = record_size * weight r; buffer = program_of r ++ drop (length (program_of r)) old }
compiling (refused why place) old = record { number = number_of why; value = place; buffer = old }

-- ---- ours, as its promise settles it

abbrev pub our_compiler : Compiler
our_compiler text buffer = compiling (answer text (length buffer)) buffer
