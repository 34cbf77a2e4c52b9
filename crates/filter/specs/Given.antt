-- The records that compiling gives.
use Rattle.std.specs.Prelude.{ℕ, ◌*◌, ◌<◌, ◌≡◌, List, length, get_or}
use Rattle.program.specs.Readings.{Reading}
use Rattle.program.specs.Records.{Record, flip, weight_limit}
use Rattle.program.specs.Layout.{record_size}
use Rattle.program.specs.Compiling.{records}
use Rattle.filter.specs.Answers.{TextAnswers, compiled}

-- some text compiles to a program that contains this record
pub record Given (r : Record) : Type 0 where
  pub text : List ℕ
  pub reading : Reading
  pub compiles : TextAnswers text (record_size * weight_limit) (compiled reading)
  pub place : ℕ
  pub within : place < length (records reading)
  pub stands : get_or (records reading) place flip ≡ r
