-- What is written for a good filter: the lines that the steps of a run hand out, with the program that the filter compiles to.
use Rattle.std.specs.Prelude.{ℕ, ◌≡◌, List, [], take, Some, Result, Ok, Err}
use Rattle.filter.specs.Functions.{reported, our_compiler}
use Rattle.judge.specs.declared.Refusal.{Refusal}
use Rattle.judge.specs.declared.Verdict.{Verdict}
use Rattle.judge.specs.declared.Verdict.TheVariants.{Kept, Dropped}
use Rattle.judge.specs.declared.Tally.{Tally}
use Rattle.judge.specs.Tallies.{tally}
use Rattle.judge.specs.Functions.{judging_of, our_judge}
use Rattle.run.specs.Runs.{judged, RunState, start, answer_of, runner_of}

-- these bytes are lent as the program: compiling some text reports them
pub record Lent (program : List ℕ) : Type 0 where
  pub text : List ℕ
  pub buffer : List ℕ
  pub compiles : (our_compiler text buffer).number ≡ 0
  pub is : program ≡ reported (our_compiler text buffer)

-- the lines that an answer hands out, with the line buffer afterwards: those of a kept record, at its start
abbrev pub kept_lines : Result Verdict Refusal → List ℕ → List ℕ
kept_lines (Ok (Kept spent bytes)) lines = take bytes lines
kept_lines (Ok (Dropped spent)) lines = []
kept_lines (Err why) lines = []

-- where a run begins: at the first byte, with nothing counted
abbrev pub begins : List ℕ → RunState
begins lines = start lines (Some (tally 0 0 0 0))

-- some step of the run over the records, from its start with some line buffer, hands out these bytes
pub record OfRun (program records bytes : List ℕ) : Type 0 where
  pub buffer : List ℕ
  pub step : ℕ
  -- its answer, with the line buffer and the tally afterwards, and the place behind the record
  pub said : Result Verdict Refusal
  pub lines : List ℕ
  pub counts : Tally
  pub next : ℕ
  pub answers : answer_of (runner_of our_judge) program records (begins buffer) step ≡ judged (judging_of said lines (Some counts)) next
  pub handed : bytes ≡ kept_lines said lines
