-- A run of records: one step after another, each with the place, the line buffer and the tally that the one before left.
use Rattle.std.specs.Prelude.{ℕ, zero, suc, ◌+◌, ◌≤◌, ◌<◌, ◌≡◌, List, [], ◌∷◌, length, get_or, take, Option}
use Rattle.walk.specs.declared.Step.{Step}
use Rattle.walk.specs.declared.Step.TheVariants.{Record, Done, Cut}
use Rattle.walk.specs.Split.{Splits, place_in}
use Rattle.walk.specs.Steps.{step_at, record_of}
use Rattle.judge.specs.declared.Tally.{Tally}
use Rattle.judge.specs.Functions.{Judging, Judge}

-- what a step of a run answers, with the line buffer afterwards
pub data Stepped : Type 0 where
  -- a record was judged so; the run goes on at the place behind it
  judged : Judging → ℕ → Stepped
  -- nothing is left
  done : List ℕ → Stepped
  -- so many bytes are left, and no whole record
  cut : ℕ → List ℕ → Stepped

-- of a program, the bytes of a run, a place, a line buffer and a tally or none
abbrev pub Runner : Type 0
Runner = List ℕ → List ℕ → ℕ → List ℕ → Option Tally → Stepped

-- ---- one step after another

-- what a step is handed
pub record RunState : Type 0 where
  pub at : ℕ
  pub lines : List ℕ
  pub counting : Option Tally

-- at the start of the bytes
abbrev pub start : List ℕ → Option Tally → RunState
start lines counting = record { at = 0; lines = lines; counting = counting }

-- after a step: behind a record, with what judging it left; after done or cut it stays there, with the line buffer that the step left
abbrev pub moved : RunState → Stepped → RunState
moved s (judged j next) = record { at = next; lines = j.lines; counting = j.tally }
moved s (done lines) = record { at = s.at; lines = lines; counting = s.counting }
moved s (cut left lines) = record { at = s.at; lines = lines; counting = s.counting }

module _ (runner : Runner) (program bytes : List ℕ) where
  abbrev pub step_on : RunState → Stepped
  step_on s = runner program bytes s.at s.lines s.counting

  -- before the k-th step, counted from 0, and what that step answers
  unfoldable pub state_of : RunState → ℕ → RunState
  state_of s zero = s
  state_of s (suc k) = moved (state_of s k) (step_on (state_of s k))

  abbrev pub answer_of : RunState → ℕ → Stepped
  answer_of s k = step_on (state_of s k)

-- ---- the run over the records that the bytes split into

-- the line buffer and the tally after records that were judged one after another
unfoldable pub through : Judge → List ℕ → List (List ℕ) → List ℕ → Option Tally → List ℕ × Option Tally
through judge program [] lines counting = (lines, counting)
through judge program (r ∷ rs) lines counting =
    let j = judge program r lines counting in
    through judge program rs j.lines j.tally

-- the answer that closes a run: done, or cut with the bytes left; the line buffer stays as it is
abbrev pub closed : List ℕ → List ℕ → Stepped
closed [] lines = done lines
closed (b ∷ rest) lines = cut (length (b ∷ rest)) lines

-- the k-th step judges the k-th record with what those before it left; after the last one every step gives the closing answer
pub record RunsOver (judge : Judge) (runner : Runner) : Type 0 where
  pub in_order : {program bytes rest : List ℕ} {records : List (List ℕ)} → Splits bytes records rest → (lines : List ℕ) (counting : Option Tally)
      → (k : ℕ) → k < length records
      → let x = through judge program (take k records) lines counting in
      answer_of runner program bytes (start lines counting) k ≡ judged (judge program (get_or records k []) x.0 x.1) (place_in records (suc k))
  pub closing : {program bytes rest : List ℕ} {records : List (List ℕ)} → Splits bytes records rest → (lines : List ℕ) (counting : Option Tally)
      → (k : ℕ) → length records ≤ k
      → answer_of runner program bytes (start lines counting) k ≡ closed rest (through judge program records lines counting).0

-- ---- what the code computes

-- the walk's step at the place, and its record judged
abbrev pub stepped_by : Judge → List ℕ → List ℕ → List ℕ → Option Tally → Step → Stepped
stepped_by judge program bytes lines counting (Record start len) =
    judged (judge program (record_of bytes (Record start len)) lines counting) (start + len)
stepped_by judge program bytes lines counting Done = done lines
stepped_by judge program bytes lines counting (Cut left) = cut left lines

abbrev pub runner_of : Judge → Runner
runner_of judge program bytes at lines counting = stepped_by judge program bytes lines counting (step_at bytes at)
