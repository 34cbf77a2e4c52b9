-- A run goes on: behind a judged record fewer bytes are left, and what it is then handed is the next state of the run. Assumes nothing.
use Prim.Native.Nat.{ℕ, suc, ◌+◌, ◌-◌, ◌≤◌, ◌<◌}
use native.Mathlib.Nat.{lt_of_not-le}
use native.Mathlib.Decide.{dec_le}
use native.Mathlib.Omega.{arith}
use mathlib.Core.Path.{◌≡◌, refl, ap}
use mathlib.Core.List.{List}
use Rattle.std.specs.Prelude.{Option, Some, Result}
use lib.ListN.{length}
use Rattle.header.specs.Header.{header_size}
use Rattle.octets.specs.Numbers.{number_at}
use Rattle.walk.proofs.Steps.{step_past, step_short, step_overrun, step_whole}
use Rattle.judge.specs.declared.Refusal.{Refusal}
use Rattle.judge.specs.declared.Verdict.{Verdict}
use Rattle.judge.specs.declared.Tally.{Tally}
use Rattle.judge.specs.Tallies.{tally}
use Rattle.judge.specs.Functions.{Judge, judging_of, our_judge}
use Rattle.run.specs.Runs.{Stepped, judged, done, cut, moved, state_of, answer_of, runner_of}
use Rattle.run.specs.declared.Ran.{Ran}
use Rattle.run.specs.declared.Ran.TheVariants.{Judged as ran_judged}
use Rattle.run.specs.Stepping.{stepped}
use Rattle.grainlantern.specs.Output.{kept_lines, begins, OfRun}

-- what a step's answer at a place leaves
abbrev pub Onward : List ℕ → ℕ → Stepped → Type 0
Onward bytes at (judged j next) = length bytes - next < length bytes - at
Onward bytes at (done lines) = Unit {0}
Onward bytes at (cut left lines) = Unit {0}

pub onward : (judge : Judge) (program bytes : List ℕ) (at : ℕ) (lines : List ℕ) (counting : Option Tally)
    → Onward bytes at (runner_of judge program bytes at lines counting)
onward judge program bytes at lines counting =
    go (dec_le (length bytes) at) (dec_le header_size (length bytes - at)) (dec_le (header_size + number_at bytes (at + 8) 4) (length bytes - at))
  where
    go : Dec (length bytes ≤ at) → Dec (header_size ≤ length bytes - at) → Dec (header_size + number_at bytes (at + 8) 4 ≤ length bytes - at)
        → Onward bytes at (runner_of judge program bytes at lines counting)
    go (yes h) d e = rw (step_past bytes at h) tt
    go (no h) (no k) e = rw (step_short bytes at (lt_of_not-le h) (lt_of_not-le k)) tt
    go (no h) (yes k) (no l) = rw (step_overrun bytes at k (lt_of_not-le l)) tt
    go (no h) (yes k) (yes l) = rw (step_whole bytes at l) (omega arith)

-- ---- the states of a run

-- before some step of the run from its start, the place, the line buffer and the tally are these
pub record Reached (program records buffer : List ℕ) (at : ℕ) (lines : List ℕ) (t : Tally) : Type 0 where
  pub step : ℕ
  pub state : state_of (runner_of our_judge) program records (begins buffer) step ≡ record { at = at; lines = lines; counting = Some t }

pub reached_start : (program records buffer : List ℕ) → Reached program records buffer 0 buffer (tally 0 0 0 0)
unfolding state_of
reached_start program records buffer = record { step = 0; state = refl }

-- from there a step judges a record
module _ {program records buffer : List ℕ} {at : ℕ} {lines : List ℕ} {t : Tally} (s : Reached program records buffer at lines t)
    (ran : Ran) (new : List ℕ) (e : stepped ran new ≡ runner_of our_judge program records at lines (Some t))
    {said : Result Verdict Refusal} {after : Tally} {next : ℕ} (g : ran ≡ ran_judged said after next) where
  answers : answer_of (runner_of our_judge) program records (begins buffer) s.step ≡ judged (judging_of said new (Some after)) next
  answers = rw (s.state, ← e, g)

  pub reached_lines : {bytes : List ℕ} → bytes ≡ kept_lines said new → OfRun program records bytes
  reached_lines h = record {
    buffer = buffer;
    step = s.step;
    said = said;
    lines = new;
    counts = after;
    next = next;
    answers = answers;
    handed = h;
  }

  pub reached_next : Reached program records buffer next new after
  unfolding state_of
  reached_next = record { step = suc s.step; state = ap (moved (state_of (runner_of our_judge) program records (begins buffer) s.step)) answers }
