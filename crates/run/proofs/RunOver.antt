-- A run over bytes that split: the records in their order, and then the closing answer. Assumes nothing.
use Prim.Native.Nat.{ℕ, zero, suc, ◌+◌, ◌-◌, ◌≤◌, ◌<◌}
use native.Mathlib.Nat.{add-zero, add-suc}
use native.Mathlib.Omega.{arith}
use mathlib.Core.Path.{◌≡◌, refl}
use mathlib.Core.List.{List, [], ◌∷◌}
use Rattle.std.specs.Prelude.{Option}
use lib.ListN.{length, get_or, take}
use lib.Seq.{take-length}
use Rattle.walk.specs.Split.{Splits, place_in}
use Rattle.walk.specs.Steps.{closing_of}
use Rattle.walk.proofs.Steps.{step_closes}
use Rattle.walk.proofs.Walks.{place_end}
use Rattle.judge.specs.declared.Tally.{Tally}
use Rattle.judge.specs.Functions.{Judge}
use Rattle.run.specs.Runs.{judged, Runner, RunState, start, moved, state_of, answer_of, through, closed, RunsOver, stepped_by, runner_of}
use Rattle.run.proofs.Records.{state_in_lem, answer_in_lem}

-- where a step doesn't move a run, it stays
stays : (runner : Runner) (program bytes : List ℕ) (s : RunState) (k n : ℕ) → moved (state_of runner program bytes s k) (answer_of runner program bytes s k) ≡ state_of runner program bytes s k
    → state_of runner program bytes s (k + n) ≡ state_of runner program bytes s k
unfolding state_of
stays runner program bytes s k zero h = rw add-zero refl
stays runner program bytes s k (suc n) h = rw (add-suc, state_of, stays runner program bytes s k n h) h

-- the closing answer doesn't
closed_stays : (s : RunState) (rest : List ℕ) → moved s (closed rest s.lines) ≡ s
closed_stays s [] = refl
closed_stays s (b ∷ rest) = refl

module _ (judge : Judge) where
  -- and is that of the walk's closing step
  closing_step : (program bytes lines : List ℕ) (counting : Option Tally) (rest : List ℕ) → stepped_by judge program bytes lines counting (closing_of rest) ≡ closed rest lines
  closing_step program bytes lines counting [] = refl
  closing_step program bytes lines counting (b ∷ rest) = refl

  module _ (program : List ℕ) {bytes rest : List ℕ} {records : List (List ℕ)} (s : Splits bytes records rest) (lines : List ℕ) (counting : Option Tally) where
    in_order : (k : ℕ) → k < length records
        → let x = through judge program (take k records) lines counting in
        answer_of (runner_of judge) program bytes (start lines counting) k ≡ judged (judge program (get_or records k []) x.0 x.1) (place_in records (suc k))
    in_order k h = rw s.split (answer_in_lem judge program s.joined rest lines counting k h)

    -- what the records leave of the line buffer
    abbrev left : List ℕ
    left = (through judge program records lines counting).0

    -- the first answer past the records closes the run
    closes : answer_of (runner_of judge) program bytes (start lines counting) (length records) ≡ closed rest left
    closes =
        rw (s.split, state_in_lem judge program s.joined rest lines counting (length records) (omega arith), place_end s.joined (length records) (omega arith), step_closes s.front s.closing, take-length records)
        (closing_step program _ _ _ rest)

    -- the run stays there
    still : moved (state_of (runner_of judge) program bytes (start lines counting) (length records)) (closed rest left)
        ≡ state_of (runner_of judge) program bytes (start lines counting) (length records)
    still = rw (s.split, state_in_lem judge program s.joined rest lines counting (length records) (omega arith), take-length records) (closed_stays _ rest)

    closing : (k : ℕ) → length records ≤ k → answer_of (runner_of judge) program bytes (start lines counting) k ≡ closed rest left
    closing k h =
        let e : length records + (k - length records) ≡ k = omega arith in
        rw (← e, stays (runner_of judge) program bytes (start lines counting) (length records) (k - length records) (rw closes still)) closes

  -- every judge's runner runs so
  pub runs_over : RunsOver judge (runner_of judge)
  runs_over = record { in_order = λ {program = program}. in_order program; closing = λ {program = program}. closing program }
