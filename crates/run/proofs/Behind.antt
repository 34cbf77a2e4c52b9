-- A step of a run behind a front: it is the step in what stands behind it. Assumes nothing.
use Prim.Native.Nat.{ℕ, ◌+◌}
use native.Mathlib.Nat.{add_assoc}
use mathlib.Core.Path.{◌≡◌, refl}
use mathlib.Core.List.{List, ◌++◌}
use Rattle.std.specs.Prelude.{Option}
use lib.ListN.{length}
use Rattle.walk.specs.declared.Step.{Step}
use Rattle.walk.specs.declared.Step.TheVariants.{Record, Done, Cut}
use Rattle.walk.specs.Steps.{step_at}
use Rattle.walk.proofs.Behind.{further, record_behind, step_behind}
use Rattle.judge.specs.declared.Tally.{Tally}
use Rattle.judge.specs.Functions.{Judge}
use Rattle.run.specs.Runs.{Stepped, judged, done, cut, stepped_by, runner_of}

-- an answer, so many bytes further on
abbrev pub onward : ℕ → Stepped → Stepped
onward n (judged j next) = judged j (n + next)
onward n (done lines) = done lines
onward n (cut left lines) = cut left lines

pub runs_behind : (judge : Judge) (program front s : List ℕ) (at : ℕ) (lines : List ℕ) (counting : Option Tally)
    → runner_of judge program (front ++ s) (length front + at) lines counting ≡ onward (length front) (runner_of judge program s at lines counting)
runs_behind judge program front s at lines counting = rw (step_behind front s at) (go (step_at s at))
  where
    go : (t : Step) → stepped_by judge program (front ++ s) lines counting (further (length front) t) ≡ onward (length front) (stepped_by judge program s lines counting t)
    go (Record start len) = rw (record_behind front s (Record start len), add_assoc)
    go Done = refl
    go (Cut left) = refl
