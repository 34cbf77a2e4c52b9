-- What `run_step` answers, as a step of a run.
use Rattle.std.specs.Prelude.{ℕ, List, Some}
use Rattle.judge.specs.Functions.{judging_of}
use Rattle.run.specs.declared.Ran.{Ran}
use Rattle.run.specs.declared.Ran.TheVariants.{Judged, Done, Cut}
use Rattle.run.specs.Runs.{Stepped, judged, done, cut}

-- an answer, with the line buffer afterwards
abbrev pub stepped : Ran → List ℕ → Stepped
stepped (Judged j t next) lines = judged (judging_of j lines (Some t)) next
stepped Done lines = done lines
stepped (Cut left) lines = cut left lines
