-- `grainlantern::judge_records` hands on lines of the run only, and ends. The invariant: some step of the run comes to this place, line buffer and
-- tally. The measure is the number of bytes left, which falls with each record. Assumes nothing.
use Prim.Native.Nat.{◌-◌}
use mathlib.Core.Path.{◌≡◌}
use lib.ListN.{length}
use Rattle.grainlantern.proofs.Onward.{Reached}
use Rattle.grainlantern.proofs.judge_records.Given as goal

abbrev pub invariant-loop-judged : goal.invariant-loop-judged
invariant-loop-judged l = (length l.lines ≡ length l.initial.lines) × Reached l.program l.records l.initial.lines l.at l.lines l.tally

abbrev pub decreases-loop-judged : goal.decreases-loop-judged
decreases-loop-judged l = length l.records - l.at
