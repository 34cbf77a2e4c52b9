-- `grainlantern::judge_records` hands on lines of the run only, and ends. The invariant: some step of the run comes to this place, line buffer and
-- tally. The measure is the number of bytes left, which falls with each record. Assumes nothing.
use mathlib.Core.Path.{sym, subst}
use Rattle.std.specs.Prelude.{Some}
use Rattle.judge.specs.Functions.{our_judge}
use borrow.Author.Rules.{rules}
use Rattle.grainlantern.proofs.Onward.{Onward, onward, reached_start, reached_next, reached_lines}
use Rattle.grainlantern.proofs.judge_records.Goals as goal

pub loop-judged-init : goal.loop-judged-init
loop-judged-init c = (search rules, reached_start _ _ _)

pub write_lines-requires : goal.write_lines-requires
write_lines-requires c = let from = c.loop-judged.invariant.1 in
    let step = c.run_step-ran.ensures in
    record { lent = c.requires; of_run = reached_lines from _ _ step c.in-Judged.is c.kept_lines.ensures }

pub loop-judged-smaller : goal.loop-judged-smaller
loop-judged-smaller c = let a = c.args in
    let l = c.loop-judged in
    let left = onward our_judge a.program.now a.records.now l.at l.lines (Some l.tally) in
    rw c.in-Judged.is at (subst (Onward a.records.now l.at) (sym c.run_step-ran.ensures) left)

pub loop-judged-preserved : goal.loop-judged-preserved
loop-judged-preserved c = let from = c.loop-judged.invariant.1 in
    let step = c.run_step-ran.ensures in
    (search rules, reached_next from _ _ step c.in-Judged.is)
