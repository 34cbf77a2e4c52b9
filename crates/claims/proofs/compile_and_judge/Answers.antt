-- `claims::compile_and_judge` meets its contract: demand 3 at its arguments, from what compiling and judging promise. Assumes nothing.
use Rattle.claims.proofs.Answers.{promised_judged, promised_refused}
use Rattle.claims.proofs.compile_and_judge.Goals as goal

pub returns-in-Ok : goal.returns-in-Ok
returns-in-Ok c = let a = c.args in
    let e = c.compile.ensures in
    let j = c.judge_in-judged in
    promised_judged a.text.now a.program.now a.bytes.now a.lines.now a.counting _ _ e c.in-Ok.size c.in-Ok.is
    j.result.0 j.new.lines j.result.1
    (rw c.part.ensures at j.ensures)

pub returns-in-Err : goal.returns-in-Err
returns-in-Err c = let a = c.args in
    let e = c.compile.ensures in
    promised_refused a.text.now a.program.now a.bytes.now a.lines.now a.counting _ _ e c.in-Err.refused c.in-Err.is
