-- `judge::judge_valid` meets its contract: an outcome for each return. Assumes nothing.
use borrow.Author.Tests.{not-true, not-false}
use Rattle.std.proofs.lemmas.Result.{err_from_is_err_and}
use Rattle.judge.proofs.Answering.{comes_unread, comes_dropped, comes_short, comes_kept}
use Rattle.judge.proofs.judge_valid.Goals as goal

pub returns-in_default-clause-judged_as : goal.returns-in_default-clause-judged_as
returns-in_default-clause-judged_as c = let a = c.args in
    rw c.into.ensures (comes_unread a.program.now a.bytes.now a.lines.now _ c.decode-decoded.ensures _ c.unwrap_err.ensures).0

pub returns-then-not-ran-clause-judged_as : goal.returns-then-not-ran-clause-judged_as
returns-then-not-ran-clause-judged_as c = let a = c.args in
    let ran = c.execute-ran in
    (comes_dropped a.program.now a.bytes.now a.lines.now _ c.decode-decoded.ensures _ c.in-Ok.is _
    (rw (not-true ran.result.flag c.if-not-ran.true) at ran.ensures)).0

pub returns-in_err-size-clause-judged_as : goal.returns-in_err-size-clause-judged_as
returns-in_err-size-clause-judged_as c = let a = c.args in
    let ran = c.execute-ran in
    let left = err_from_is_err_and c.from_residual.result c.from_residual.ensures.1 in
    rw (left.1, left.2)
    (comes_short a.program.now a.bytes.now a.lines.now _ c.decode-decoded.ensures _ c.in-Ok.is _
    (rw (not-false ran.result.flag c.if-not-ran.false) at ran.ensures) _ (rw c.in_err-size.was at c.write.ensures)).0

pub returns-clause-judged_as : goal.returns-clause-judged_as
returns-clause-judged_as c = let a = c.args in
    let ran = c.execute-ran in
    (comes_kept a.program.now a.bytes.now a.lines.now _ c.decode-decoded.ensures _ c.in-Ok.is _
    (rw (not-false ran.result.flag c.if-not-ran.false) at ran.ensures) _ _ (rw c.in_ok-size.was at c.write.ensures)).0
