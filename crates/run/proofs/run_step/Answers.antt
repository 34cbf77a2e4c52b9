-- `run::run_step` meets its contract: each arm is a case of `stepped_by`. Assumes nothing.
use Prim.Native.Nat.{◌^◌}
use mathlib.Core.Path.{sym, ◌∙◌}
use borrow.Author.Rules.{rules}
use Rattle.walk.proofs.Steps.{place_below}
use Rattle.run.proofs.run_step.Goals as goal

pub overflow_add-result : goal.overflow_add-result
overflow_add-result c = let a = c.args in
    let step = sym c.step_at-step.ensures ∙ c.in-Record.is in
    record { fits = rw step at (place_below a.bytes.now a.at (2 ^ 64) (search rules) (search rules)) }

pub returns-in-Record : goal.returns-in-Record
returns-in-Record c = let step = sym c.step_at-step.ensures ∙ c.in-Record.is in
    rw (step, ← c.record_of-record.ensures, c.judge_with-counted.ensures)

pub returns-in-Done : goal.returns-in-Done
returns-in-Done c = rw (sym c.step_at-step.ensures ∙ c.in-Done.is)

pub returns-in-Cut : goal.returns-in-Cut
returns-in-Cut c = rw (sym c.step_at-step.ensures ∙ c.in-Cut.is)
