-- `grainlantern_c::grainlantern_step` meets its contract: each arm by what `step_at` answered. Assumes nothing.
use mathlib.Core.Path.{sym, ap, ◌∙◌}
use Rattle.grainlantern_c.specs.Steps.{step_for_c}
use Rattle.grainlantern_c.proofs.grainlantern_step.Goals as goal

pub returns-in-Record : goal.returns-in-Record
returns-in-Record c = let e = sym c.in-Record.is ∙ c.step_at-step.ensures in
    rw (c.answer.ensures.0, c.answer.ensures.1) (ap step_for_c e)

pub returns-in-Done : goal.returns-in-Done
returns-in-Done c = let e = sym c.in-Done.is ∙ c.step_at-step.ensures in
    rw (c.answer-in-Done.ensures.0, c.answer-in-Done.ensures.1) (ap step_for_c e)

pub returns-in-Cut : goal.returns-in-Cut
returns-in-Cut c = let e = sym c.in-Cut.is ∙ c.step_at-step.ensures in
    rw (c.answer-in-Cut.ensures.0, c.answer-in-Cut.ensures.1) (ap step_for_c e)
