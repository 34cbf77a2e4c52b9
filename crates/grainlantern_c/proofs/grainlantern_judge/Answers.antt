-- `grainlantern_c::grainlantern_judge` meets its contract: what `judge` answered, as numbers. Assumes nothing.
use mathlib.Core.Path.{ap, ◌∙◌}
use Rattle.std.specs.Prelude.{None}
use Rattle.grainlantern_c.specs.Judgements.{judged_for_c}
use Rattle.grainlantern_c.proofs.grainlantern_judge.Goals as goal

pub returns : goal.returns
returns c = c.answer_judged.ensures _ None ∙ ap judged_for_c c.judge-judged.ensures
