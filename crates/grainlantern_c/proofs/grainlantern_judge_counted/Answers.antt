-- `grainlantern_c::grainlantern_judge_counted` meets its contract: what judging answered, as numbers, with the lines and the tally after it.
-- Assumes nothing.
use mathlib.Core.Path.{ap, ◌∙◌}
use Rattle.std.specs.Prelude.{Some}
use Rattle.grainlantern_c.specs.Judgements.{judged_for_c}
use Rattle.grainlantern_c.proofs.grainlantern_judge_counted.Goals as goal

pub returns : goal.returns
returns c =
    let judged = c.judge_counted-judged in
    c.answer_judged.ensures judged.new.lines (Some judged.new.tally) ∙ ap judged_for_c judged.ensures
