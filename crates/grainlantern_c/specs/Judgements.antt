-- What `grainlantern_judge` and `grainlantern_judge_counted` answer, set and leave.
use Rattle.std.specs.Prelude.{ℕ, List, [], ◌∷◌, Option}
use Rattle.judge.specs.declared.Tally.{Tally}
use Rattle.judge.specs.Functions.{Judging}

-- what C is told of judging: the number, the four values (steps, the bytes of the lines, two zeros), the line buffer and the tally or none afterwards
abbrev pub judged_for_c : Judging → ℕ × List ℕ × List ℕ × Option Tally
judged_for_c j = (j.number, j.spent.steps ∷ j.written ∷ 0 ∷ 0 ∷ [], j.lines, j.tally)
