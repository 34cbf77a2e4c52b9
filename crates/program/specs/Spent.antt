-- What judging spends: the steps (the paper's term).
use Rattle.std.specs.Prelude.{ℕ, ◌+◌}
use Rattle.program.specs.declared.Spent.{Spent}

abbrev pub spending : ℕ → Spent
spending steps = record { steps = steps }

abbrev pub nothing : Spent
nothing = spending 0

abbrev pub one_step : Spent
one_step = spending 1

-- one and the other together
abbrev pub together : Spent → Spent → Spent
together a b = spending (a.steps + b.steps)
