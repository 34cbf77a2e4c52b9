-- What `grainlantern_compile` answers, sets and leaves.
use Rattle.std.specs.Prelude.{ℕ, List, [], ◌∷◌}
use Rattle.filter.specs.Functions.{Compiling}

-- what C is told of compiling: the number, the four values
-- (the program's bytes or the refusal's place, three zeros) and the program buffer afterwards
abbrev pub compiled_for_c : Compiling → ℕ × List ℕ × List ℕ
compiled_for_c c = (c.number, c.value ∷ 0 ∷ 0 ∷ 0 ∷ [], c.buffer)
