-- What `grainlantern_step` answers and sets.
use Rattle.std.specs.Prelude.{ℕ, List, [], ◌∷◌}
use Rattle.walk.specs.declared.Step.{Step}
use Rattle.walk.specs.declared.Step.TheVariants.{Record, Done, Cut}

-- what C is told of a step: 0 a record and its bytes, 1 done, 2 cut and the bytes left; and zeros
abbrev pub step_for_c : Step → ℕ × List ℕ
step_for_c (Record start len) = (0, len ∷ 0 ∷ 0 ∷ 0 ∷ [])
step_for_c Done = (1, 0 ∷ 0 ∷ 0 ∷ 0 ∷ [])
step_for_c (Cut left) = (2, left ∷ 0 ∷ 0 ∷ 0 ∷ [])
