-- `grainlantern_c::grainlantern_compile` meets its contract: each arm by what `compile` answered. Assumes nothing.
use mathlib.Core.Path.{ap}
use Rattle.filter.specs.Functions.{compiling_of}
use Rattle.grainlantern_c.specs.Programs.{compiled_for_c}
use Rattle.grainlantern_c.proofs.grainlantern_compile.Goals as goal

pub returns-in-Ok : goal.returns-in-Ok
unfolding compiling_of
returns-in-Ok c = rw (c.answer.ensures.0, c.answer.ensures.1)
    (ap compiled_for_c (rw c.in-Ok.is at c.compile.ensures))

pub returns-in-Err : goal.returns-in-Err
unfolding compiling_of
returns-in-Err c = rw (c.answer-in-Err.ensures.0, c.from.ensures, c.answer-in-Err.ensures.1)
    (ap compiled_for_c (rw c.in-Err.is at c.compile.ensures))
