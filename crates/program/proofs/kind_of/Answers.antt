-- `program::kind_of` meets its contract: a number that it doesn't list stands for no kind. Assumes nothing.
use native.Mathlib.Omega.{arith}
use mathlib.Core.Path.{sym}
use Rattle.program.proofs.KindLaws.{none_said}
use Rattle.program.proofs.kind_of.Goals as goal

pub returns-in_default : goal.returns-in_default
returns-in_default c = sym (none_said _ (λ h. omega arith))
