-- `operand::as_numeral` meets its contract: an AS number with nothing behind it. Assumes nothing.
use mathlib.Core.Path.{ap, ◌∙◌}
use Rattle.operand.specs.Fronts.{wholly}
use Rattle.operand.specs.AsNumbers.{as_numeral}
use Rattle.operand.proofs.as_numeral.Goals as goal

pub returns : goal.returns
unfolding as_numeral
returns c = c.wholly.ensures ∙ ap wholly c.as_number.ensures
