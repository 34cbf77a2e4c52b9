-- `operand::numeral` meets its contract: a number with nothing behind it. Assumes nothing.
use mathlib.Core.Path.{ap, ◌∙◌}
use Rattle.operand.specs.Fronts.{wholly}
use Rattle.operand.specs.Decimals.{numeral}
use Rattle.operand.proofs.numeral.Goals as goal

pub returns : goal.returns
unfolding numeral
returns c = c.wholly.ensures ∙ ap wholly c.number.ensures
