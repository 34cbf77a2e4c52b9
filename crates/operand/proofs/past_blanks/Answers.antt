-- `operand::past_blanks` meets its contract: where the blanks end. Assumes nothing.
use mathlib.Core.Path.{◌∙◌}
use Rattle.operand.proofs.Blanks.{blanks_left}
use Rattle.operand.proofs.past_blanks.Goals as goal

pub returns : goal.returns
returns c = c.rest.ensures ∙ blanks_left c.args.s.now 0 c.blanks_end.ensures
