-- `program::starts` meets its contract: the first byte is a number of one byte. Assumes nothing.
use mathlib.Core.Path.{ap, ◌∙◌}
use Rattle.octets.proofs.Numbers.{number_one}
use Rattle.program.specs.Kinds.{class_is}
use Rattle.program.specs.Checks.{is_test_class}
use Rattle.program.proofs.KindLaws.{test_test}
use Rattle.program.proofs.starts.Goals as goal

pub returns : goal.returns
returns c = c.eq.ensures ∙ test_test _ ∙ ap is_test_class (c.class_of.ensures ∙ ap class_is (c.number.ensures ∙ number_one _ 0))
