-- `message::marked` meets its contract: the marker's bytes are each 0xFF. Assumes nothing.
use mathlib.Core.Path.{◌∙◌}
use Rattle.message.specs.Represents.{marker_size}
use Rattle.message.proofs.Ones.{ones_equal}
use Rattle.message.proofs.marked.Goals as goal

pub returns : goal.returns
returns c = c.starts_with.ensures.value ∙ ones_equal marker_size c.args.m.now
