-- `vectors::third_step` meets its contract: the reader's third call answers the third step of the walk. Assumes nothing.
use mathlib.Core.Path.{ap, ◌∙◌}
use Rattle.walk.specs.Readers.{step_on, moved, reader_of}
use Rattle.walk.proofs.Readers.{call_step}
use Rattle.vectors.proofs.third_step.Goals as goal

pub returns : goal.returns
unfolding reader_of
returns c =
    let read = c.next-2.ensures.1 ∙ ap moved (c.next.ensures.1 ∙ ap moved c.read_run-reader.ensures) in
    c.next-3.ensures.0 ∙ ap step_on read ∙ call_step c.args.bytes 2
