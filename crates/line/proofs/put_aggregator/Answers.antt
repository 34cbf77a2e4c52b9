-- `line::put_aggregator` meets its contract: one writer after another. Assumes nothing.
use mathlib.Core.List.{[], ◌∷◌}
use Rattle.octets.proofs.Writes.{both}
use Rattle.line.specs.Text.{space}
use Rattle.line.proofs.Fields.{aggregator_read}
use Rattle.line.proofs.Numbers.{number_read}
use Rattle.line.proofs.put_aggregator.Goals as goal

pub returns : goal.returns
returns c =
    let w = c.width_bytes-w.ensures in
    let text = aggregator_read c.width_bytes-w.result c.args.body.now (number_read _ 0 w.1 c.number.ensures) c.number-2.ensures in
    rw (← w.0, text) (both _ _ c.put_decimal-place.ensures (both (space ∷ []) _ c.put-place.ensures c.put_address.ensures))
