-- `network::put_network` meets its contract: one writer after another. Assumes nothing.
use mathlib.Core.List.{[], ◌∷◌}
use Rattle.octets.specs.Decimal.{decimal}
use Rattle.octets.proofs.Writes.{both}
use Rattle.network.specs.Text.{address_text, network_text}
use Rattle.network.proofs.put_network.Goals as goal

pub returns : goal.returns
unfolding network_text
returns c = let n = c.args.n in
    both (address_text n.address) _ c.put_address-p.ensures
    (both (47 ∷ []) (decimal n.len) c.put-p.ensures c.put_decimal.ensures)
