-- `network::put_address` meets its contract: one writer after another. Assumes nothing.
use Prim.Native.Nat.{◌/◌, ◌%◌}
use mathlib.Core.List.{[], ◌∷◌}
use Rattle.octets.specs.Decimal.{decimal}
use Rattle.octets.proofs.Writes.{both}
use Rattle.network.specs.Text.{address_text}
use Rattle.network.proofs.put_address.Goals as goal

pub returns : goal.returns
unfolding address_text
returns c = let a = c.args.address in
    both (decimal (a / 16777216)) _ c.put_decimal-p.ensures
    (both (46 ∷ []) _ c.put-p.ensures
    (both (decimal (a / 65536 % 256)) _ c.put_decimal-p-2.ensures
    (both (46 ∷ []) _ c.put-p-2.ensures
    (both (decimal (a / 256 % 256)) _ c.put_decimal-p-3.ensures
    (both (46 ∷ []) (decimal (a % 256)) c.put-p-3.ensures c.put_decimal.ensures)))))
