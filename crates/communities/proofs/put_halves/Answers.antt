-- `communities::put_halves` meets its contract: one writer after another. Assumes nothing.
use Prim.Native.Nat.{◌/◌, ◌%◌}
use mathlib.Core.List.{[], ◌∷◌}
use Rattle.octets.specs.Decimal.{decimal}
use Rattle.octets.proofs.Writes.{both}
use Rattle.communities.specs.Communities.{half_limit}
use Rattle.communities.specs.Text.{halves_text}
use Rattle.communities.proofs.put_halves.Goals as goal

pub returns : goal.returns
unfolding halves_text
returns c = let n = c.args.community in
    both (decimal (n / half_limit)) _ c.put_decimal-place.ensures
    (both (58 ∷ []) (decimal (n % half_limit)) c.put-place.ensures c.put_decimal.ensures)
