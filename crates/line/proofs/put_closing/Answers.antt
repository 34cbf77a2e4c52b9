-- `line::put_closing` meets its contract: one writer after another. Assumes nothing.
use mathlib.Core.List.{[], ◌∷◌, ◌++◌}
use Rattle.octets.specs.Decimal.{decimal}
use Rattle.octets.proofs.Writes.{both}
use Rattle.network.specs.Text.{address_text}
use Rattle.line.specs.Line.{peer_text}
use Rattle.line.specs.Text.{space, bar, following}
use Rattle.line.proofs.put_closing.Goals as goal

pub returns : goal.returns
unfolding following
returns c = let a = c.args in
    rw (← c.width_digit.ensures)
    (both ((bar ∷ []) ++ peer_text a.address a.asn) _
    (both (bar ∷ []) _ c.put-place.ensures
    (both (address_text a.address) _ c.put_address-place.ensures
    (both (space ∷ []) (decimal a.asn) c.put-place-2.ensures c.put_decimal-place.ensures)))
    (both ((bar ∷ []) ++ decimal a.seconds) _
    (both (bar ∷ []) (decimal a.seconds) c.put-place-3.ensures c.put_decimal-place-2.ensures)
    (both (bar ∷ []) _ c.put-place-4.ensures c.put.ensures)))
