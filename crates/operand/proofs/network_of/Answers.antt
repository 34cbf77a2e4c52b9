-- `operand::network_of` meets its contract: an address, `/` and a length. Assumes nothing.
use mathlib.Core.Path.{sym, ◌∙◌}
use Rattle.operand.specs.Addresses.{network_read}
use Rattle.operand.proofs.Said.{said_none, said_some, left_none, left_some}
use Rattle.operand.proofs.network_of.Goals as goal

pub returns-in_err-address : goal.returns-in_err-address
unfolding network_read
returns-in_err-address c = rw (c.from_residual.ensures, said_none c.address.ensures c.in_err-address.was)

pub returns-in_err-after : goal.returns-in_err-after
unfolding network_read
returns-in_err-after c =
    rw (c.from_residual-in_err-after.ensures, said_some c.address.ensures c.in_ok-address.was, left_none c.after.ensures c.in_err-after.was)

pub returns-in_err-len : goal.returns-in_err-len
unfolding network_read
returns-in_err-len c =
    rw (
      c.from_residual-in_err-len.ensures,
      said_some c.address.ensures c.in_ok-address.was,
      left_some c.after.ensures c.in_ok-after.was,
      sym c.numeral.ensures ∙ c.in_err-len.was,
    )

pub returns : goal.returns
unfolding network_read
returns c =
    rw (
      said_some c.address.ensures c.in_ok-address.was,
      left_some c.after.ensures c.in_ok-after.was,
      sym c.numeral.ensures ∙ c.in_ok-len.was,
      c.network_of.ensures,
    )
