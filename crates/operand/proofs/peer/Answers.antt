-- `operand::peer` meets its contract, by the address at the front. Assumes nothing.
use mathlib.Core.Path.{sym, ◌∙◌}
use Rattle.program.specs.Layout.{head_fields}
use Rattle.program.specs.Compiling.{head_of, items_of}
use Rattle.operand.specs.Peers.{peer_operand}
use Rattle.operand.specs.Tests.{meaning}
use Rattle.operand.proofs.Said.{said_none, said_some}
use Rattle.operand.proofs.peer.Goals as goal

pub returns-in-Some : goal.returns-in-Some
unfolding meaning peer_operand
returns-in-Some c = rw (c.peer_behind.ensures, said_some c.address.ensures c.in-Some.is)

pub returns-in_err-value : goal.returns-in_err-value
unfolding meaning peer_operand
returns-in_err-value c =
    rw (c.from_residual.ensures, said_none c.address.ensures c.in_default.is, sym c.as_numeral.ensures ∙ c.in_err-value.was)

pub returns : goal.returns
unfolding meaning peer_operand head_fields head_of items_of
returns c = rw (c.lone_head.ensures, said_none c.address.ensures c.in_default.is, sym c.as_numeral.ensures ∙ c.in_ok-value.was)
