-- `operand::one_listed` meets its contract: an item, or a community as a number. Assumes nothing.
use Rattle.operand.specs.Listed.{listed_read}
use Rattle.operand.proofs.Said.{said_none, said_some}
use Rattle.operand.proofs.one_listed.Goals as goal

pub returns-in-Items : goal.returns-in-Items
unfolding listed_read
returns-in-Items c = rw c.in-Items.is c.item.ensures

pub returns-in_err-value-in-Communities : goal.returns-in_err-value-in-Communities
unfolding listed_read
returns-in_err-value-in-Communities c =
    rw (c.from_residual.ensures, c.in-Communities.is, said_none c.community.ensures c.in_err-value-in-Communities.was)

pub returns-in_ok-value-in-Communities : goal.returns-in_ok-value-in-Communities
unfolding listed_read
returns-in_ok-value-in-Communities c = rw (c.in-Communities.is, said_some c.community.ensures c.in_ok-value-in-Communities.was)
