-- `filter::parse` meets its contract: an expression up to the end of the text. Assumes nothing.
use native.Mathlib.Omega.{arith}
use Rattle.filter.proofs.Compiles.{whole_ready, whole_stops, whole_rest, whole_read}
use Rattle.filter.proofs.Parts.{handed_on}
use Rattle.filter.proofs.parse.Goals as goal

pub expression-requires : goal.expression-requires
expression-requires c = (omega arith, whole_ready c.requires.0 c.requires.1 c.next.ensures)

pub returns-in_err-part : goal.returns-in_err-part
returns-in_err-part c =
    rw (handed_on c.from_residual.ensures.1) (whole_stops c.requires.0 c.requires.1 c.next.ensures c.expression.ensures c.in_err-part.was)

pub returns-in_default : goal.returns-in_default
returns-in_default c = rw c.at.ensures (whole_rest c.requires.0 c.requires.1 c.next.ensures c.expression.ensures c.in_ok-part.was c.in_default.not-End)

pub returns : goal.returns
returns c = whole_read c.requires.0 c.requires.1 c.next.ensures c.expression.ensures c.in_ok-part.was c.in-End.is
