-- `line::put_origin` meets its contract, by the byte that is read. Assumes nothing.
use Rattle.line.proofs.Numbers.{octet_here}
use Rattle.line.proofs.put_origin.Goals as goal

pub returns : goal.returns
returns c = rw (c.origin_letter.ensures, octet_here _ 0 c.number.ensures) at c.put.ensures
