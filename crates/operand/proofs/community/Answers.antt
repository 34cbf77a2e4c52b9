-- `operand::community` meets its contract: the name there, else the halves. Assumes nothing.
use Rattle.operand.specs.Communities.{community_read}
use Rattle.operand.proofs.Said.{said_none, said_some}
use Rattle.operand.proofs.community.Goals as goal

pub returns-in-Some : goal.returns-in-Some
unfolding community_read
returns-in-Some c = rw (said_some c.named_community.ensures c.in-Some.is)

pub returns : goal.returns
unfolding community_read
returns c = rw (said_none c.named_community.ensures c.in_default.is) c.halves.ensures
