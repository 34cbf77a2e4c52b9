-- `aspath::members_of` meets its contract: from the place where a path starts, all members are left. Assumes nothing.
use Rattle.aspath.proofs.Cursors.{whole_path}
use Rattle.aspath.proofs.members_of.Goals as goal

pub returns : goal.returns
returns c = whole_path _ _
