-- `communities::named` meets its contract: the names in the order of the table. Assumes nothing.
use Rattle.communities.specs.Names.{community_names}
use Rattle.communities.proofs.named.Goals as goal

pub returns : goal.returns
unfolding community_names
returns c = c.value_in.ensures
