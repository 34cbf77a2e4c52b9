-- `names::type_named` meets its contract: the names in the order of the table. Assumes nothing.
use Rattle.names.specs.Names.{type_names}
use Rattle.names.proofs.type_named.Goals as goal

pub returns : goal.returns
unfolding type_names
returns c = c.value_in.ensures
