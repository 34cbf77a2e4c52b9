-- `names::attribute_named` meets its contract: the names in the order of the table. Assumes nothing.
use Rattle.names.specs.Names.{attribute_names}
use Rattle.names.proofs.attribute_named.Goals as goal

pub returns : goal.returns
unfolding attribute_names
returns c = c.value_in.ensures
