-- `communities::well_formed` meets its contract. Assumes nothing.
use mathlib.Core.Path.{sym}
use Rattle.communities.proofs.Bodies.{whole_multiple}
use Rattle.communities.proofs.well_formed.Goals as goal

pub returns : goal.returns
returns c = sym (whole_multiple c.args.body.now)
