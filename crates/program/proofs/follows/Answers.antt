-- `program::follows` meets its contract, by its definition. Assumes nothing.
use Rattle.program.specs.Checks.{follows_in}
use Rattle.program.proofs.follows.Goals as goal

pub returns : goal.returns
unfolding follows_in
returns c = rw (← c.following.ensures, ← c.last_item.ensures) c.items_stand.ensures
