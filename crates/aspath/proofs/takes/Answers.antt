-- `aspath::takes` meets its contract: an item each. Assumes nothing.
use mathlib.Core.Path.{refl}
use Rattle.aspath.specs.Members.{holds}
use Rattle.aspath.proofs.takes.Goals as goal

pub returns-in-Number : goal.returns-in-Number
unfolding holds
returns-in-Number c = rw c.in-Number.is refl

pub returns-in-Other : goal.returns-in-Other
unfolding holds
returns-in-Other c = rw c.in-Other.is refl
