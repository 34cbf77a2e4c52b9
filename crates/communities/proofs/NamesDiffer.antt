-- The names of communities differ, by one computed test. Assumes nothing.
use mathlib.Core.Path.{◌≡◌, refl}
use mathlib.Core.Bool.{true}
use Rattle.octets.specs.Equal.{same}
use Rattle.names.specs.Tables.{found}
use Rattle.names.proofs.Finding.{distinct}
use Rattle.communities.specs.Names.{community_names}

pub communities_differ : distinct community_names ≡ true
unfolding community_names distinct found same
communities_differ = refl
