-- A community as text.
use Rattle.std.specs.Prelude.{ℕ, ◌/◌, ◌%◌, List, [], ◌∷◌, ◌++◌}
use Rattle.octets.specs.Choice.{otherwise}
use Rattle.octets.specs.Decimal.{decimal}
use Rattle.names.specs.Tables.{name_of}
use Rattle.communities.specs.Communities.{half_limit}
use Rattle.communities.specs.Names.{community_names}

-- `N:M`, the first half and the second
unfoldable pub halves_text : ℕ → List ℕ
halves_text c = decimal (c / half_limit) ++ ((58 ∷ []) ++ decimal (c % half_limit))

-- its name where it has one, else its halves
unfoldable pub community_text : ℕ → List ℕ
community_text c = otherwise (name_of community_names c) (halves_text c)
