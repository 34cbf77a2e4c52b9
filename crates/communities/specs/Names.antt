-- The communities that have a name (RFC 1997).
use Rattle.std.specs.Prelude.{ℕ, List, [], ◌∷◌}
use Rattle.names.specs.Tables.{Row, row}
use Rattle.communities.specs.Communities.{community}

unfoldable pub community_names : List (Row ℕ)
community_names =
    row (78 ∷ 79 ∷ 95 ∷ 69 ∷ 88 ∷ 80 ∷ 79 ∷ 82 ∷ 84 ∷ []) (community 65535 65281)  -- NO_EXPORT
    ∷ row (78 ∷ 79 ∷ 95 ∷ 65 ∷ 68 ∷ 86 ∷ 69 ∷ 82 ∷ 84 ∷ 73 ∷ 83 ∷ 69 ∷ []) (community 65535 65282)  -- NO_ADVERTISE
    ∷ row (78 ∷ 79 ∷ 95 ∷ 69 ∷ 88 ∷ 80 ∷ 79 ∷ 82 ∷ 84 ∷ 95 ∷ 83 ∷ 85 ∷ 66 ∷ 67 ∷ 79 ∷ 78 ∷ 70 ∷ 69 ∷ 68 ∷ [])
    (community 65535 65283)  -- NO_EXPORT_SUBCONFED
    ∷ []
