-- The names of message types and of attributes, with their codes.
use Rattle.std.specs.Prelude.{ℕ, List, [], ◌∷◌}
use Rattle.names.specs.Tables.{Row, row}

-- the names of message types
unfoldable pub type_names : List (Row ℕ)
type_names =
    row (79 ∷ 80 ∷ 69 ∷ 78 ∷ []) 1  -- OPEN
    ∷ row (85 ∷ 80 ∷ 68 ∷ 65 ∷ 84 ∷ 69 ∷ []) 2  -- UPDATE
    ∷ row (78 ∷ 79 ∷ 84 ∷ 73 ∷ 70 ∷ 73 ∷ 67 ∷ 65 ∷ 84 ∷ 73 ∷ 79 ∷ 78 ∷ []) 3  -- NOTIFICATION
    ∷ row (75 ∷ 69 ∷ 69 ∷ 80 ∷ 65 ∷ 76 ∷ 73 ∷ 86 ∷ 69 ∷ []) 4  -- KEEPALIVE
    ∷ row (82 ∷ 79 ∷ 85 ∷ 84 ∷ 69 ∷ 95 ∷ 82 ∷ 69 ∷ 70 ∷ 82 ∷ 69 ∷ 83 ∷ 72 ∷ []) 5  -- ROUTE_REFRESH
    ∷ []

-- the names of attributes
unfoldable pub attribute_names : List (Row ℕ)
attribute_names =
    row (79 ∷ 82 ∷ 73 ∷ 71 ∷ 73 ∷ 78 ∷ []) 1  -- ORIGIN
    ∷ row (65 ∷ 83 ∷ 95 ∷ 80 ∷ 65 ∷ 84 ∷ 72 ∷ []) 2  -- AS_PATH
    ∷ row (78 ∷ 69 ∷ 88 ∷ 84 ∷ 95 ∷ 72 ∷ 79 ∷ 80 ∷ []) 3  -- NEXT_HOP
    ∷ row (77 ∷ 85 ∷ 76 ∷ 84 ∷ 73 ∷ 95 ∷ 69 ∷ 88 ∷ 73 ∷ 84 ∷ 95 ∷ 68 ∷ 73 ∷ 83 ∷ 67 ∷ []) 4  -- MULTI_EXIT_DISC
    ∷ row (76 ∷ 79 ∷ 67 ∷ 65 ∷ 76 ∷ 95 ∷ 80 ∷ 82 ∷ 69 ∷ 70 ∷ []) 5  -- LOCAL_PREF
    ∷ row (65 ∷ 84 ∷ 79 ∷ 77 ∷ 73 ∷ 67 ∷ 95 ∷ 65 ∷ 71 ∷ 71 ∷ 82 ∷ 69 ∷ 71 ∷ 65 ∷ 84 ∷ 69 ∷ []) 6  -- ATOMIC_AGGREGATE
    ∷ row (65 ∷ 71 ∷ 71 ∷ 82 ∷ 69 ∷ 71 ∷ 65 ∷ 84 ∷ 79 ∷ 82 ∷ []) 7  -- AGGREGATOR
    ∷ row (67 ∷ 79 ∷ 77 ∷ 77 ∷ 85 ∷ 78 ∷ 73 ∷ 84 ∷ 89 ∷ []) 8  -- COMMUNITY
    ∷ row (77 ∷ 80 ∷ 95 ∷ 82 ∷ 69 ∷ 65 ∷ 67 ∷ 72 ∷ 95 ∷ 78 ∷ 76 ∷ 82 ∷ 73 ∷ []) 14  -- MP_REACH_NLRI
    ∷ row (77 ∷ 80 ∷ 95 ∷ 85 ∷ 78 ∷ 82 ∷ 69 ∷ 65 ∷ 67 ∷ 72 ∷ 95 ∷ 78 ∷ 76 ∷ 82 ∷ 73 ∷ []) 15  -- MP_UNREACH_NLRI
    ∷ row (65 ∷ 83 ∷ 52 ∷ 95 ∷ 80 ∷ 65 ∷ 84 ∷ 72 ∷ []) 17  -- AS4_PATH
    ∷ row (65 ∷ 83 ∷ 52 ∷ 95 ∷ 65 ∷ 71 ∷ 71 ∷ 82 ∷ 69 ∷ 71 ∷ 65 ∷ 84 ∷ 79 ∷ 82 ∷ []) 18  -- AS4_AGGREGATOR
    ∷ row (76 ∷ 65 ∷ 82 ∷ 71 ∷ 69 ∷ 95 ∷ 67 ∷ 79 ∷ 77 ∷ 77 ∷ 85 ∷ 78 ∷ 73 ∷ 84 ∷ 89 ∷ []) 32  -- LARGE_COMMUNITY
    ∷ []
