-- The words of the language.
use Rattle.std.specs.Prelude.{ℕ, List, [], ◌∷◌, Option}
use Rattle.network.specs.declared.Relation.TheVariants.{Exact, Supernet, Subnet, Related}
use Rattle.program.specs.Readings.{Test, has_loop, has_bogon, Operator, and, or}
use Rattle.operand.specs.declared.Name.{Name}
use Rattle.operand.specs.declared.Name.TheVariants.{MessageType as type_name, Attribute as attribute_name, Path as path_name}
use Rattle.operand.specs.declared.Name.TheVariants.{Peer as peer_name, Time as time_name, Network as network_name, Communities as communities_name}
use Rattle.names.specs.Tables.{Row, row, In, found}

-- what a word says where a factor or a joint may stand
pub data Role : Type 0 where
  joins : Operator → Role
  flag : Test → Role
  name : Name → Role

-- words are exact: every word of the language stands here
unfoldable pub vocabulary : List (Row Role)
vocabulary =
    row (45 ∷ 97 ∷ 110 ∷ 100 ∷ []) (joins and)  -- -and
    ∷ row (45 ∷ 111 ∷ 114 ∷ []) (joins or)  -- -or
    ∷ row (45 ∷ 108 ∷ 111 ∷ 111 ∷ 112 ∷ 115 ∷ []) (flag has_loop)  -- -loops
    ∷ row (45 ∷ 98 ∷ 111 ∷ 103 ∷ 111 ∷ 110 ∷ 45 ∷ 97 ∷ 115 ∷ 110 ∷ []) (flag has_bogon)  -- -bogon-asn
    ∷ row (45 ∷ 116 ∷ 121 ∷ 112 ∷ 101 ∷ []) (name type_name)  -- -type
    ∷ row (45 ∷ 97 ∷ 116 ∷ 116 ∷ 114 ∷ []) (name attribute_name)  -- -attr
    ∷ row (45 ∷ 97 ∷ 115 ∷ 112 ∷ 97 ∷ 116 ∷ 104 ∷ []) (name path_name)  -- -aspath
    ∷ row (45 ∷ 112 ∷ 101 ∷ 101 ∷ 114 ∷ []) (name peer_name)  -- -peer
    ∷ row (45 ∷ 101 ∷ 120 ∷ 97 ∷ 99 ∷ 116 ∷ []) (name (network_name Exact))  -- -exact
    ∷ row (45 ∷ 115 ∷ 117 ∷ 112 ∷ 101 ∷ 114 ∷ 110 ∷ 101 ∷ 116 ∷ []) (name (network_name Supernet))  -- -supernet
    ∷ row (45 ∷ 115 ∷ 117 ∷ 98 ∷ 110 ∷ 101 ∷ 116 ∷ []) (name (network_name Subnet))  -- -subnet
    ∷ row (45 ∷ 114 ∷ 101 ∷ 108 ∷ 97 ∷ 116 ∷ 101 ∷ 100 ∷ []) (name (network_name Related))  -- -related
    ∷ row (45 ∷ 116 ∷ 105 ∷ 109 ∷ 101 ∷ 115 ∷ 116 ∷ 97 ∷ 109 ∷ 112 ∷ []) (name time_name)  -- -timestamp
    ∷ row (45 ∷ 99 ∷ 111 ∷ 109 ∷ 109 ∷ 117 ∷ 110 ∷ 105 ∷ 116 ∷ 105 ∷ 101 ∷ 115 ∷ []) (name communities_name)  -- -communities (request 1)
    ∷ []

-- the word stands in the vocabulary, with this role
abbrev pub Says : List ℕ → Role → Type 0
Says w r = In vocabulary w r

-- ---- what the code computes

-- what a word says
unfoldable pub role_of : List ℕ → Option Role
role_of w = found vocabulary w
