-- The printed lines of a message.
use Rattle.std.specs.Prelude.{ℕ, List, [], ◌∷◌, ◌++◌, eqb}
use Rattle.octets.specs.Choice.{pick}
use Rattle.octets.specs.Decimal.{decimal}
use Rattle.network.specs.Networks.{Network}
use Rattle.network.specs.Text.{address_text}
use Rattle.aspath.specs.declared.Width.{Width}
use Rattle.aspath.specs.declared.Width.TheVariants.{Two, Four}
use Rattle.attributes.specs.Attribute.{Aggregator, Attribute, first_of, ask_origin, ask_path, ask_next_hop, ask_atomic, ask_aggregator, ask_communities}
use Rattle.message.specs.Message.{Message}
use Rattle.line.specs.Text.{space, bar, separated, prefixes_text, path_text, communities_text, optional}

-- `i`, `e`, `?`
unfoldable pub origin_text : ℕ → List ℕ
origin_text n = pick (eqb n 0) (105 ∷ []) (pick (eqb n 1) (101 ∷ []) (63 ∷ []))

-- `AT`
abbrev pub atomic_text : Unit {0} → List ℕ
atomic_text present = 65 ∷ 84 ∷ []

-- an aggregator: AS number, space, address (request 1)
abbrev pub aggregator_text : Aggregator → List ℕ
aggregator_text a = decimal a.number ++ ((space ∷ []) ++ address_text a.address)

-- the last field is 1 where AS numbers have four bytes
abbrev pub width_text : Width → List ℕ
width_text Two = 48 ∷ []
width_text Four = 49 ∷ []

-- the peer: address, space, AS number
abbrev pub peer_text : ℕ → ℕ → List ℕ
peer_text address asn = address_text address ++ ((space ∷ []) ++ decimal asn)

-- the fields of a list of attributes

abbrev pub path_field : List Attribute → List ℕ
path_field attributes = optional path_text (first_of ask_path attributes)

abbrev pub next_hop_field : List Attribute → List ℕ
next_hop_field attributes = optional address_text (first_of ask_next_hop attributes)

abbrev pub origin_field : List Attribute → List ℕ
origin_field attributes = optional origin_text (first_of ask_origin attributes)

abbrev pub atomic_field : List Attribute → List ℕ
atomic_field attributes = optional atomic_text (first_of ask_atomic attributes)

abbrev pub aggregator_field : List Attribute → List ℕ
aggregator_field attributes = optional aggregator_text (first_of ask_aggregator attributes)

abbrev pub communities_field : List Attribute → List ℕ
communities_field attributes = optional communities_text (first_of ask_communities attributes)

-- AS_PATH, NEXT_HOP, ORIGIN, ATOMIC_AGGREGATE, AGGREGATOR, COMMUNITIES
abbrev pub attribute_fields : List Attribute → List (List ℕ)
attribute_fields attributes =
    path_field attributes
    ∷ next_hop_field attributes
    ∷ origin_field attributes
    ∷ atomic_field attributes
    ∷ aggregator_field attributes
    ∷ communities_field attributes
    ∷ []

-- the fields that end a line: PEER, TIMESTAMP, ASN32BIT
abbrev pub closing_fields : ℕ → ℕ → ℕ → Width → List (List ℕ)
closing_fields address asn seconds width = peer_text address asn ∷ decimal seconds ∷ width_text width ∷ []

-- the eleven fields of a line: its type, its prefixes, those of the attributes, and those that end it
abbrev line_fields : ℕ → List Network → List Attribute → List (List ℕ) → List (List ℕ)
line_fields type prefixes attributes closing = (type ∷ []) ∷ prefixes_text prefixes ∷ (attribute_fields attributes ++ closing)

-- a line: its fields with bars between, and LF; none where there are no prefixes
unfoldable pub line_of : ℕ → List Network → List Attribute → List (List ℕ) → List ℕ
line_of type [] attributes closing = []
line_of type (n ∷ more) attributes closing = separated bar (line_fields type (n ∷ more) attributes closing) ++ (10 ∷ [])

abbrev closing_of : Message → List (List ℕ)
closing_of m = closing_fields m.peer_address m.peer_as m.seconds m.width

-- the `+` line if anything is announced, then the `-` line, its attribute fields empty, if anything is withdrawn
unfoldable pub lines_of : Message → List ℕ
lines_of m = line_of 43 m.announced m.attributes (closing_of m) ++ line_of 45 m.withdrawn [] (closing_of m)
