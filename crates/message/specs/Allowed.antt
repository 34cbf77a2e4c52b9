-- Which messages have a record: those whose numbers fit their fields, and whose networks and attributes fit a BGP message.
use Rattle.std.specs.Prelude.{ℕ, ◌+◌, ◌^◌, ◌≤◌, ◌<◌, ◌≡◌, [], map}
use Rattle.octets.specs.Lists.{Every, total}
use Rattle.network.specs.Networks.{address_bits, Network, masked}
use Rattle.network.specs.Wire.{bytes_for}
use Rattle.aspath.specs.Wire.{width_bytes}
use Rattle.attributes.specs.Attribute.{code_of}
use Rattle.attributes.specs.Codes.{Twice}
use Rattle.attributes.specs.Encodable.{EncodableAttribute, attribute_cost}
use Rattle.message.specs.Message.{Message, update}
use Rattle.message.specs.Represents.{message_limit, frame_header}

-- a network that has a prefix: the bits past its length are cleared
pub record AllowedNetwork (n : Network) : Type 0 where
  pub short : n.len ≤ address_bits
  pub below : n.address < 2 ^ address_bits
  pub clear : n ≡ masked address_bits n.address n.len

-- the bytes of its prefix
abbrev pub network_cost : Network → ℕ
network_cost n = 1 + bytes_for n.len

-- the bytes of the body of an UPDATE, its attributes at their shortest
abbrev update_cost : Message → ℕ
update_cost m =
    4 + total network_cost m.withdrawn + total (attribute_cost (width_bytes m.width)) m.attributes
    + total network_cost m.announced

-- an UPDATE that has a body: no code comes twice, and all of it fits
pub record AllowedUpdate (m : Message) : Type 0 where
  pub withdrawn : Every AllowedNetwork m.withdrawn
  pub attributes : Every (EncodableAttribute (width_bytes m.width)) m.attributes
  pub once : Twice (map code_of m.attributes) → ⊥
  pub announced : Every AllowedNetwork m.announced
  pub limited : frame_header + update_cost m ≤ message_limit

-- any other message has none of these
pub record AllowedOther (m : Message) : Type 0 where
  pub no_withdrawn : m.withdrawn ≡ []
  pub no_attributes : m.attributes ≡ []
  pub no_announced : m.announced ≡ []

-- one or the other, by the message's type
pub data AllowedBody (m : Message) : Type 0 where
  for_update : m.type ≡ update → AllowedUpdate m → AllowedBody m
  for_other : (m.type ≡ update → ⊥) → AllowedOther m → AllowedBody m

-- a message that has a record: its numbers fit their fields, and its body fits
pub record Allowed (m : Message) : Type 0 where
  pub seconds : m.seconds < 2 ^ 32
  pub peer_as : m.peer_as < 256 ^ width_bytes m.width
  pub peer_address : m.peer_address < 2 ^ address_bits
  pub type : m.type < 256
  pub body : AllowedBody m
