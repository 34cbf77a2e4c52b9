-- Which bytes are a message's record: the layouts of RFC 6396 (sections 2 and 4.4) and RFC 4271 (sections 4.1 and 4.3), built up
-- by joining their parts.
use Rattle.std.specs.Prelude.{ℕ, ◌≤◌, ◌≡◌, List, [], ◌++◌, map, length, replicate}
use Rattle.octets.specs.Numbers.{Octets, Free, Field}
use Rattle.octets.specs.Rows.{Joined}
use Rattle.network.specs.Networks.{address_bits, address_size}
use Rattle.network.specs.Wire.{PrefixBytes}
use Rattle.aspath.specs.declared.Width.{Width}
use Rattle.aspath.specs.declared.Width.TheVariants.{Two, Four}
use Rattle.aspath.specs.Wire.{width_bytes}
use Rattle.attributes.specs.Attribute.{code_of}
use Rattle.attributes.specs.Bodies.{AttributeBytes}
use Rattle.attributes.specs.Codes.{Twice}
use Rattle.message.specs.Message.{Message, update}

-- the most bytes of a BGP message
abbrev pub message_limit : ℕ
message_limit = 4096

-- the marker of a BGP message, and all before its body: the marker, the length and the type
abbrev pub marker_size : ℕ
marker_size = 16

abbrev pub frame_header : ℕ
frame_header = 19

-- the address family IPv4
abbrev pub ipv4 : ℕ
ipv4 = 1

-- BGP4MP, and its subtypes for AS numbers of two bytes and of four
abbrev pub bgp4mp : ℕ
bgp4mp = 16

abbrev pub subtype_of : Width → ℕ
subtype_of Two = 1
subtype_of Four = 4

-- the body of an UPDATE: the length of the withdrawn prefixes and these, the length of the attributes and these, no code twice, and
-- the announced prefixes up to the end
pub record UpdateBytes (m : Message) (l : List ℕ) : Type 0 where
  pub withdrawn_size : List ℕ
  pub withdrawn : List ℕ
  pub attributes_size : List ℕ
  pub attributes : List ℕ
  pub announced : List ℕ
  pub joined : l ≡ withdrawn_size ++ (withdrawn ++ (attributes_size ++ (attributes ++ announced)))
  pub withdrawn_sized : Field 2 (length withdrawn) withdrawn_size
  pub withdrawn_are : Joined (PrefixBytes address_bits) m.withdrawn withdrawn
  pub attributes_sized : Field 2 (length attributes) attributes_size
  pub attributes_are : Joined (AttributeBytes (width_bytes m.width)) m.attributes attributes
  pub once : Twice (map code_of m.attributes) → ⊥
  pub announced_are : Joined (PrefixBytes address_bits) m.announced announced

-- the body of any other message, which isn't read
pub record OtherBytes (m : Message) (l : List ℕ) : Type 0 where
  pub octets : Octets l
  pub no_withdrawn : m.withdrawn ≡ []
  pub no_attributes : m.attributes ≡ []
  pub no_announced : m.announced ≡ []

pub data BodyBytes (m : Message) (l : List ℕ) : Type 0 where
  is_update : m.type ≡ update → UpdateBytes m l → BodyBytes m l
  is_other : (m.type ≡ update → ⊥) → OtherBytes m l → BodyBytes m l

-- a BGP message: a marker of ones, the length of all of it, its type, its body
pub record FrameBytes (m : Message) (l : List ℕ) : Type 0 where
  pub size : List ℕ
  pub type : List ℕ
  pub body : List ℕ
  pub joined : l ≡ replicate marker_size 255 ++ (size ++ (type ++ body))
  pub sized : Field 2 (length l) size
  pub limited : length l ≤ message_limit
  pub type_is : Field 1 m.type type
  pub body_is : BodyBytes m body

-- what follows the header: the peer's and the local AS number, the interface, the address family, the peer's and the local
-- address, and the BGP message; the local number and address and the interface are free
pub record PeerBytes (m : Message) (l : List ℕ) : Type 0 where
  pub peer_as : List ℕ
  pub local_as : List ℕ
  pub interface : List ℕ
  pub family : List ℕ
  pub peer_address : List ℕ
  pub local_address : List ℕ
  pub frame : List ℕ
  pub joined : l ≡ peer_as ++ (local_as ++ (interface ++ (family ++ (peer_address ++ (local_address ++ frame)))))
  pub peer_as_is : Field (width_bytes m.width) m.peer_as peer_as
  pub local_as_free : Free (width_bytes m.width) local_as
  pub interface_free : Free 2 interface
  pub family_is : Field 2 ipv4 family
  pub peer_address_is : Field address_size m.peer_address peer_address
  pub local_address_free : Free address_size local_address
  pub frame_is : FrameBytes m frame

-- a record of type 16, subtype 1 or 4: its header (the time, the type, the subtype, the length of what follows) and what follows. It has at
-- most 4,128 bytes, so the 8,192 of row 11 always hold (`represents_size`)
pub record Represents (m : Message) (l : List ℕ) : Type 0 where
  pub seconds : List ℕ
  pub type : List ℕ
  pub subtype : List ℕ
  pub size : List ℕ
  pub rest : List ℕ
  pub joined : l ≡ seconds ++ (type ++ (subtype ++ (size ++ rest)))
  pub seconds_is : Field 4 m.seconds seconds
  pub type_is : Field 2 bgp4mp type
  pub subtype_is : Field 2 (subtype_of m.width) subtype
  pub sized : Field 4 (length rest) size
  pub rest_is : PeerBytes m rest
