-- Record R of document 01: its bytes, and the message that they are.
use Rattle.std.specs.Prelude.{ℕ, List, [], ◌∷◌}
use Rattle.network.specs.Networks.{address_bits, Network}
use Rattle.aspath.specs.declared.Width.TheVariants.{Four}
use Rattle.aspath.specs.Members.{sequence}
use Rattle.attributes.specs.Attribute.{origin, as_path, next_hop}
use Rattle.message.specs.Message.{Message, update}

unfoldable pub record_r : List ℕ
record_r =
    96 ∷ 184 ∷ 210 ∷ 203  -- seconds
    ∷ 0 ∷ 16  -- type
    ∷ 0 ∷ 4  -- subtype
    ∷ 0 ∷ 0 ∷ 0 ∷ 71  -- length
    ∷ 0 ∷ 3 ∷ 9 ∷ 124  -- peer AS
    ∷ 0 ∷ 0 ∷ 251 ∷ 244  -- local AS
    ∷ 0 ∷ 0  -- interface
    ∷ 0 ∷ 1  -- family
    ∷ 192 ∷ 0 ∷ 2 ∷ 1  -- peer address
    ∷ 192 ∷ 0 ∷ 2 ∷ 2  -- local address
    ∷ 255 ∷ 255 ∷ 255 ∷ 255 ∷ 255 ∷ 255 ∷ 255 ∷ 255 ∷ 255 ∷ 255 ∷ 255 ∷ 255 ∷ 255 ∷ 255 ∷ 255 ∷ 255  -- marker
    ∷ 0 ∷ 51  -- length
    ∷ 2  -- UPDATE
    ∷ 0 ∷ 0  -- no bytes of withdrawn prefixes
    ∷ 0 ∷ 24  -- 24 bytes of attributes
    ∷ 64 ∷ 1 ∷ 1 ∷ 0  -- ORIGIN: IGP
    ∷ 64 ∷ 2 ∷ 10 ∷ 2 ∷ 2 ∷ 0 ∷ 3 ∷ 9 ∷ 124 ∷ 0 ∷ 0 ∷ 13 ∷ 5  -- AS_PATH: a sequence of two numbers
    ∷ 64 ∷ 3 ∷ 4 ∷ 192 ∷ 0 ∷ 2 ∷ 1  -- NEXT_HOP
    ∷ 24 ∷ 10 ∷ 1 ∷ 2  -- 10.1.2.0/24
    ∷ []

-- 192.0.2.1
abbrev peer_address : ℕ
peer_address = 3221225985

-- 10.1.2.0/24
abbrev announced : Network
announced = record { bits = address_bits; address = 167838208; len = 24 }

unfoldable pub message_r : Message
message_r = record {
  seconds = 1622725323;
  width = Four;
  peer_as = 199036;
  peer_address = peer_address;
  type = update;
  withdrawn = [];
  attributes = origin 0 ∷ as_path (record { type = sequence; numbers = 199036 ∷ 3333 ∷ [] } ∷ []) ∷ next_hop peer_address ∷ [];
  announced = announced ∷ [];
}
