-- Which attributes have bytes, over the width w of an AS number in bytes, and how many.
use Rattle.std.specs.Prelude.{ℕ, ◌+◌, ◌*◌, ◌^◌, ◌≤◌, ◌<◌, length, ltb}
use Rattle.octets.specs.Choice.{pick}
use Rattle.octets.specs.Numbers.{Octets}
use Rattle.octets.specs.Lists.{Every, total}
use Rattle.aspath.specs.Encodable.{segment_cost, EncodableSegment}
use Rattle.network.specs.Networks.{address_bits, address_size}
use Rattle.communities.specs.Communities.{community_size}
use Rattle.attributes.specs.Attribute.{Attribute, origin, as_path, next_hop, atomic_aggregate, aggregator, communities, other, incomplete}
use Rattle.attributes.specs.Bodies.{Unchecked}

-- the bytes of the body that says it
unfoldable pub body_cost : ℕ → Attribute → ℕ
body_cost w (origin n) = 1
body_cost w (as_path segments) = total (segment_cost w) segments
body_cost w (next_hop a) = address_size
body_cost w atomic_aggregate = 0
body_cost w (aggregator a) = w + address_size
body_cost w (communities cs) = length cs * community_size
body_cost w (other code body) = length body

-- an attribute that has bytes: what it says fits, and its body is shorter than 2 ^ 16
abbrev pub EncodableAttribute : ℕ → Attribute → Type 0
EncodableAttribute w (origin n) = n ≤ incomplete
EncodableAttribute w (as_path segments) = Every (EncodableSegment w) segments × (total (segment_cost w) segments < 65536)
EncodableAttribute w (next_hop a) = a < 2 ^ address_bits
EncodableAttribute w atomic_aggregate = Unit {0}
EncodableAttribute w (aggregator a) = (a.number < 256 ^ w) × (a.address < 2 ^ address_bits)
EncodableAttribute w (communities cs) = Every (λ (c : ℕ). c < 256 ^ community_size) cs × (length cs * community_size < 65536)
EncodableAttribute w (other code body) = Unchecked code × (code < 256) × Octets body × (length body < 65536)

-- the bytes of an attribute with a body of n bytes: its length is one byte where that will do
unfoldable pub with_header : ℕ → ℕ
with_header n = n + pick (ltb n 256) 3 4

-- its fewest bytes: a length of one byte may also be written in two
abbrev pub attribute_cost : ℕ → Attribute → ℕ
attribute_cost w a = with_header (body_cost w a)
