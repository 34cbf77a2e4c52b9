-- The bodies that are looked at, over the width w of an AS number in bytes.
use Rattle.std.specs.Prelude.{ℕ, ◌+◌, ◌≤◌, ◌≡◌, Bool, true, false, List, [], ◌∷◌, ◌++◌, map, length, get_or, leb, eqb}
use Rattle.octets.specs.Choice.{pick}
use Rattle.octets.specs.Numbers.{number_at, Field}
use Rattle.octets.specs.Lists.{SomeMember}
use Rattle.octets.specs.Rows.{Joined, whole}
use Rattle.aspath.specs.Wire.{SegmentBytes, segment_size, segments_of}
use Rattle.network.specs.Networks.{address_size}
use Rattle.communities.specs.Communities.{CommunitiesBytes, size_at, communities_of}
use Rattle.attributes.specs.Attribute.{Aggregator, Attribute, origin, as_path, next_hop, atomic_aggregate, aggregator, communities, other, code_of}
use Rattle.attributes.specs.Attribute.{origin_code, as_path_code, next_hop_code, atomic_aggregate_code, aggregator_code, communities_code, incomplete}
use Rattle.attributes.specs.Wire.{Raw, RawBytes, raws_of}

-- a code whose body is free
pub record Unchecked (code : ℕ) : Type 0 where
  pub no_origin : code ≡ origin_code → ⊥
  pub no_path : code ≡ as_path_code → ⊥
  pub no_next_hop : code ≡ next_hop_code → ⊥
  pub no_atomic : code ≡ atomic_aggregate_code → ⊥
  pub no_aggregator : code ≡ aggregator_code → ⊥
  pub no_communities : code ≡ communities_code → ⊥

-- the body of an AGGREGATOR: an AS number, then an address; so 6 bytes or 8
pub record AggregatorBytes (w : ℕ) (a : Aggregator) (bytes : List ℕ) : Type 0 where
  pub number : List ℕ
  pub address : List ℕ
  pub joined : bytes ≡ number ++ address
  pub number_is : Field w a.number number
  pub address_is : Field address_size a.address address

-- the body that says an attribute: ORIGIN one byte 0 to 2; AS_PATH none or more segments; NEXT_HOP an address of 4 bytes;
-- ATOMIC_AGGREGATE none; AGGREGATOR a number and an address; COMMUNITY none or more communities of 4 bytes (both by request 1);
-- any other is free
abbrev pub HasBody : ℕ → Attribute → List ℕ → Type 0
HasBody w (origin n) body = (n ≤ incomplete) × (body ≡ n ∷ [])
HasBody w (as_path segments) body = Joined (SegmentBytes w) segments body
HasBody w (next_hop a) body = Field address_size a body
HasBody w atomic_aggregate body = body ≡ []
HasBody w (aggregator a) body = AggregatorBytes w a body
HasBody w (communities cs) body = CommunitiesBytes cs body
HasBody w (other code bytes) body = Unchecked code × (body ≡ bytes)

-- a raw attribute says an attribute
pub record Says (w : ℕ) (a : Attribute) (r : Raw) : Type 0 where
  pub coded : code_of a ≡ r.code
  pub body : HasBody w a r.body

-- these bytes are an attribute
pub record AttributeBytes (w : ℕ) (a : Attribute) (bytes : List ℕ) : Type 0 where
  pub raw : Raw
  pub wire : RawBytes raw bytes
  pub says : Says w a raw

-- a raw attribute says nothing: its body is wrong
pub record Wrong (w : ℕ) (r : Raw) : Type 0 where
  pub silent : (a : Attribute) → Says w a r → ⊥

-- some attribute of a list is so
abbrev pub SomeWrong : ℕ → List Raw → Type 0
SomeWrong w raws = SomeMember (Wrong w) raws

-- ---- what the code computes

unfoldable pub body_right : ℕ → ℕ → List ℕ → Bool
body_right w code body =
    pick (eqb code origin_code) (pick (eqb (length body) 1) (leb (get_or body 0 0) incomplete) false)
    (pick (eqb code as_path_code) (whole (segment_size w) body)
    (pick (eqb code next_hop_code) (eqb (length body) address_size)
    (pick (eqb code atomic_aggregate_code) (eqb (length body) 0)
    (pick (eqb code aggregator_code) (eqb (length body) (w + address_size))
    (pick (eqb code communities_code) (whole size_at body) true)))))

unfoldable pub all_right : ℕ → List Raw → Bool
all_right w [] = true
all_right w (r ∷ more) = pick (body_right w r.code r.body) (all_right w more) false

-- the aggregator in a body
unfoldable pub aggregator_of : ℕ → List ℕ → Aggregator
aggregator_of w body = record { number = number_at body 0 w; address = number_at body w address_size }

-- what a raw attribute says, where its body is right
unfoldable pub said : ℕ → Raw → Attribute
said w r =
    pick (eqb r.code origin_code) (origin (get_or r.body 0 0))
    (pick (eqb r.code as_path_code) (as_path (segments_of w r.body))
    (pick (eqb r.code next_hop_code) (next_hop (number_at r.body 0 address_size))
    (pick (eqb r.code atomic_aggregate_code) atomic_aggregate
    (pick (eqb r.code aggregator_code) (aggregator (aggregator_of w r.body))
    (pick (eqb r.code communities_code) (communities (communities_of r.body)) (other r.code r.body))))))

-- the attributes of a section
abbrev pub attributes_of : ℕ → List ℕ → List Attribute
attributes_of w l = map (said w) (raws_of l)
