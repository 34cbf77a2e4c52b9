-- Just the attributes whose contents fit have bytes. Assumes nothing.
use Prim.Native.Nat.{ℕ, ◌≤◌, ◌<◌}
use native.Mathlib.Omega.{arith}
use mathlib.Core.Path.{◌≡◌, refl, sym, ap, ◌∙◌}
use mathlib.Core.List.{List, [], ◌∷◌}
use lib.ListN.{length}
use Rattle.octets.specs.Numbers.{Octets, bytes_of}
use Rattle.octets.specs.Lists.{Every, total}
use Rattle.octets.specs.Rows.{Joined}
use Rattle.octets.proofs.Bytes.{octets_none, octets_append}
use Rattle.aspath.specs.Members.{SegmentType, set, sequence, Segment}
use Rattle.aspath.specs.Wire.{widest, type_code, SegmentBytes}
use Rattle.aspath.proofs.NumberReads.{numbers_bytes}
use Rattle.aspath.proofs.SegmentReads.{segment_encodable, segments_length, segments_exist}
use Rattle.network.specs.Networks.{address_size}
use Rattle.communities.specs.Communities.{community_size}
use Rattle.attributes.specs.Attribute.{Attribute, origin, as_path, next_hop, atomic_aggregate, aggregator, communities, other, code_of}
use Rattle.attributes.specs.Encodable.{body_cost, with_header, attribute_cost, EncodableAttribute}
use Rattle.attributes.specs.Wire.{Raw}
use Rattle.attributes.specs.Bodies.{HasBody, AttributeBytes}
use Rattle.octets.proofs.Fields.{field_below}
use Rattle.octets.proofs.Encode.{bytes_field, octets_one}
use Rattle.octets.proofs.Items.{joined_octets, joined_exist, joined_every, sized_exist}
use Rattle.attributes.proofs.Aggregators.{aggregator_long, aggregator_octets, aggregator_exists}
use Rattle.attributes.proofs.RawReads.{raw_short, raw_least, raw_exists}

code_below : (w : ℕ) (a : Attribute) → EncodableAttribute w a → code_of a < 256
unfolding code_of
code_below w (origin n) h = omega arith
code_below w (as_path segments) h = omega arith
code_below w (next_hop a) h = omega arith
code_below w atomic_aggregate h = omega arith
code_below w (aggregator a) h = omega arith
code_below w (communities cs) h = omega arith
code_below w (other code body) h = h.1

body_below : (w : ℕ) (a : Attribute) → w ≤ widest → EncodableAttribute w a → body_cost w a < 65536
unfolding body_cost
body_below w (origin n) k h = omega arith
body_below w (as_path segments) k h = h.1
body_below w (next_hop a) k h = omega arith
body_below w atomic_aggregate k h = omega arith
body_below w (aggregator a) k h = omega arith
body_below w (communities cs) k h = h.1
body_below w (other code body) k h = h.3

type_below : (k : SegmentType) → type_code k < 256
type_below set = omega arith
type_below sequence = omega arith

-- the bytes of a segment are bytes
segment_octets : {w : ℕ} {s : Segment} {bytes : List ℕ} → SegmentBytes w s bytes → Octets bytes
segment_octets {w} {s} x =
    rw x.joined
    (octets_append (octets_one (type_code s.type) (type_below s.type))
    (octets_append (octets_one (length s.numbers) x.few) (joined_octets (λ n bytes f. f.octets) x.numbers)))

module _ (w : ℕ) where
  body_exists : (a : Attribute) → EncodableAttribute w a → (body : List ℕ) × HasBody w a body × Octets body × (length body ≡ body_cost w a)
  unfolding body_cost
  body_exists (origin n) h = (n ∷ [], (h, refl), octets_one n (omega arith), refl)
  body_exists (as_path segments) h =
      let b = segments_exist w h.0 in
      (b.0, b.1, joined_octets (λ s bytes x. segment_octets x) b.1, b.2)
  body_exists (next_hop a) h = let f = bytes_field address_size a h in (bytes_of address_size a, f, f.octets, f.long)
  body_exists atomic_aggregate h = ([], refl, octets_none, refl)
  body_exists (aggregator a) h =
      let b = aggregator_exists w a h.0 h.1 in
      (b.0, b.1, aggregator_octets w b.1, aggregator_long w b.1)
  body_exists (communities cs) h =
      let b = joined_exist (λ c k. (bytes_of community_size c, bytes_field community_size c k)) h.0 in
      (b.0, b.1, joined_octets (λ c bytes f. f.octets) b.1, numbers_bytes community_size b.1)
  body_exists (other code body) h = (body, (h.0, refl), h.2, refl)

  -- an encodable attribute has bytes, at a width that AS numbers have
  attribute_exists : w ≤ widest → (a : Attribute) → EncodableAttribute w a → (bytes : List ℕ) × AttributeBytes w a bytes × (length bytes ≡ attribute_cost w a)
  attribute_exists k a h = go (body_exists a h)
    where
      go : (body : List ℕ) × HasBody w a body × Octets body × (length body ≡ body_cost w a)
          → (bytes : List ℕ) × AttributeBytes w a bytes × (length bytes ≡ attribute_cost w a)
      go b =
          let r : Raw = record { code = code_of a; body = b.0 } in
          let x = raw_exists r (code_below w a h) b.2 (rw b.3 (body_below w a k h)) in
          (x.0, record { raw = r; wire = x.1; says = record { coded = refl; body = b.1 } }, x.2 ∙ ap with_header b.3)

  -- and so have such attributes one after another
  pub attributes_exist : w ≤ widest → {attributes : List Attribute} → Every (EncodableAttribute w) attributes
      → (bytes : List ℕ) × Joined (AttributeBytes w) attributes bytes × (length bytes ≡ total (attribute_cost w) attributes)
  attributes_exist k h = sized_exist (attribute_exists k) h

  -- a body is as long as what it says asks for
  body_long : (a : Attribute) (body : List ℕ) → HasBody w a body → length body ≡ body_cost w a
  unfolding body_cost
  body_long (origin n) body h = ap length h.1
  body_long (as_path segments) body h = segments_length w h
  body_long (next_hop a) body h = h.long
  body_long atomic_aggregate body h = ap length h
  body_long (aggregator a) body h = aggregator_long w h
  body_long (communities cs) body h = numbers_bytes community_size h
  body_long (other code bytes) body h = ap length h.1

  body_encodable : (a : Attribute) (r : Raw) → code_of a ≡ r.code → HasBody w a r.body → r.code < 256 → Octets r.body → length r.body < 65536
      → EncodableAttribute w a
  unfolding code_of
  body_encodable (origin n) r e h c o l = h.0
  body_encodable (as_path segments) r e h c o l = (joined_every (λ s bytes x. segment_encodable w x) h, omega (arith, segments_length w h))
  body_encodable (next_hop a) r e h c o l = field_below h
  body_encodable atomic_aggregate r e h c o l = tt
  body_encodable (aggregator a) r e h c o l = (field_below h.number_is, field_below h.address_is)
  body_encodable (communities cs) r e h c o l = (joined_every (λ c bytes f. field_below f) h, omega (arith, numbers_bytes community_size h))
  body_encodable (other code body) r e h c o l =
      (h.0, rw (sym e) at c, rw h.1 at o, rw h.1 at l)

  -- an attribute that has bytes is encodable
  pub attribute_encodable : {a : Attribute} {bytes : List ℕ} → AttributeBytes w a bytes → EncodableAttribute w a
  attribute_encodable {a} x =
      body_encodable a x.raw x.says.coded x.says.body x.wire.code_byte x.wire.octets (raw_short x.wire)

  -- and its bytes are no fewer than it costs
  pub attribute_least : {a : Attribute} {bytes : List ℕ} → AttributeBytes w a bytes → attribute_cost w a ≤ length bytes
  attribute_least {a} x = rw (body_long a x.raw.body x.says.body) at (raw_least x.wire)
