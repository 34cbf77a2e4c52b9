-- A message has a record exactly where it is allowed. Assumes nothing.
use Prim.Native.Nat.{ℕ, ◌+◌, ◌^◌, ◌≤◌, ◌<◌}
use native.Mathlib.Omega.{arith}
use mathlib.Core.Path.{◌≡◌, refl, ap, ◌∙◌}
use mathlib.Core.List.{List, [], ◌++◌}
use lib.ListN.{length, replicate, length-append}
use Rattle.octets.specs.Numbers.{Free, Field, bytes_of}
use Rattle.octets.specs.Lists.{Every, total}
use Rattle.octets.specs.Rows.{Joined}
use Rattle.octets.proofs.Bytes.{octets_none}
use Rattle.octets.proofs.Fields.{field_below}
use Rattle.octets.proofs.Encode.{bytes_length, bytes_octets, bytes_field}
use Rattle.network.specs.Networks.{address_bits, Network}
use Rattle.network.specs.Wire.{PrefixBytes}
use Rattle.network.proofs.Prefixes.{prefix_exists, prefix_length, prefix_below, prefix_clear}
use Rattle.aspath.specs.declared.Width.{Width}
use Rattle.aspath.specs.declared.Width.TheVariants.{Two, Four}
use Rattle.aspath.specs.Wire.{width_bytes}
use Rattle.octets.proofs.Items.{joined_length, joined_most, joined_every, sized_exist}
use Rattle.attributes.specs.Encodable.{attribute_cost}
use Rattle.attributes.proofs.AttributesExist.{attributes_exist, attribute_encodable, attribute_least}
use Rattle.message.specs.Message.{Message}
use Rattle.message.specs.Represents.{message_limit, marker_size, frame_header, ipv4, bgp4mp, subtype_of, UpdateBytes, BodyBytes, is_update, is_other, FrameBytes, PeerBytes, Represents}
use Rattle.message.specs.Allowed.{AllowedNetwork, network_cost, AllowedUpdate, AllowedBody, for_update, for_other, Allowed}
use Rattle.message.proofs.RecordFields.{width_most}

-- ---- an allowed message has a record

-- networks have prefixes one after another
networks_exist : {ns : List Network} → Every AllowedNetwork ns → (l : List ℕ) × Joined (PrefixBytes address_bits) ns l × (length l ≡ total network_cost ns)
networks_exist h = sized_exist (λ n x. prefix_exists address_bits n refl x.short x.below x.clear) h

-- the bytes of a number are a field of any number that it equals
same_field : (w : ℕ) {n k : ℕ} → n < 256 ^ w → n ≡ k → Field w k (bytes_of w n)
same_field w {n} h e = let f = bytes_field w n h in record { long = f.long; octets = f.octets; value = f.value ∙ e }

-- bytes of any value
any_bytes : (w : ℕ) → Free w (bytes_of w 0)
any_bytes w = record { long = bytes_length w 0; octets = bytes_octets w 0; value = refl }

-- the body of an UPDATE
update_exists : {m : Message} → AllowedUpdate m → (l : List ℕ) × UpdateBytes m l × (frame_header + length l ≤ message_limit)
update_exists {m} u =
    let x = networks_exist u.withdrawn in
    let y = attributes_exist (width_bytes m.width) (width_most m.width) u.attributes in
    let z = networks_exist u.announced in
    let n = bytes_of 2 (length x.0) in
    let k = bytes_of 2 (length y.0) in (
      n ++ (x.0 ++ (k ++ (y.0 ++ z.0))),
      record {
        withdrawn_size = n;
        withdrawn = x.0;
        attributes_size = k;
        attributes = y.0;
        announced = z.0;
        joined = refl;
        withdrawn_sized = bytes_field 2 (length x.0) (omega (arith, x.2, u.limited));
        withdrawn_are = x.1;
        attributes_sized = bytes_field 2 (length y.0) (omega (arith, y.2, u.limited));
        attributes_are = y.1;
        once = u.once;
        announced_are = z.1;
      },
      simp length-append (omega (arith, x.2, y.2, z.2, bytes_length 2 (length x.0), bytes_length 2 (length y.0), u.limited)),
    )

-- the body of a message
body_exists : {m : Message} → AllowedBody m → (l : List ℕ) × BodyBytes m l × (frame_header + length l ≤ message_limit)
body_exists (for_update e u) = let x = update_exists u in (x.0, is_update e x.1, x.2)
body_exists (for_other n x) =
    ([], is_other n (record { octets = octets_none; no_withdrawn = x.no_withdrawn; no_attributes = x.no_attributes; no_announced = x.no_announced }), omega arith)

-- the frame of a message
frame_exists : {m : Message} → Allowed m → (l : List ℕ) × FrameBytes m l
frame_exists {m} h =
    let b = body_exists h.body in
    let n = frame_header + length b.0 in
    let size = bytes_of 2 n in
    let type = bytes_of 1 m.type in
    let l = replicate marker_size 255 ++ (size ++ (type ++ b.0)) in
    let long : n ≡ length l = simp length-append (omega (arith, bytes_length 2 n, bytes_length 1 m.type)) in (
      l,
      record {
        size = size;
        type = type;
        body = b.0;
        joined = refl;
        sized = same_field 2 (omega (arith, b.2)) long;
        limited = omega (arith, b.2);
        type_is = bytes_field 1 m.type h.type;
        body_is = b.1;
      },
    )

-- what follows the header
peer_exists : {m : Message} → Allowed m → (l : List ℕ) × PeerBytes m l × (length l < 256 ^ 4)
peer_exists {m} h =
    let w = width_bytes m.width in
    let f = frame_exists h in (
      bytes_of w m.peer_as ++ (bytes_of w 0 ++ (bytes_of 2 0 ++ (bytes_of 2 ipv4 ++ (bytes_of 4 m.peer_address ++ (bytes_of 4 0 ++ f.0))))),
      record {
        peer_as = bytes_of w m.peer_as;
        local_as = bytes_of w 0;
        interface = bytes_of 2 0;
        family = bytes_of 2 ipv4;
        peer_address = bytes_of 4 m.peer_address;
        local_address = bytes_of 4 0;
        frame = f.0;
        joined = refl;
        peer_as_is = bytes_field w m.peer_as h.peer_as;
        local_as_free = any_bytes w;
        interface_free = any_bytes 2;
        family_is = bytes_field 2 ipv4 (omega arith);
        peer_address_is = bytes_field 4 m.peer_address h.peer_address;
        local_address_free = any_bytes 4;
        frame_is = f.1;
      },
      simp (length-append, bytes_length) (omega (arith, f.1.limited, width_most m.width)),
    )

-- the subtype of a width fits its field
subtype_below : (w : Width) → subtype_of w < 256 ^ 2
subtype_below Two = omega arith
subtype_below Four = omega arith

-- an allowed message has a record
pub represents_exists : (m : Message) → Allowed m → (s : List ℕ) × Represents m s
represents_exists m h =
    let p = peer_exists h in (
      bytes_of 4 m.seconds ++ (bytes_of 2 bgp4mp ++ (bytes_of 2 (subtype_of m.width) ++ (bytes_of 4 (length p.0) ++ p.0))),
      record {
        seconds = bytes_of 4 m.seconds;
        type = bytes_of 2 bgp4mp;
        subtype = bytes_of 2 (subtype_of m.width);
        size = bytes_of 4 (length p.0);
        rest = p.0;
        joined = refl;
        seconds_is = bytes_field 4 m.seconds h.seconds;
        type_is = bytes_field 2 bgp4mp (omega arith);
        subtype_is = bytes_field 2 (subtype_of m.width) (subtype_below m.width);
        sized = bytes_field 4 (length p.0) p.2;
        rest_is = p.1;
      },
    )

-- ---- a message that has a record is allowed

-- networks that have prefixes are allowed
networks_allowed : {ns : List Network} {l : List ℕ} → Joined (PrefixBytes address_bits) ns l → Every AllowedNetwork ns
networks_allowed j =
    joined_every
    (λ n bytes p. record { short = p.sized; below = prefix_below address_bits p refl; clear = prefix_clear address_bits p })
    j

-- and their prefixes have the bytes that they cost
networks_length : {ns : List Network} {l : List ℕ} → Joined (PrefixBytes address_bits) ns l → length l ≡ total network_cost ns
networks_length j = joined_length network_cost (λ n bytes p. prefix_length address_bits p) j

-- the body of an UPDATE
update_allowed : {m : Message} {l : List ℕ} → UpdateBytes m l → frame_header + length l ≤ message_limit → AllowedUpdate m
update_allowed {m} u h =
    let w = width_bytes m.width in
    let e = ap length u.joined in
    record {
      withdrawn = networks_allowed u.withdrawn_are;
      attributes = joined_every (λ a bytes x. attribute_encodable w x) u.attributes_are;
      once = u.once;
      announced = networks_allowed u.announced_are;
      limited = omega (
        arith,
        simp length-append at e,
        u.withdrawn_sized.long,
        networks_length u.withdrawn_are,
        u.attributes_sized.long,
        joined_most (attribute_cost w) (λ a bytes x. attribute_least w x) u.attributes_are,
        networks_length u.announced_are,
      );
    }

-- the body of a message
body_allowed : {m : Message} {l : List ℕ} → BodyBytes m l → frame_header + length l ≤ message_limit → AllowedBody m
body_allowed (is_update e u) h = for_update e (update_allowed u h)
body_allowed (is_other n x) h =
    for_other n (record { no_withdrawn = x.no_withdrawn; no_attributes = x.no_attributes; no_announced = x.no_announced })

-- the body fits where the frame does
frame_fits : {m : Message} {l : List ℕ} (f : FrameBytes m l) → frame_header + length f.body ≤ message_limit
frame_fits f = let e = ap length f.joined in omega (arith, simp length-append at e, f.sized.long, f.type_is.long, f.limited)

-- a message that has a record is allowed
pub represents_allowed : {m : Message} {s : List ℕ} → Represents m s → Allowed m
represents_allowed r =
    let p = r.rest_is in
    let f = p.frame_is in
    record {
      seconds = field_below r.seconds_is;
      peer_as = field_below p.peer_as_is;
      peer_address = field_below p.peer_address_is;
      type = field_below f.type_is;
      body = body_allowed f.body_is (frame_fits f);
    }
