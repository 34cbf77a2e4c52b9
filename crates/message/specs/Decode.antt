-- What decoding a record answers, and what the answer's places and numbers stand for.
use Rattle.std.specs.Prelude.{ℕ, zero, suc, ◌+◌, ◌-◌, Bool, true, false, not, List, length, get_or, drop, ltb, eqb}
use Rattle.std.specs.Prelude.{Option, Some, None, Result, Ok, Err}
use Rattle.octets.specs.Choice.{pick}
use Rattle.octets.specs.Parts.{part_at}
use Rattle.octets.specs.Rows.{whole, items}
use Rattle.network.specs.Networks.{address_bits, Network}
use Rattle.network.specs.Wire.{prefix_size, network_of}
use Rattle.aspath.specs.declared.Width.{Width}
use Rattle.aspath.specs.declared.Width.TheVariants.{Two, Four}
use Rattle.aspath.specs.Wire.{width_bytes}
use Rattle.attributes.specs.Wire.{raws_of}
use Rattle.attributes.specs.Codes.{is_sound}
use Rattle.attributes.specs.Bodies.{all_right, attributes_of}
use Rattle.message.specs.declared.Part.{Part}
use Rattle.message.specs.declared.Parts.{Parts}
use Rattle.message.specs.declared.Refusal.{Refusal}
use Rattle.message.specs.declared.Refusal.TheVariants.{Size, MrtType, Peer, Frame, Sections, Attributes, Body, Prefix}
use Rattle.message.specs.Message.{Message, update}
use Rattle.message.specs.Represents.{message_limit, marker_size, frame_header, ipv4, bgp4mp, subtype_of}
use Rattle.header.specs.Header.{header_size, seconds_field, type_field, subtype_field, length_field}
use Rattle.message.specs.Fields.{width_of, frame_start, peer_as_field, family_field, peer_address_field, frame, frame_length, message_type}
use Rattle.message.specs.Fields.{body_start, body, withdrawn_size, attributes_size, withdrawn_in, attributes_in, announced_in}
use Rattle.message.specs.Refusals.{record_limit, number as number_of}

-- ---- what the answer stands for

-- the bytes of a part, as many as the record has
abbrev pub part_of : List ℕ → Part → List ℕ
part_of s p = part_at s p.start p.len

-- the networks of a section of prefixes
abbrev pub networks_of : List ℕ → List Network
networks_of l = items (prefix_size address_bits) (network_of address_bits) l

-- the message that parts stand for in a record, whatever they are
unfoldable pub message_at : List ℕ → Parts → Message
message_at s p = record {
  seconds = p.seconds;
  width = p.width;
  peer_as = p.peer;
  peer_address = p.address;
  type = p.code;
  withdrawn = networks_of (part_of s p.withdrawn);
  attributes = attributes_of (width_bytes p.width) (part_of s p.attributes);
  announced = networks_of (part_of s p.announced);
}

-- ---- what the code computes

unfoldable pub wrong_size : List ℕ → Bool
wrong_size s =
    pick (ltb (length s) header_size) true
    (pick (ltb record_limit (length s)) true
    (not (eqb (header_size + length_field s) (length s))))

unfoldable pub wrong_mrt_type : List ℕ → Bool
wrong_mrt_type s =
    pick (eqb (type_field s) bgp4mp)
    (pick (eqb (subtype_field s) (subtype_of Two)) false (not (eqb (subtype_field s) (subtype_of Four))))
    true

unfoldable pub wrong_peer : Width → List ℕ → Bool
wrong_peer w s = pick (ltb (length s) (frame_start w)) true (not (eqb (family_field w s) ipv4))

-- the first n bytes are each 0xFF
unfoldable pub ones : ℕ → List ℕ → Bool
ones zero m = true
ones (suc n) m = pick (eqb (get_or m 0 0) 255) (ones n (drop 1 m)) false

unfoldable pub wrong_frame : List ℕ → Bool
wrong_frame m =
    pick (ltb (length m) frame_header) true
    (pick (ltb message_limit (length m)) true
    (pick (ones marker_size m) (not (eqb (frame_length m) (length m))) true))

unfoldable pub wrong_sections : List ℕ → Bool
wrong_sections b =
    pick (ltb (length b) (4 + withdrawn_size b)) true
    (ltb (length b) (4 + withdrawn_size b + attributes_size b))

unfoldable pub wrong_attributes : List ℕ → Bool
wrong_attributes l = not (is_sound l)

unfoldable pub wrong_body : Width → List ℕ → Bool
wrong_body w l = not (all_right (width_bytes w) (raws_of l))

unfoldable pub wrong_prefix : List ℕ → List ℕ → Bool
wrong_prefix withdrawn announced =
    pick (whole (prefix_size address_bits) withdrawn) (not (whole (prefix_size address_bits) announced)) true

-- the parts of a record: the numbers before its message, the message's type, and where its sections stand
abbrev pub parts_with : Width → List ℕ → ℕ → Part → Part → Part → Parts
parts_with w s type withdrawn attributes announced = record {
  seconds = seconds_field s;
  width = w;
  peer = peer_as_field w s;
  address = peer_address_field w s;
  code = type;
  withdrawn = withdrawn;
  attributes = attributes;
  announced = announced;
}

-- those of a message that is no UPDATE, and of one that is
unfoldable pub other_parts : Width → List ℕ → Parts
other_parts w s = let none : Part = record { start = 0; len = 0 } in parts_with w s (message_type (frame w s)) none none none

unfoldable pub update_parts : Width → List ℕ → Parts
update_parts w s =
    let b = body w s in
    parts_with w s update
    (record { start = body_start w + 2; len = withdrawn_size b })
    (record { start = body_start w + 4 + withdrawn_size b; len = attributes_size b })
    (record { start = body_start w + 4 + withdrawn_size b + attributes_size b; len = length b - (4 + withdrawn_size b + attributes_size b) })

-- the checks of an UPDATE's body, down the table
unfoldable pub update_of : Width → List ℕ → Result Parts Refusal
update_of w s =
    let b = body w s in
    pick (wrong_sections b) (Err Sections)
    (pick (wrong_attributes (attributes_in b)) (Err Attributes)
    (pick (wrong_body w (attributes_in b)) (Err Body)
    (pick (wrong_prefix (withdrawn_in b) (announced_in b)) (Err Prefix)
    (Ok (update_parts w s)))))

-- the checks after the header, down the table
unfoldable pub message_of : Width → List ℕ → Result Parts Refusal
message_of w s =
    pick (wrong_peer w s) (Err Peer)
    (pick (wrong_frame (frame w s)) (Err Frame)
    (pick (eqb (message_type (frame w s)) update) (update_of w s)
    (Ok (other_parts w s))))

unfoldable pub decode_of : List ℕ → Result Parts Refusal
decode_of s =
    pick (wrong_size s) (Err Size)
    (pick (wrong_mrt_type s) (Err MrtType)
    (message_of (width_of s) s))

-- ---- as a number

-- what decoding answers: 0 and the parts, or a refusal's number
pub record Decoding : Type 0 where
  pub number : ℕ
  pub parts : Option Parts

abbrev pub decoding_of : Result Parts Refusal → Decoding
decoding_of (Ok parts) = record { number = 0; parts = Some parts }
decoding_of (Err why) = record { number = number_of why; parts = None }

abbrev pub our_decoding : List ℕ → Decoding
our_decoding bytes = decoding_of (decode_of bytes)
