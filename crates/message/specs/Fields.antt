-- Where the fields of a record stand: a field past the end reads 0.
use Rattle.std.specs.Prelude.{ℕ, ◌+◌, ◌*◌, List, get_or, drop, eqb}
use Rattle.octets.specs.Choice.{pick}
use Rattle.octets.specs.Numbers.{number_at}
use Rattle.header.specs.Header.{header_size, subtype_field}
use Rattle.octets.specs.Parts.{part_at}
use Rattle.network.specs.Networks.{address_size}
use Rattle.aspath.specs.declared.Width.{Width}
use Rattle.aspath.specs.declared.Width.TheVariants.{Two, Four}
use Rattle.aspath.specs.Wire.{width_bytes}
use Rattle.message.specs.Represents.{marker_size, frame_header, subtype_of}

-- the width of the AS numbers, by the subtype
abbrev pub width_of : List ℕ → Width
width_of s = pick (eqb (subtype_field s) (subtype_of Two)) Two Four

-- the peer part, at a width: two AS numbers, the interface (2), the family (2), two addresses

abbrev pub peer_as_field : Width → List ℕ → ℕ
peer_as_field w s = number_at s header_size (width_bytes w)

abbrev pub family_field : Width → List ℕ → ℕ
family_field w s = number_at s (header_size + 2 * width_bytes w + 2) 2

abbrev pub peer_address_field : Width → List ℕ → ℕ
peer_address_field w s = number_at s (header_size + 2 * width_bytes w + 4) address_size

-- what follows it
abbrev pub frame_start : Width → ℕ
frame_start w = header_size + 2 * width_bytes w + 4 + 2 * address_size

-- the BGP message: sixteen bytes of marker, its length, its type, its body

abbrev pub frame : Width → List ℕ → List ℕ
frame w s = drop (frame_start w) s

abbrev pub frame_length : List ℕ → ℕ
frame_length m = number_at m marker_size 2

abbrev pub message_type : List ℕ → ℕ
message_type m = get_or m (marker_size + 2) 0

abbrev pub body_start : Width → ℕ
body_start w = frame_start w + frame_header

abbrev pub body : Width → List ℕ → List ℕ
body w s = drop (body_start w) s

-- the sections of an UPDATE's body

abbrev pub withdrawn_size : List ℕ → ℕ
withdrawn_size b = number_at b 0 2

abbrev pub attributes_size : List ℕ → ℕ
attributes_size b = number_at b (2 + withdrawn_size b) 2

abbrev pub withdrawn_in : List ℕ → List ℕ
withdrawn_in b = part_at b 2 (withdrawn_size b)

abbrev pub attributes_in : List ℕ → List ℕ
attributes_in b = part_at b (4 + withdrawn_size b) (attributes_size b)

abbrev pub announced_in : List ℕ → List ℕ
announced_in b = drop (4 + withdrawn_size b + attributes_size b) b
