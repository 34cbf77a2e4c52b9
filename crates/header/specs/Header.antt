-- The header of an MRT record (RFC 6396, section 2): seconds, type, subtype, and the length of what follows. A field past the end
-- reads 0.
use Rattle.std.specs.Prelude.{ℕ, ◌+◌, List}
use Rattle.octets.specs.Numbers.{number_at}

abbrev pub header_size : ℕ
header_size = 12

abbrev pub seconds_field : List ℕ → ℕ
seconds_field s = number_at s 0 4

abbrev pub type_field : List ℕ → ℕ
type_field s = number_at s 4 2

abbrev pub subtype_field : List ℕ → ℕ
subtype_field s = number_at s 6 2

-- the length field of the header at a place, and at the start
abbrev pub length_at : List ℕ → ℕ → ℕ
length_at s at = number_at s (at + 8) 4

abbrev pub length_field : List ℕ → ℕ
length_field s = length_at s 0
