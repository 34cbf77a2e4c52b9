-- An attribute on the wire (RFC 4271, section 4.3), its body not yet looked at.
use Rattle.std.specs.Prelude.{ℕ, ◌+◌, ◌/◌, ◌%◌, ◌<◌, ◌≡◌, List, ◌∷◌, ◌++◌, map, length, get_or, leb, eqb}
use Rattle.octets.specs.Choice.{pick}
use Rattle.octets.specs.Numbers.{Octets, number_at, Field}
use Rattle.octets.specs.Parts.{part_at}
use Rattle.octets.specs.Rows.{items}

-- a code and a body
pub record Raw : Type 0 where
  pub code : ℕ
  pub body : List ℕ

-- the flag Extended Length, 0x10, makes the length two bytes
abbrev pub extended_length : ℕ
extended_length = 16

unfoldable pub length_width : ℕ → ℕ
length_width flags = pick (eqb (flags / extended_length % 2) 1) 2 1

-- these bytes are an attribute: flags, its code, the length of its body, and its body; the other flags are free
pub record RawBytes (r : Raw) (bytes : List ℕ) : Type 0 where
  pub flags : ℕ
  pub flag_byte : flags < 256
  pub code_byte : r.code < 256
  pub octets : Octets r.body
  pub size : List ℕ
  pub sized : Field (length_width flags) (length r.body) size
  pub joined : bytes ≡ flags ∷ r.code ∷ (size ++ r.body)

-- the codes of attributes
abbrev pub codes : List Raw → List ℕ
codes raws = map (λ (r : Raw). r.code) raws

-- ---- what the code computes, of the attribute at the front

-- the bytes before its body, and those of its body as its length says
unfoldable pub attribute_header : List ℕ → ℕ
attribute_header l = 2 + length_width (get_or l 0 0)

unfoldable pub body_size : List ℕ → ℕ
body_size l = number_at l 2 (length_width (get_or l 0 0))

-- its bytes, 0 where no whole one stands there
unfoldable pub attribute_size : List ℕ → ℕ
attribute_size l = pick (leb (attribute_header l + body_size l) (length l)) (attribute_header l + body_size l) 0

unfoldable pub raw_of : List ℕ → Raw
raw_of l = record { code = get_or l 1 0; body = part_at l (attribute_header l) (body_size l) }

-- the attributes of a section
abbrev pub raws_of : List ℕ → List Raw
raws_of l = items attribute_size raw_of l
