-- Laws of the fields of a record. Assumes nothing.
use Prim.Native.Nat.{ℕ, ◌+◌, ◌-◌, ◌*◌, ◌≤◌}
use native.Mathlib.Omega.{arith}
use borrow.Author.Tests.{le-leb}
use mathlib.Core.Path.{◌≡◌, ◌∙◌}
use mathlib.Core.Bool.{false}
use mathlib.Core.List.{List}
use lib.ListN.{length, length-drop}
use lib.Seq.{get_or-drop}
use lib.Dec.{leb}
use Rattle.octets.specs.Choice.{pick}
use Rattle.octets.specs.Numbers.{widest_number, number_at}
use Rattle.octets.proofs.Numbers.{number_one}
use Rattle.network.specs.Networks.{address_size}
use Rattle.aspath.specs.declared.Width.{Width}
use Rattle.aspath.specs.Wire.{width_bytes}
use Rattle.header.specs.Header.{header_size}
use Rattle.message.specs.Represents.{marker_size}
use Rattle.message.specs.Fields.{peer_as_field, frame_start, frame, message_type, body_start, body, withdrawn_size, attributes_size}
use Rattle.message.specs.Decode.{wrong_sections}
use Rattle.message.proofs.Checks.{sections_sound}

-- what is read at the width's bytes is the peer's AS number
pub peer_field : (w : Width) (s : List ℕ) (width n : ℕ) → width ≡ width_bytes w → width ≤ widest_number
    → n ≡ pick (leb width widest_number) (number_at s header_size width) 0 → n ≡ peer_as_field w s
peer_field w s width n e h x = x ∙ rw (le-leb width widest_number h, e)

-- the places of the family and of the peer's address, counted back from the frame as the code does
module _ (w : Width) (start : ℕ) (e : start ≡ frame_start w) where
  pub family_place : start - (2 + 2 * address_size) ≡ header_size + 2 * width_bytes w + 2
  family_place = omega arith

  pub address_place : start - 2 * address_size ≡ header_size + 2 * width_bytes w + 4
  address_place = omega arith

-- the byte of the message's type, counted from the frame as the code does
pub type_place : (w : Width) (s : List ℕ) (start : ℕ) → start ≡ frame_start w → number_at s (start + (marker_size + 2)) 1 ≡ message_type (frame w s)
type_place w s start e = simp (number_one, get_or-drop, e)

-- sections that aren't wrong lie within the record
pub sections_within : (w : Width) (s : List ℕ) → wrong_sections (body w s) ≡ false
    → body_start w + 4 + withdrawn_size (body w s) + attributes_size (body w s) ≤ length s
sections_within w s e = omega (arith, length-drop (body_start w) s, sections_sound (body w s) e)

-- what the body has left after the attributes is what the record has left
pub announced_left : (w : Width) (s : List ℕ)
    → length s - (body_start w + 4 + withdrawn_size (body w s) + attributes_size (body w s))
    ≡ length (body w s) - (4 + withdrawn_size (body w s) + attributes_size (body w s))
announced_left w s = omega (arith, length-drop (body_start w) s)
