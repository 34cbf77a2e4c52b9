-- The room for the lines of every record that is read: its sections fit in its message, which has 4,096 bytes at most. Assumes nothing.
use Prim.Native.Nat.{ℕ, ◌+◌, ◌^◌, ◌≤◌, ◌<◌}
use native.Mathlib.Decide.{ℕ_discrete}
use native.Mathlib.Omega.{arith}
use mathlib.Core.Path.{◌≡◌}
use mathlib.Core.Bool.{true}
use mathlib.Core.List.{List}
use lib.ListN.{length, length-drop}
use borrow.Author.Tests.{eq-eqb, ne_eqb, le-ltb, le-leb}
use Rattle.octets.specs.Numbers.{Octets}
use Rattle.octets.proofs.Numbers.{number_lt}
use Rattle.network.specs.Networks.{address_bits}
use Rattle.aspath.specs.declared.Width.{Width}
use Rattle.message.specs.declared.Parts.{Parts}
use Rattle.std.specs.Prelude.{Ok}
use Rattle.message.specs.Message.{Message, update}
use Rattle.message.specs.Represents.{Represents, message_limit}
use Rattle.message.specs.Fields.{width_of, frame_start, peer_address_field, frame, message_type, body_start}
use Rattle.message.specs.Decode.{other_parts, update_parts, decode_of}
use Rattle.message.proofs.Decoding.{parts_at, parts_of, PassesAt, read_passes}
use Rattle.message.proofs.RecordOctets.{represents_octets}
use Rattle.message.proofs.RecordReads.{represents_read}
use Rattle.line.specs.Line.{lines_of}
use Rattle.line.specs.Answer.{line_room, is_ample}
use Rattle.line.proofs.Bound.{lines_fit}

-- the parts of a record that is read are short: the bytes of the sections together, and the peer's address
record Short (p : Parts) : Type 0 where
  sections : p.withdrawn.len + p.attributes.len + p.announced.len ≤ message_limit
  address : p.address < 2 ^ address_bits

-- so are those of either kind of message that passes the checks
parts_short : (w : Width) {s : List ℕ} → Octets s → PassesAt w s → Short (parts_at w s)
unfolding parts_at update_parts other_parts
parts_short w {s} o x = go (ℕ_discrete (message_type (frame w s)) update)
  where
    below : peer_address_field w s < 2 ^ address_bits
    below = number_lt s _ 4 o.below

    go : Dec (message_type (frame w s) ≡ update) → Short (parts_at w s)
    go (yes e) = simp (eq-eqb _ _ e) (record {
      sections = omega (
        arith,
        x.framed.limited,
        (x.updated e).fits,
        length-drop (frame_start w) s,
        length-drop (body_start w) s,
      );
      address = below;
    })
    go (no n) = simp (ne_eqb _ _ n) (record { sections = omega arith; address = below })

read_short : {s : List ℕ} {p : Parts} → Octets s → decode_of s ≡ Ok p → Short p
read_short {s} o e = let x = read_passes s e in rw x.1 (parts_short (width_of s) o x.0.rest)

-- the room is ample for a record that is read
pub ample_readable : {s : List ℕ} {p : Parts} → Octets s → decode_of s ≡ Ok p → (room : ℕ) → line_room ≤ room → is_ample p room ≡ true
ample_readable {s} {p} o e room h =
    let f = (read_short o e).sections in
    let withdrawn : p.withdrawn.len ≤ message_limit = omega arith in
    let attributes : p.attributes.len ≤ message_limit = omega arith in
    let announced : p.announced.len ≤ message_limit = omega arith in
    simp (le-ltb _ _ h, le-ltb _ _ withdrawn, le-ltb _ _ attributes, le-ltb _ _ announced, le-leb _ _ f)

-- 65,536 bytes suffice for the lines of every message that has a record
pub room_suffices : {m : Message} {s : List ℕ} → Represents m s → length (lines_of m) ≤ line_room
room_suffices {m} {s} r =
    let o = represents_octets r in
    let e = represents_read r in
    rw (← e.1) (lines_fit o (parts_of s) (read_short o e.0).address line_room (ample_readable o e.0 line_room (omega arith)))
