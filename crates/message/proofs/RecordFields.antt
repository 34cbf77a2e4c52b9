-- A record's header and peer part: the numbers that stand at their places are those of the message whose record it is. Assumes nothing.
use Prim.Native.Nat.{ℕ, ◌+◌, ◌*◌, ◌≤◌}
use native.Mathlib.Omega.{arith}
use mathlib.Core.Path.{◌≡◌, refl, sym, ap, ◌∙◌}
use mathlib.Core.List.{List, ◌++◌}
use lib.ListN.{length, take, drop, length-append, length-drop}
use Rattle.octets.specs.Numbers.{Octets}
use Rattle.aspath.specs.declared.Width.{Width}
use Rattle.aspath.specs.declared.Width.TheVariants.{Two, Four}
use Rattle.aspath.specs.Wire.{width_bytes}
use Rattle.message.specs.Message.{Message}
use Rattle.message.specs.Represents.{ipv4, bgp4mp, subtype_of, FrameBytes, Represents}
use Rattle.header.specs.Header.{header_size, seconds_field, type_field, subtype_field, length_field}
use Rattle.message.specs.Fields.{frame_start, peer_as_field, family_field, peer_address_field, frame}
use Rattle.message.proofs.Places.{Stands, field_here, after, cut, field_of, free_cut}

-- an AS number has at most four bytes
pub width_most : (w : Width) → width_bytes w ≤ 4
width_most Two = omega arith
width_most Four = omega arith

-- what stands at the places of the header and the peer part of a message's record
pub record RecordFields (m : Message) (s : List ℕ) : Type 0 where
  pub seconds : seconds_field s ≡ m.seconds
  pub type : type_field s ≡ bgp4mp
  pub subtype : subtype_field s ≡ subtype_of m.width
  pub even : header_size + length_field s ≡ length s
  pub fits : frame_start m.width ≤ length s
  pub peer_as : peer_as_field m.width s ≡ m.peer_as
  pub family : family_field m.width s ≡ ipv4
  pub peer_address : peer_address_field m.width s ≡ m.peer_address
  pub frame_is : FrameBytes m (frame m.width s)

-- a message's record has its numbers at their places
pub represents_fields : {m : Message} {s : List ℕ} → Represents m s → RecordFields m s
represents_fields {m} {s} r =
    let w = width_bytes m.width in
    let start = frame_start m.width in
    let p = r.rest_is in
    let s0 : Stands s 0 r.seconds (r.type ++ (r.subtype ++ (r.size ++ r.rest))) = record { cut = r.joined } in
    let s4 : Stands s 4 r.type (r.subtype ++ (r.size ++ r.rest)) = record { cut = after s0 4 (omega (arith, r.seconds_is.long)) } in
    let s6 : Stands s 6 r.subtype (r.size ++ r.rest) = record { cut = after s4 6 (omega (arith, r.type_is.long)) } in
    let s8 : Stands s 8 r.size r.rest = record { cut = after s6 8 (omega (arith, r.subtype_is.long)) } in
    let p0 : Stands s 12 p.peer_as (p.local_as ++ (p.interface ++ (p.family ++ (p.peer_address ++ (p.local_address ++ p.frame)))))
    = record { cut = after s8 12 (omega (arith, r.sized.long)) ∙ p.joined } in
    let p1 : Stands s (12 + w) p.local_as (p.interface ++ (p.family ++ (p.peer_address ++ (p.local_address ++ p.frame))))
    = record { cut = after p0 (12 + w) (omega (arith, p.peer_as_is.long)) } in
    let p2 : Stands s (12 + 2 * w) p.interface (p.family ++ (p.peer_address ++ (p.local_address ++ p.frame)))
    = record { cut = after p1 (12 + 2 * w) (omega (arith, p.local_as_free.long)) } in
    let p3 : Stands s (12 + 2 * w + 2) p.family (p.peer_address ++ (p.local_address ++ p.frame))
    = record { cut = after p2 (12 + 2 * w + 2) (omega (arith, p.interface_free.long)) } in
    let p4 : Stands s (12 + 2 * w + 4) p.peer_address (p.local_address ++ p.frame)
    = record { cut = after p3 (12 + 2 * w + 4) (omega (arith, p.family_is.long)) } in
    let p5 : Stands s (12 + 2 * w + 8) p.local_address p.frame
    = record { cut = after p4 (12 + 2 * w + 8) (omega (arith, p.peer_address_is.long)) } in
    let framed : frame m.width s ≡ p.frame = after p5 start (omega (arith, p.local_address_free.long)) in
    let long : length s ≡ 12 + length r.rest
    = ap length r.joined ∙ simp length-append (omega (arith, r.seconds_is.long, r.type_is.long, r.subtype_is.long, r.sized.long)) in
    let rest_long : start ≤ 12 + length r.rest
    = rw p.joined (simp length-append (omega (arith, p.peer_as_is.long, p.local_as_free.long, p.interface_free.long, p.family_is.long, p.peer_address_is.long, p.local_address_free.long))) in
    record {
      seconds = field_here s0 r.seconds_is;
      type = field_here s4 r.type_is;
      subtype = field_here s6 r.subtype_is;
      even = rw (field_here s8 r.sized) (sym long);
      fits = rw long rest_long;
      peer_as = field_here p0 p.peer_as_is;
      family = field_here p3 p.family_is;
      peer_address = field_here p4 p.peer_address_is;
      frame_is = rw framed p.frame_is;
    }

-- bytes with a message's numbers at their places are its record
pub fields_represent : {m : Message} {s : List ℕ} → Octets s → RecordFields m s → Represents m s
fields_represent {m} {s} o f =
    let w = width_bytes m.width in
    let start = frame_start m.width in
    let h = f.fits in
    record {
      seconds = take 4 s;
      type = take 2 (drop 4 s);
      subtype = take 2 (drop 6 s);
      size = take 4 (drop 8 s);
      rest = drop 12 s;
      joined = cut s 0 4 4 refl (cut s 4 2 6 refl (cut s 6 2 8 refl (cut s 8 4 12 refl refl)));
      seconds_is = field_of o 0 4 (omega arith) f.seconds;
      type_is = field_of o 4 2 (omega arith) f.type;
      subtype_is = field_of o 6 2 (omega arith) f.subtype;
      sized = field_of o 8 4 (omega arith) (simp length-drop (omega (arith, f.even)));
      rest_is = record {
        peer_as = take w (drop 12 s);
        local_as = take w (drop (12 + w) s);
        interface = take 2 (drop (12 + 2 * w) s);
        family = take 2 (drop (12 + 2 * w + 2) s);
        peer_address = take 4 (drop (12 + 2 * w + 4) s);
        local_address = take 4 (drop (12 + 2 * w + 8) s);
        frame = drop start s;
        joined =
            cut s 12 w (12 + w) refl
            (cut s (12 + w) w (12 + 2 * w) (omega arith)
            (cut s (12 + 2 * w) 2 (12 + 2 * w + 2) (omega arith)
            (cut s (12 + 2 * w + 2) 2 (12 + 2 * w + 4) (omega arith)
            (cut s (12 + 2 * w + 4) 4 (12 + 2 * w + 8) (omega arith)
            (cut s (12 + 2 * w + 8) 4 start (omega arith) refl)))));
        peer_as_is = field_of o 12 w (omega arith) f.peer_as;
        local_as_free = free_cut o (12 + w) w (omega arith);
        interface_free = free_cut o (12 + 2 * w) 2 (omega arith);
        family_is = field_of o (12 + 2 * w + 2) 2 (omega arith) f.family;
        peer_address_is = field_of o (12 + 2 * w + 4) 4 (omega arith) f.peer_address;
        local_address_free = free_cut o (12 + 2 * w + 8) 4 (omega arith);
        frame_is = f.frame_is;
      };
    }
