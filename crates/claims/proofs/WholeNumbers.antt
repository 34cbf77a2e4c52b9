-- AS numbers are whole: every number of a width stands in some record, as the peer's and as the path. Assumes nothing.
use Prim.Native.Nat.{ℕ, ◌^◌, ◌≤◌, ◌<◌}
use native.Mathlib.Omega.{arith}
use mathlib.Core.Path.{refl}
use mathlib.Core.Bool.{Bool, true, false}
use mathlib.Core.List.{[], ◌∷◌, map}
use lib.Dec.{ltb}
use Rattle.octets.specs.Choice.{pick}
use Rattle.octets.specs.Lists.{every_none, every_more, total}
use Rattle.aspath.specs.declared.Width.{Width}
use Rattle.aspath.specs.declared.Width.TheVariants.{Two, Four}
use Rattle.aspath.specs.Members.{Segment, sequence, members}
use Rattle.aspath.specs.Wire.{width_bytes}
use Rattle.aspath.specs.Encodable.{EncodableSegment}
use Rattle.attributes.specs.Attribute.{as_path, code_of, first_of, ask_path}
use Rattle.attributes.specs.Codes.{Twice}
use Rattle.attributes.specs.Encodable.{body_cost, with_header}
use Rattle.message.specs.Message.{Message, update}
use Rattle.message.specs.Allowed.{for_update, Allowed}
use Rattle.message.proofs.RecordReads.{represents_one}
use Rattle.message.proofs.Encodable.{represents_exists}
use Rattle.claims.specs.DemandTwo.{Whole}

-- a sequence of a number alone
abbrev segment : ℕ → Segment
segment n = record { type = sequence; numbers = n ∷ [] }

-- an UPDATE from that peer, with that path and nothing more
abbrev sent : Width → ℕ → Message
sent w n = record {
  seconds = 0;
  width = w;
  peer_as = n;
  peer_address = 0;
  type = update;
  withdrawn = [];
  attributes = as_path (segment n ∷ []) ∷ [];
  announced = [];
}

-- a number has at most four bytes
narrow : (w : Width) → width_bytes w ≤ 4
narrow Two = omega arith
narrow Four = omega arith

-- a header has at most four bytes
header_short : (b : Bool) → pick b 3 4 ≤ 4
header_short true = omega arith
header_short false = omega arith

-- one attribute comes once
once : (n : ℕ) → Twice (map code_of (as_path (segment n ∷ []) ∷ [])) → ⊥
once n t = omega (arith, t.order, t.within)

module _ (w : Width) (n : ℕ) (h : n < 256 ^ width_bytes w) where
  encodable : EncodableSegment (width_bytes w) (segment n)
  encodable = record { some = omega arith; few = omega arith; below = every_more h every_none }

  allowed : Allowed (sent w n)
  unfolding total body_cost with_header
  allowed = record {
    seconds = omega arith;
    peer_as = h;
    peer_address = omega arith;
    type = omega arith;
    body = for_update refl (record {
      withdrawn = every_none;
      attributes = every_more {a = as_path (segment n ∷ [])} (every_more encodable every_none, omega (arith, narrow w)) every_none;
      once = once n;
      announced = every_none;
      limited = omega (arith, narrow w, header_short (ltb (body_cost (width_bytes w) (as_path (segment n ∷ []))) 256));
    });
  }

  pub whole : Whole w n
  unfolding first_of ask_path members
  whole =
      let x = represents_exists (sent w n) allowed in
      record {
        message = sent w n;
        record_bytes = x.0;
        represents = x.1;
        width = refl;
        peer = refl;
        path = record { is_update = refl; segments = segment n ∷ []; present = refl; joined = refl };
        only = λ r. represents_one r x.1;
      }
