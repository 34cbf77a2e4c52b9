-- `message::other_parts` meets its contract: a field each. Assumes nothing.
use Rattle.message.specs.Decode.{other_parts}
use Rattle.message.proofs.Fields.{peer_field, address_place, type_place}
use Rattle.message.proofs.other_parts.Goals as goal

pub returns : goal.returns
unfolding other_parts
returns c = let a = c.args in
    let w = c.width_bytes in
    let f = c.frame_start-start in
    rw (
      c.number.ensures,
      peer_field a.width a.s.now w.result c.number-2.result w.ensures.0 w.ensures.1 c.number-2.ensures,
      c.number-3.ensures,
      address_place a.width f.result f.ensures.0,
      c.number-4.ensures,
      type_place a.width a.s.now f.result f.ensures.0,
    )
