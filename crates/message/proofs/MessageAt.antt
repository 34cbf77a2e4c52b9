-- The message that the parts of a record stand for: its sections are those of the body. Assumes nothing.
use Prim.Native.Nat.{ℕ, ◌+◌, ◌-◌}
use native.Mathlib.Omega.{arith}
use mathlib.Core.Path.{◌≡◌, refl, sym, ap, ◌∙◌}
use mathlib.Core.List.{List, []}
use lib.ListN.{length, take, drop, length-drop}
use lib.Seq.{take_all, drop-drop}
use Rattle.aspath.specs.declared.Width.{Width}
use Rattle.aspath.specs.Wire.{width_bytes}
use Rattle.attributes.specs.Bodies.{attributes_of}
use Rattle.message.specs.Message.{Message, update}
use Rattle.header.specs.Header.{seconds_field}
use Rattle.message.specs.Fields.{frame, peer_as_field, peer_address_field, message_type, body_start, body, withdrawn_size, attributes_size, withdrawn_in, attributes_in, announced_in}
use Rattle.message.specs.Decode.{networks_of, message_at, other_parts, update_parts}

-- a message of a record's numbers, of a type and with three lists
abbrev pub message_with : Width → List ℕ → ℕ → List ℕ → List ℕ → List ℕ → Message
message_with w s type withdrawn attributes announced = record {
  seconds = seconds_field s;
  width = w;
  peer_as = peer_as_field w s;
  peer_address = peer_address_field w s;
  type = type;
  withdrawn = networks_of withdrawn;
  attributes = attributes_of (width_bytes w) attributes;
  announced = networks_of announced;
}

-- a part of what is left at a place
part_in : (s : List ℕ) (at from place n : ℕ) → at + from ≡ place → take n (drop place s) ≡ take n (drop from (drop at s))
part_in s at from place n e = ap (take n) (sym (drop-drop from at s ∙ ap (λ (k : ℕ). drop k s) e))

-- of an UPDATE they are the three sections
pub message_update : (w : Width) (s : List ℕ)
    → message_at s (update_parts w s) ≡ message_with w s update (withdrawn_in (body w s)) (attributes_in (body w s)) (announced_in (body w s))
unfolding message_at update_parts
message_update w s =
    let b = body w s in
    let start = body_start w in
    let n = withdrawn_size b in
    let k = attributes_size b in
    let x : take n (drop (start + 2) s) ≡ withdrawn_in b = part_in s start 2 (start + 2) n refl in
    let y : take k (drop (start + 4 + n) s) ≡ attributes_in b = part_in s start (4 + n) (start + 4 + n) k (omega arith) in
    let z : take (length b - (4 + n + k)) (drop (start + 4 + n + k) s) ≡ announced_in b
    = part_in s start (4 + n + k) (start + 4 + n + k) (length b - (4 + n + k)) (omega arith)
    ∙ take_all (length b - (4 + n + k)) (announced_in b) (simp length-drop (omega arith)) in
    λ i. message_with w s update (x i) (y i) (z i)

-- of another message there are none
pub message_other : (w : Width) (s : List ℕ) → message_at s (other_parts w s) ≡ message_with w s (message_type (frame w s)) [] [] []
unfolding message_at other_parts
message_other w s = refl
