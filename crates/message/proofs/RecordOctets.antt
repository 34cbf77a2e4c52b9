-- A message's record is bytes. Assumes nothing.
use Prim.Native.Nat.{ℕ, zero, suc, ◌<◌}
use native.Mathlib.Omega.{arith}
use mathlib.Core.List.{List}
use lib.ListN.{replicate}
use Rattle.octets.specs.Numbers.{Octets}
use Rattle.octets.proofs.Bytes.{octets_none, octets_append}
use Rattle.octets.proofs.Encode.{octets_one}
use Rattle.network.specs.Networks.{address_bits, Network}
use Rattle.network.specs.Wire.{PrefixBytes}
use Rattle.octets.proofs.Items.{joined_octets}
use Rattle.attributes.proofs.RawReads.{raw_octets}
use Rattle.message.specs.Message.{Message}
use Rattle.message.specs.Represents.{marker_size, BodyBytes, is_update, is_other, FrameBytes, PeerBytes, Represents}

-- the bytes of a prefix are bytes
prefix_octets : {n : Network} {bytes : List ℕ} → PrefixBytes address_bits n bytes → Octets bytes
prefix_octets {n} x = rw x.joined (octets_append (octets_one n.len (omega (arith, x.sized))) x.few.octets)

-- a byte any number of times is bytes
octets_same : (k b : ℕ) → b < 256 → Octets (replicate k b)
octets_same zero b h = octets_none
octets_same (suc k) b h = octets_append (octets_one b h) (octets_same k b h)

body_octets : {m : Message} {l : List ℕ} → BodyBytes m l → Octets l
body_octets (is_update e u) =
    rw u.joined
    (octets_append u.withdrawn_sized.octets
    (octets_append (joined_octets (λ n bytes x. prefix_octets x) u.withdrawn_are)
    (octets_append u.attributes_sized.octets
    (octets_append (joined_octets (λ a bytes x. raw_octets x.wire) u.attributes_are)
    (joined_octets (λ n bytes x. prefix_octets x) u.announced_are)))))
body_octets (is_other n x) = x.octets

frame_octets : {m : Message} {l : List ℕ} → FrameBytes m l → Octets l
frame_octets f =
    rw f.joined
    (octets_append (octets_same marker_size 255 (omega arith)) (octets_append f.sized.octets (octets_append f.type_is.octets (body_octets f.body_is))))

peer_octets : {m : Message} {l : List ℕ} → PeerBytes m l → Octets l
peer_octets p =
    rw p.joined
    (octets_append p.peer_as_is.octets
    (octets_append p.local_as_free.octets
    (octets_append p.interface_free.octets
    (octets_append p.family_is.octets
    (octets_append p.peer_address_is.octets
    (octets_append p.local_address_free.octets (frame_octets p.frame_is)))))))

-- a message's record is bytes
pub represents_octets : {m : Message} {s : List ℕ} → Represents m s → Octets s
represents_octets r =
    rw r.joined
    (octets_append r.seconds_is.octets
    (octets_append r.type_is.octets
    (octets_append r.subtype_is.octets
    (octets_append r.sized.octets (peer_octets r.rest_is)))))
