-- A record is readable exactly when it represents some message. Assumes nothing.
use Prim.Native.Nat.{ℕ}
use mathlib.Core.Path.{◌≡◌}
use mathlib.Core.List.{List}
use Rattle.octets.specs.Numbers.{Octets}
use Rattle.message.specs.declared.Parts.{Parts}
use Rattle.std.specs.Prelude.{Ok}
use Rattle.message.specs.Message.{Message}
use Rattle.message.specs.Represents.{Represents}
use Rattle.message.specs.Refusals.{Readable}
use Rattle.message.specs.Decode.{message_at, decode_of}
use Rattle.message.proofs.Refused.{read_sound, readable_read}
use Rattle.message.proofs.RecordOctets.{represents_octets}
use Rattle.message.proofs.RecordReads.{represents_read, represents_one, read_represents}

-- no row of 11 to 18 holds of a record that represents a message
pub represents_readable : {m : Message} {s : List ℕ} → Represents m s → Readable s
represents_readable r = read_sound (represents_octets r) (represents_read r).0

-- and bytes of which no row holds represent a message
pub readable_represents : {s : List ℕ} → Octets s → Readable s → (m : Message) × Represents m s
readable_represents {s} o h =
    let p = readable_read o h in
    (message_at s p.0, read_represents o p.1)

-- what decoding answers of a message's record stands for that message
pub decoded_is : {m : Message} {s : List ℕ} {p : Parts} → Represents m s → decode_of s ≡ Ok p → message_at s p ≡ m
decoded_is r e = represents_one (read_represents (represents_octets r) e) r
