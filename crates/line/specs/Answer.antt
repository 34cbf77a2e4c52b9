-- What writing a text into a lent buffer answers and leaves.
use Rattle.std.specs.Prelude.{ℕ, ◌+◌, Bool, false, List, ◌++◌, length, drop, leb, ltb, Result, Ok, Err}
use Rattle.octets.specs.Choice.{pick}
use Rattle.message.specs.declared.Parts.{Parts}
use Rattle.message.specs.Represents.{message_limit}
use Rattle.line.specs.declared.Short.{Short}

-- the room that suffices for the lines of every readable record
abbrev pub line_room : ℕ
line_room = 65536

-- 19: line buffer too short
abbrev pub short_number : ℕ
short_number = 19

-- what writing answers, and the buffer afterwards: 0 and the bytes written, or 19
pub record Writing : Type 0 where
  pub number : ℕ
  pub written : ℕ
  pub buffer : List ℕ

-- what the code's answer says, with the buffer afterwards
abbrev pub writing_of : Result ℕ Short → List ℕ → Writing
writing_of (Ok n) buffer = record { number = 0; written = n; buffer = buffer }
writing_of (Err short) buffer = record { number = short_number; written = 0; buffer = buffer }

-- a text goes over the start of a buffer that has room for it; else the buffer stays as it was
abbrev pub writing : List ℕ → List ℕ → Writing
writing text old =
    pick (leb (length text) (length old))
    (record { number = 0; written = length text; buffer = text ++ drop (length text) old })
    (record { number = short_number; written = 0; buffer = old })

-- ---- what the code computes

-- the sizes of the sections alone show that the room suffices
abbrev pub is_ample : Parts → ℕ → Bool
is_ample p room =
    pick (ltb room line_room) false
    (pick (ltb message_limit p.withdrawn.len) false
    (pick (ltb message_limit p.attributes.len) false
    (pick (ltb message_limit p.announced.len) false
    (leb (p.withdrawn.len + p.attributes.len + p.announced.len) message_limit))))
