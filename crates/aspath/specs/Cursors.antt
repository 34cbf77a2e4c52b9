-- The members of a body one at a time.
use Rattle.std.specs.Prelude.{ℕ, zero, suc, ◌+◌, ◌-◌, ◌*◌, List, [], ◌∷◌, ◌++◌, map, length, get_or, drop, leb, eqb, Option, Some, None}
use Rattle.octets.specs.Choice.{pick}
use Rattle.octets.specs.Numbers.{number_at}
use Rattle.aspath.specs.declared.Cursor.{Cursor}
use Rattle.aspath.specs.declared.Members.{Members}
use Rattle.aspath.specs.Wire.{width_bytes}
use Rattle.aspath.specs.Members.{Member, number}
use Rattle.aspath.specs.Wire.{segment_header, segment_size, members_of}

-- the numbers at a place, as many as asked for and there
unfoldable pub numbers_from : ℕ → List ℕ → ℕ → ℕ → List ℕ
numbers_from w s at zero = []
numbers_from w s at (suc n) = pick (leb (at + w) (length s)) (number_at s at w ∷ numbers_from w s (at + w) n) []

-- the members from a cursor on: the numbers left in its segment, and those of the segments after it; a step answers the first of them
unfoldable pub remaining : ℕ → List ℕ → Cursor → List Member
remaining w s c = map number (numbers_from w s c.at c.left) ++ members_of w (drop (c.at + c.left * w) s)

-- ---- what the code computes

-- a step from a cursor: the next number of its segment, or the first of the segment that starts there, and the cursor after it
unfoldable pub next_at : ℕ → List ℕ → Cursor → Option (ℕ × Cursor)
next_at w s c =
    pick (eqb c.left 0)
    (pick (eqb (segment_size w (drop c.at s)) 0) None
    (Some (number_at s (c.at + segment_header) w, record { at = c.at + segment_header + w; left = get_or s (c.at + 1) 0 - 1 })))
    (pick (leb (c.at + w) (length s)) (Some (number_at s c.at w, record { at = c.at + w; left = c.left - 1 })) None)

-- the members that the code's iterator has left
abbrev pub left : Members → List Member
left m = remaining (width_bytes m.width) m.body.now m.place
