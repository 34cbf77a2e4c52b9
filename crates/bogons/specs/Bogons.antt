-- Bogons: the AS numbers of document 000's table.
use Rattle.std.specs.Prelude.{ℕ, ◌≤◌, Bool, List, [], ◌∷◌, leb}
use Rattle.octets.specs.Choice.{both}
use Rattle.octets.specs.Lists.{SomeMember, some_passes}
use Rattle.bogons.specs.declared.Range.{Range}

abbrev pub range : ℕ → ℕ → Range
range a b = record { low = a; high = b }

-- the ranges of document 000, in its order
unfoldable pub bogons : List Range
bogons =
    range 0 0  -- RFC 7607
    ∷ range 23456 23456  -- RFC 6793, AS_TRANS
    ∷ range 64496 64511  -- RFC 5398, for documentation
    ∷ range 64512 65534  -- RFC 6996, for private use
    ∷ range 65535 65535  -- RFC 7300, the last of 16 bits
    ∷ range 65536 65551  -- RFC 5398, for documentation
    ∷ range 65552 131071  -- reserved
    ∷ range 4200000000 4294967294  -- RFC 6996, for private use
    ∷ range 4294967295 4294967295  -- RFC 7300, the last of 32 bits
    ∷ []

-- a number lies in a range
pub record Within (n : ℕ) (r : Range) : Type 0 where
  pub above : r.low ≤ n
  pub below : n ≤ r.high

-- a number lies in some range of the table
pub record Bogon (n : ℕ) : Type 0 where
  pub listed : SomeMember (Within n) bogons

-- ---- what the code computes

abbrev pub in_range : ℕ → Range → Bool
in_range n r = both (leb r.low n) (leb n r.high)

unfoldable pub is_bogon : ℕ → Bool
is_bogon n = some_passes (in_range n) bogons
