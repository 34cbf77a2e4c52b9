-- The table of bogons, by computation. Assumes nothing.
use Prim.Native.Nat.{ℕ, ◌+◌}
use mathlib.Core.Path.{◌≡◌, refl}
use mathlib.Core.Bool.{Bool, true, false}
use mathlib.Core.List.{List, [], ◌∷◌}
use lib.Dec.{leb}
use Rattle.octets.specs.Choice.{pick}
use Rattle.aspath.specs.declared.Range.{Range}
use Rattle.aspath.specs.Bogons.{bogons}

-- the first range starts at n or later, ends no earlier than it starts, and the others follow from past its end on
unfoldable pub ordered : ℕ → List Range → Bool
ordered n [] = true
ordered n (r ∷ rs) = pick (leb n r.low) (pick (leb r.low r.high) (ordered (r.high + 1) rs) false) false

-- the ranges of the table stand in order and apart
pub table_ordered : ordered 0 bogons ≡ true
unfolding ordered bogons
table_ordered = refl
