-- What the iterator over those of a list has left.
use Rattle.std.specs.Prelude.{ℕ, List, [], ◌∷◌, ◌≡◌}
use Rattle.std.specs.Prelude.{Option, None, Some}
use Rattle.std.specs.Borrow.{Bor}
use Rattle.octets.specs.Choice.{pick}
use Rattle.aspath.specs.declared.Item.{Item}
use Rattle.operand.specs.Fronts.{Read, read}
use Rattle.operand.specs.Parted.{all_parted}
use Rattle.operand.specs.Listed.{listed_read}
use Rattle.operand.specs.declared.ListedItems.{ListedItems}

-- those from where it stands on, and the bytes behind them and blanks
abbrev pub listed_left : ListedItems → Read (List Item)
listed_left p = pick p.more (all_parted (listed_read p.list) p.rest.now) (read [] p.rest.now)

-- a call gives the first of them and where it then stands; or none is left
abbrev pub GivesListed : ListedItems → Option (Item × Bor (List ℕ)) → ListedItems → Type 0
GivesListed p None q = (listed_left p ≡ read [] p.rest.now) × (listed_left q ≡ listed_left p)
GivesListed p (Some x) q = (listed_left p ≡ read (x.0 ∷ (listed_left q).value) (listed_left q).rest) × (x.1.now ≡ q.rest.now)
