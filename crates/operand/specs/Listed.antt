-- What stands in a list of an operand, a record each: the items of a pattern, or communities.
use Rattle.std.specs.Prelude.{ℕ, List, [], map, Option, None, Some}
use Rattle.std.specs.Borrow.{Bor}
use Rattle.octets.specs.Choice.{onward}
use Rattle.aspath.specs.declared.Item.{Item}
use Rattle.aspath.specs.declared.Item.TheVariants.{Number}
use Rattle.program.specs.Records.{Record, item}
use Rattle.operand.specs.Fronts.{Read, read}
use Rattle.operand.specs.Parted.{all_parted}
use Rattle.operand.specs.Patterns.{item_read}
use Rattle.operand.specs.Communities.{community_read}
use Rattle.operand.specs.declared.Listed.{Listed}
use Rattle.operand.specs.declared.Listed.TheVariants.{Items, Communities}

-- ---- what the code computes

-- one of a list at the front: a community is a number
unfoldable pub listed_read : Listed → List ℕ → Option (Read Item)
listed_read Items l = item_read l
listed_read Communities l = onward (community_read l) (λ c. Some (read (Number c.value) c.rest))

-- the records of those at the front
abbrev pub listed_records : Listed → List ℕ → List Record
listed_records k l = map item (all_parted (listed_read k) l).value

-- the records of those that the code found, or of none
abbrev pub list_records : Option (Listed × Bor (List ℕ)) → List Record
list_records None = []
list_records (Some l) = listed_records l.0 l.1.now
