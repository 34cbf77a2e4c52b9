-- How a number is looked up in a table of ranges that stand in order (request 2): it is compared with bounds of the table, one at a time, and the
-- comparisons are counted.
use Rattle.std.specs.Prelude.{ℕ, ◌+◌, Bool, true, false, List, get_or, leb, ltb}
use Rattle.octets.specs.Choice.{pick}
use Rattle.bogons.specs.declared.Range.{Range}
use Rattle.bogons.specs.declared.Lookup.{Lookup}
use Rattle.bogons.specs.Bogons.{range, bogons}

-- the range at a place of a table
abbrev pub range_at : List Range → ℕ → Range
range_at rs i = get_or rs i (range 0 0)

-- the answer after so many comparisons
abbrev pub after : ℕ → Bool → Lookup
after made found = record { found = found; comparisons = made }

-- the same answer after one more
abbrev pub counted : Lookup → Lookup
counted l = after (l.comparisons + 1) l.found

-- one comparison of the number with a bound, and the rest of the search: the first where it holds, or else the second
abbrev pub compare : Bool → Lookup → Lookup → Lookup
compare told a b = counted (pick told a b)

-- a search tree over neighbouring ranges: its leaves are the ranges, and a node parts them in two
pub data Tree : Type 0 where
  leaf : Tree
  node : Tree → Tree → Tree

-- how many ranges it is over
unfoldable pub size : Tree → ℕ
size leaf = 1
size (node a b) = size a + size b

-- the search of so many ranges from a place on: at a node the low bound of the second part's first range tells in which part the number could lie; of
-- the one range that is left, the high bound decides
unfoldable pub search : Tree → ℕ → List Range → ℕ → Lookup
search leaf n rs at = compare (leb n (range_at rs at).high) (after 0 true) (after 0 false)
search (node a b) n rs at = compare (ltb n (range_at rs (at + size a)).low) (search a n rs at) (search b n rs (at + size a))

-- the tree over the nine ranges: a pair of them, and seven more
abbrev pub pair : Tree
pair = node leaf leaf

abbrev pub three : Tree
three = node leaf pair

abbrev pub four : Tree
four = node pair pair

abbrev pub seven : Tree
seven = node three four

abbrev pub nine : Tree
nine = node pair seven

-- the search of the nine
unfoldable pub bogon_search : ℕ → Lookup
bogon_search n = search nine n bogons 0

-- it makes no more comparisons
abbrev pub most_comparisons : ℕ
most_comparisons = 5

-- ---- what the code computes

-- the one of two ranges that could hold the number does
abbrev pub pair_holds : ℕ → Range → Range → Bool
pair_holds n a b = pick (ltb n b.low) (leb n a.high) (leb n b.high)
