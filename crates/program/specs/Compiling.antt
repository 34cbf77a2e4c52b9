-- The records of a reading.
use Rattle.std.specs.Prelude.{ℕ, List, [], ◌∷◌, ◌++◌, map, length}
use Rattle.aspath.specs.declared.Item.{Item}
use Rattle.aspath.specs.declared.Item.TheVariants.{Number}
use Rattle.program.specs.Readings.{Test, type_is, has_attribute, path_matches, peer_is, has_loop, has_bogon, network_is, time_is, has_communities}
use Rattle.program.specs.Readings.{Reading, test, neg, joint}
use Rattle.program.specs.Records.{Head, type, attribute, path, peer, loops, bogon, network, time, communities}
use Rattle.program.specs.Records.{Record, head, item, flip, pass}
use Rattle.program.specs.Layout.{encode_all}

-- the record of a test, and its items
unfoldable pub head_of : Test → Head
head_of (type_is c) = type c
head_of (has_attribute c) = attribute c
head_of (path_matches p) = path p.start p.end (length p.items)
head_of (peer_is p) = peer p
head_of has_loop = loops
head_of has_bogon = bogon
head_of (network_is r n s) = network r n s
head_of (time_is c s m) = time c s m
head_of (has_communities cs) = communities (length cs)

unfoldable pub items_of : Test → List Item
items_of (type_is c) = []
items_of (has_attribute c) = []
items_of (path_matches p) = p.items
items_of (peer_is p) = []
items_of has_loop = []
items_of has_bogon = []
items_of (network_is r n s) = []
items_of (time_is c s m) = []
items_of (has_communities cs) = map Number cs

-- the records that follow a test's
abbrev pub following_of : Test → List Record
following_of t = map item (items_of t)

-- a test is its record and those that follow it; `!x` is x, then a flip; a joint is its left side, a pass over its right side, and that
unfoldable pub records : Reading → List Record
records (test t) = head (head_of t) ∷ following_of t
records (neg r) = records r ++ (flip ∷ [])
records (joint o a b) = records a ++ (pass o (length (records b)) ∷ records b)

-- the program of a reading
abbrev pub program_of : Reading → List ℕ
program_of r = encode_all (records r)
