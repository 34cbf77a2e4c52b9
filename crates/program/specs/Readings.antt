-- A reading (the paper's term): the tree that the grammar derives for a text, each test with what its operand stands for.
use Rattle.std.specs.Prelude.{ℕ, ◌+◌, Bool, true, not, List, length}
use Rattle.octets.specs.Choice.{pick, both}
use Rattle.network.specs.Networks.{Network}
use Rattle.network.specs.declared.Relation.{Relation}
use Rattle.aspath.specs.Patterns.{Pattern}
use Rattle.program.specs.declared.Spent.{Spent}
use Rattle.program.specs.Spent.{nothing, one_step, together}

-- `-peer`: an AS number, an address, or both
pub data Peer : Type 0 where
  by_as : ℕ → Peer
  by_address : ℕ → Peer
  by_both : ℕ → ℕ → Peer

-- the prefixes that a network test looks at
pub data Side : Type 0 where
  either_side announced withdrawn : Side

-- = < <= > >=
pub data Comparison : Type 0 where
  equal below at_most above at_least : Comparison

pub data Test : Type 0 where
  -- codes
  type_is : ℕ → Test
  has_attribute : ℕ → Test
  path_matches : Pattern → Test
  peer_is : Peer → Test
  has_loop : Test
  has_bogon : Test
  network_is : Relation → Network → Side → Test
  -- seconds and microseconds
  time_is : Comparison → ℕ → ℕ → Test
  -- the communities asked for (request 1)
  has_communities : List ℕ → Test

-- `-and`, `-or`
pub data Operator : Type 0 where
  and or : Operator

pub data Reading : Type 0 where
  test : Test → Reading
  neg : Reading → Reading
  joint : Operator → Reading → Reading → Reading

-- the items of a test
unfoldable pub item_count : Test → ℕ
item_count (type_is c) = 0
item_count (has_attribute c) = 0
item_count (path_matches p) = length p.items
item_count (peer_is p) = 0
item_count has_loop = 0
item_count has_bogon = 0
item_count (network_is r n s) = 0
item_count (time_is c s m) = 0
item_count (has_communities cs) = length cs

-- the weight (the paper's term): each test, item, `!`, `-and`, `-or` counts one
unfoldable pub weight : Reading → ℕ
weight (test t) = 1 + item_count t
weight (neg r) = weight r + 1
weight (joint o a b) = weight a + 1 + weight b

-- `-and` as both, `-or` as either
abbrev pub joins : Operator → Bool → Bool → Bool
joins and a b = both a b
joins or a b = pick a true b

-- the left side didn't decide
abbrev pub open' : Operator → Bool → Bool
open' and a = a
open' or a = not a

-- ---- what the code computes

-- the verdict and what is spent, the steps (the paper's terms), where truth says which tests are true
module _ (truth : Test → Bool) where
  unfoldable pub verdict : Reading → Bool
  verdict (test t) = truth t
  verdict (neg r) = not (verdict r)
  verdict (joint o a b) = joins o (verdict a) (verdict b)

  -- a test 1; `!x` one more than x; a joint the left side's plus 1, plus the right side's if the left didn't decide
  unfoldable pub spent : Reading → Spent
  spent (test t) = one_step
  spent (neg r) = together (spent r) one_step
  spent (joint o a b) = together (together (spent a) one_step) (pick (open' o (verdict a)) (spent b) nothing)
