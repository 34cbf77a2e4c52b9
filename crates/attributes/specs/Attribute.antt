-- The attributes of an UPDATE, with what those that are looked at say.
use Rattle.std.specs.Prelude.{ℕ, List, [], ◌∷◌, Option, Some, None}
use Rattle.octets.specs.Choice.{or_else}
use Rattle.aspath.specs.Members.{Segment}

-- the greatest ORIGIN: 0 is IGP, 1 EGP, 2 INCOMPLETE
abbrev pub incomplete : ℕ
incomplete = 2

-- an AGGREGATOR: the number of an AS and the address of a speaker
pub record Aggregator : Type 0 where
  pub number : ℕ
  pub address : ℕ

pub data Attribute : Type 0 where
  -- a number up to 2
  origin : ℕ → Attribute
  as_path : List Segment → Attribute
  -- an address
  next_hop : ℕ → Attribute
  atomic_aggregate : Attribute
  aggregator : Aggregator → Attribute
  -- a COMMUNITY
  communities : List ℕ → Attribute
  -- any other, by its code and its body
  other : ℕ → List ℕ → Attribute

-- the codes of the types that are looked at

abbrev pub origin_code : ℕ
origin_code = 1

abbrev pub as_path_code : ℕ
as_path_code = 2

abbrev pub next_hop_code : ℕ
next_hop_code = 3

abbrev pub atomic_aggregate_code : ℕ
atomic_aggregate_code = 6

abbrev pub aggregator_code : ℕ
aggregator_code = 7

abbrev pub communities_code : ℕ
communities_code = 8

-- the code of its type
unfoldable pub code_of : Attribute → ℕ
code_of (origin n) = origin_code
code_of (as_path segments) = as_path_code
code_of (next_hop a) = next_hop_code
code_of atomic_aggregate = atomic_aggregate_code
code_of (aggregator a) = aggregator_code
code_of (communities cs) = communities_code
code_of (other code body) = code

-- ---- what a list of attributes says

-- the first that a question answers
unfoldable pub first_of : {A : Type 0} → (Attribute → Option A) → List Attribute → Option A
first_of ask [] = None
first_of ask (a ∷ more) = or_else (ask a) (first_of ask more)

-- the questions: what an ORIGIN, an AS_PATH, a NEXT_HOP, an AGGREGATOR, a COMMUNITY says, and whether it is an ATOMIC_AGGREGATE

unfoldable pub ask_origin : Attribute → Option ℕ
ask_origin (origin n) = Some n
ask_origin (as_path segments) = None
ask_origin (next_hop a) = None
ask_origin atomic_aggregate = None
ask_origin (aggregator a) = None
ask_origin (communities cs) = None
ask_origin (other code body) = None

unfoldable pub ask_path : Attribute → Option (List Segment)
ask_path (origin n) = None
ask_path (as_path segments) = Some segments
ask_path (next_hop a) = None
ask_path atomic_aggregate = None
ask_path (aggregator a) = None
ask_path (communities cs) = None
ask_path (other code body) = None

unfoldable pub ask_next_hop : Attribute → Option ℕ
ask_next_hop (origin n) = None
ask_next_hop (as_path segments) = None
ask_next_hop (next_hop a) = Some a
ask_next_hop atomic_aggregate = None
ask_next_hop (aggregator a) = None
ask_next_hop (communities cs) = None
ask_next_hop (other code body) = None

unfoldable pub ask_atomic : Attribute → Option (Unit {0})
ask_atomic (origin n) = None
ask_atomic (as_path segments) = None
ask_atomic (next_hop a) = None
ask_atomic atomic_aggregate = Some tt
ask_atomic (aggregator a) = None
ask_atomic (communities cs) = None
ask_atomic (other code body) = None

unfoldable pub ask_aggregator : Attribute → Option Aggregator
ask_aggregator (origin n) = None
ask_aggregator (as_path segments) = None
ask_aggregator (next_hop a) = None
ask_aggregator atomic_aggregate = None
ask_aggregator (aggregator a) = Some a
ask_aggregator (communities cs) = None
ask_aggregator (other code body) = None

unfoldable pub ask_communities : Attribute → Option (List ℕ)
ask_communities (origin n) = None
ask_communities (as_path segments) = None
ask_communities (next_hop a) = None
ask_communities atomic_aggregate = None
ask_communities (aggregator a) = None
ask_communities (communities cs) = Some cs
ask_communities (other code body) = None
