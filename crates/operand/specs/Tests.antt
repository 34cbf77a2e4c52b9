-- The tests that have an operand, and what an operand of each stands for.
use Rattle.std.specs.Prelude.{ℕ, List, [], ltb, length, Option, None, Some}
use Rattle.octets.specs.Choice.{pick, onward}
use Rattle.network.specs.Networks.{Network}
use Rattle.network.specs.declared.Relation.{Relation}
use Rattle.aspath.specs.Patterns.{Pattern}
use Rattle.program.specs.Readings.{Peer, Side, Comparison, Test, type_is, has_attribute, path_matches, peer_is, network_is, time_is, has_communities}
use Rattle.program.specs.Layout.{fields, head_fields}
use Rattle.program.specs.Records.{Record}
use Rattle.program.specs.Compiling.{head_of, following_of}
use Rattle.token.specs.Texts.{text_limit}
use Rattle.names.specs.Names.{type_names, attribute_names}
use Rattle.operand.specs.Codes.{CodeOperand, coded}
use Rattle.operand.specs.Addresses.{NetworkOperand, network_operand}
use Rattle.operand.specs.Peers.{PeerOperand, peer_operand}
use Rattle.operand.specs.Patterns.{PatternOperand, pattern_operand}
use Rattle.operand.specs.Communities.{CommunitiesOperand, communities_operand}
use Rattle.operand.specs.Times.{TimeOperand, time_operand}
use Rattle.operand.specs.declared.Head.{Head}
use Rattle.operand.specs.declared.Name.{Name}
use Rattle.operand.specs.declared.Name.TheVariants.{MessageType as type_name, Attribute as attribute_name, Path as path_name}
use Rattle.operand.specs.declared.Name.TheVariants.{Peer as peer_name, Time as time_name, Network as network_name, Communities as communities_name}

-- what a test with an operand of these bytes is, if the operand keeps the test's rule
pub data StandsFor : Name → List ℕ → Test → Type 0 where
  type : {bs : List ℕ} {c : ℕ} → CodeOperand type_names bs c → StandsFor type_name bs (type_is c)
  attribute : {bs : List ℕ} {c : ℕ} → CodeOperand attribute_names bs c → StandsFor attribute_name bs (has_attribute c)
  path : {bs : List ℕ} {p : Pattern} → PatternOperand bs p → StandsFor path_name bs (path_matches p)
  peer : {bs : List ℕ} {p : Peer} → PeerOperand bs p → StandsFor peer_name bs (peer_is p)
  network : {bs : List ℕ} {r : Relation} {s : Side} {n : Network} → NetworkOperand bs s n → StandsFor (network_name r) bs (network_is r n s)
  time : {bs : List ℕ} {c : Comparison} {s m : ℕ} → TimeOperand bs c s m → StandsFor time_name bs (time_is c s m)
  communities : {bs cs : List ℕ} → CommunitiesOperand bs cs → StandsFor communities_name bs (has_communities cs)

-- ---- what the code computes

-- the test that an operand of these bytes makes
unfoldable pub meaning : Name → List ℕ → Option Test
meaning type_name v = onward (coded type_names v) (λ c. Some (type_is c))
meaning attribute_name v = onward (coded attribute_names v) (λ c. Some (has_attribute c))
meaning path_name v = onward (pattern_operand v) (λ p. Some (path_matches p))
meaning peer_name v = onward (peer_operand v) (λ p. Some (peer_is p))
meaning time_name v = onward (time_operand v) (λ t. Some (time_is t.comparison t.seconds t.micros))
meaning communities_name v = onward (communities_operand v) (λ cs. Some (has_communities cs))
meaning (network_name r) v = onward (network_operand v) (λ n. Some (network_is r n.network n.side))

-- the same, and none where the operand is longer than a text
unfoldable pub operand_meaning : Name → List ℕ → Option Test
operand_meaning k v = pick (ltb text_limit (length v)) None (meaning k v)

-- the records that follow the head of the test that an operand makes; none where it breaks its test's rule
abbrev pub following_meant : Option Test → List Record
following_meant None = []
following_meant (Some t) = following_of t

-- the head of a test and how many records follow it; none where the operand breaks its test's rule
abbrev pub meant_of : Option Test → Option Head
meant_of None = None
meant_of (Some t) = Some (record { fields = head_fields (head_of t); following = length (following_of t) })

-- the record of a code, of a kind
abbrev pub code_meant : ℕ → Option ℕ → Option Head
code_meant k None = None
code_meant k (Some c) = Some (record { fields = fields k 0 0 c 0; following = 0 })

-- the record of a peer
abbrev pub peer_meant : Option Peer → Option Head
peer_meant o = meant_of (onward o (λ p. Some (peer_is p)))

-- the record of a network on a side
abbrev pub network_meant : Relation → Side → Option Network → Option Head
network_meant r s o = meant_of (onward o (λ n. Some (network_is r n s)))
