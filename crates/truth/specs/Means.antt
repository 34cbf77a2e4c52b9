-- What each test means on a message.
use Rattle.std.specs.Prelude.{ℕ, ◌+◌, ◌*◌, ◌≤◌, ◌<◌, ◌≡◌, Bool, false, List, ◌++◌, eqb, leb, ltb, Option, Some, None}
use Rattle.octets.specs.Choice.{both}
use Rattle.octets.specs.Lists.{SomeMember, some_passes}
use Rattle.network.specs.declared.Relation.{Relation}
use Rattle.network.specs.Networks.{Network, Relates, relates}
use Rattle.aspath.specs.Members.{Segment, Member, members}
use Rattle.aspath.specs.Loops.{Loop}
use Rattle.aspath.specs.Loops as loops
use Rattle.aspath.specs.Bogons.{HasBogon, some_bogon}
use Rattle.aspath.specs.Patterns.{Pattern, Matches, matches}
use Rattle.communities.specs.Communities.{HoldsAll, holds_all}
use Rattle.attributes.specs.Attribute.{Attribute, code_of, first_of, ask_path, ask_communities}
use Rattle.message.specs.Message.{Message, update}
use Rattle.program.specs.Readings.{Peer, by_as, by_address, by_both, Side, either_side, announced, withdrawn}
use Rattle.program.specs.Readings.{Comparison, equal, below, at_most, above, at_least}
use Rattle.program.specs.Readings.{Test, type_is, has_attribute, path_matches, peer_is, has_loop, has_bogon, network_is, time_is, has_communities}
use Rattle.program.specs.Records.{second}

-- the path of an UPDATE that has an AS_PATH
pub record HasPath (m : Message) (path : List Member) : Type 0 where
  pub is_update : m.type ≡ update
  pub segments : List Segment
  pub present : first_of ask_path m.attributes ≡ Some segments
  pub joined : members segments ≡ path

-- an UPDATE with an attribute of a code
pub record HasCode (m : Message) (code : ℕ) : Type 0 where
  pub is_update : m.type ≡ update
  pub coded : SomeMember (λ (a : Attribute). code_of a ≡ code) m.attributes

-- the prefixes that a network test looks at
abbrev pub prefixes_on : Side → Message → List Network
prefixes_on either_side m = m.announced ++ m.withdrawn
prefixes_on announced m = m.announced
prefixes_on withdrawn m = m.withdrawn

-- an UPDATE with a prefix that stands so to a network
pub record HasPrefix (m : Message) (r : Relation) (operand : Network) (s : Side) : Type 0 where
  pub is_update : m.type ≡ update
  pub relates : SomeMember (λ (n : Network). Relates r operand n) (prefixes_on s m)

-- an UPDATE with a COMMUNITY in which every community asked for stands somewhere (request 1)
pub record HasCommunities (m : Message) (asked : List ℕ) : Type 0 where
  pub is_update : m.type ≡ update
  pub held : List ℕ
  pub present : first_of ask_communities m.attributes ≡ Some held
  pub all : HoldsAll held asked

abbrev pub Compares : Comparison → ℕ → ℕ → Type 0
Compares equal a b = a ≡ b
Compares below a b = a < b
Compares at_most a b = a ≤ b
Compares above a b = b < a
Compares at_least a b = b ≤ a

-- a test is true of a message
pub data Means (m : Message) : Test → Type 0 where
  type : {code : ℕ} → m.type ≡ code → Means m (type_is code)
  attribute : {code : ℕ} → HasCode m code → Means m (has_attribute code)
  path : {p : Pattern} {members : List Member} → HasPath m members → Matches p members → Means m (path_matches p)
  peer_number : {n : ℕ} → m.peer_as ≡ n → Means m (peer_is (by_as n))
  peer_address : {a : ℕ} → m.peer_address ≡ a → Means m (peer_is (by_address a))
  peer_both : {a n : ℕ} → m.peer_address ≡ a → m.peer_as ≡ n → Means m (peer_is (by_both a n))
  loop : {members : List Member} → HasPath m members → Loop members → Means m has_loop
  bogon : {members : List Member} → HasPath m members → HasBogon members → Means m has_bogon
  network : {r : Relation} {n : Network} {s : Side} → HasPrefix m r n s → Means m (network_is r n s)
  -- a record's own fraction is 0
  time : {c : Comparison} {seconds micros : ℕ} → Compares c (m.seconds * second) (seconds * second + micros) → Means m (time_is c seconds micros)
  communities : {asked : List ℕ} → HasCommunities m asked → Means m (has_communities asked)

-- ---- what the code computes

abbrev has_update_type : Message → Bool
has_update_type m = eqb m.type update

-- a peer against an address and an AS number
abbrev pub same_peer : Peer → ℕ → ℕ → Bool
same_peer (by_as n) address number = eqb number n
same_peer (by_address a) address number = eqb address a
same_peer (by_both a n) address number = both (eqb address a) (eqb number n)

-- a test of what is there, false where nothing is
abbrev pub if_any : {A : Type 0} → Option A → (A → Bool) → Bool
if_any None test = false
if_any (Some a) test = test a

-- a test of the path
unfoldable pub on_path : Message → (List Member → Bool) → Bool
on_path m test = both (has_update_type m) (if_any (first_of ask_path m.attributes) (λ segments. test (members segments)))

unfoldable pub some_prefix : Relation → Network → List Network → Bool
some_prefix r operand prefixes = some_passes (λ n. relates r operand n) prefixes

abbrev pub compares : Comparison → ℕ → ℕ → Bool
compares equal a b = eqb a b
compares below a b = ltb a b
compares at_most a b = leb a b
compares above a b = ltb b a
compares at_least a b = leb b a

unfoldable pub test_holds : Message → Test → Bool
test_holds m (type_is code) = eqb m.type code
test_holds m (has_attribute code) = both (has_update_type m) (some_passes (λ a. eqb (code_of a) code) m.attributes)
test_holds m (path_matches p) = on_path m (matches p)
test_holds m (peer_is p) = same_peer p m.peer_address m.peer_as
test_holds m has_loop = on_path m loops.has_loop
test_holds m has_bogon = on_path m some_bogon
test_holds m (network_is r n s) = both (has_update_type m) (some_prefix r n (prefixes_on s m))
test_holds m (time_is c seconds micros) = compares c (m.seconds * second) (seconds * second + micros)
test_holds m (has_communities asked) = both (has_update_type m) (if_any (first_of ask_communities m.attributes) (λ held. holds_all held asked))
