-- What a test's operand means: decided, at most one test, and a possible one. Assumes nothing.
use Prim.Native.Nat.{ℕ}
use mathlib.Core.Path.{◌≡◌}
use Rattle.std.specs.Prelude.{Some}
use mathlib.Core.List.{List}
use Rattle.program.specs.Readings.{Test}
use Rattle.operand.proofs.Holding.{AnswerHolds, held, holds_onward, holds_some, some_once}
use Rattle.operand.proofs.OperandCodes.{coded_sound, coded_complete, types_tell, attributes_tell}
use Rattle.operand.proofs.OperandCommunities.{communities_sound, communities_complete}
use Rattle.operand.proofs.OperandNetworks.{network_operand_sound, network_operand_complete}
use Rattle.operand.proofs.OperandPatterns.{pattern_sound, pattern_complete}
use Rattle.operand.proofs.OperandPeers.{peer_sound, peer_complete}
use Rattle.operand.proofs.OperandTimes.{time_sound, time_complete}
use Rattle.names.specs.Names.{type_names, attribute_names}
use Rattle.operand.specs.declared.Name.{Name}
use Rattle.operand.specs.declared.Name.TheVariants.{MessageType as type_name, Attribute as attribute_name, Path as path_name, Peer as peer_name, Time as time_name, Network as network_name, Communities as communities_name}
use Rattle.operand.specs.Tests.{StandsFor, type, attribute, path, peer, network, time, communities, meaning}

-- what is found is meant
meaning_holds : (k : Name) (v : List ℕ) → AnswerHolds (StandsFor k v) (meaning k v)
unfolding meaning
meaning_holds type_name v = holds_onward (coded_sound type_names v) (λ c x. held (type x))
meaning_holds attribute_name v = holds_onward (coded_sound attribute_names v) (λ c x. held (attribute x))
meaning_holds path_name v = holds_onward (pattern_sound v) (λ p x. held (path x))
meaning_holds peer_name v = holds_onward (peer_sound v) (λ p x. held (peer x))
meaning_holds time_name v = holds_onward (time_sound v) (λ t x. held (time x))
meaning_holds communities_name v = holds_onward (communities_sound v) (λ cs x. held (communities x))
meaning_holds (network_name r) v = holds_onward (network_operand_sound v) (λ n x. held (network x))

-- a test that was found is meant
pub meaning_sound : (k : Name) (v : List ℕ) {x : Test} → meaning k v ≡ Some x → StandsFor k v x
meaning_sound k v e = holds_some (meaning_holds k v) e

-- and none is missed
pub meaning_complete : {k : Name} {v : List ℕ} {x : Test} → StandsFor k v x → meaning k v ≡ Some x
unfolding meaning
meaning_complete (type x) = rw (coded_complete types_tell x)
meaning_complete (attribute x) = rw (coded_complete attributes_tell x)
meaning_complete (path x) = rw (pattern_complete x)
meaning_complete (peer x) = rw (peer_complete x)
meaning_complete (network x) = rw (network_operand_complete x)
meaning_complete (time x) = rw (time_complete x)
meaning_complete (communities x) = rw (communities_complete x)

-- an operand means at most one test
pub means_once : {k : Name} {v : List ℕ} {x y : Test} → StandsFor k v x → StandsFor k v y → x ≡ y
means_once p q = some_once (meaning_complete p) (meaning_complete q)
