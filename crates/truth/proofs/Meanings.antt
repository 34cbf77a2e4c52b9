-- What `test_holds` decides: what each test means on a message. Assumes nothing.
use Prim.Native.Nat.{ℕ}
use mathlib.Core.Path.{◌≡◌, refl, sym, ap, ◌∙◌}
use mathlib.Core.Bool.{Bool, true}
use mathlib.Core.Logic.{◌↔◌}
use mathlib.Core.List.{List}
use Rattle.std.specs.Prelude.{Option, Some, None}
use borrow.Author.Tests.{eqb-true, eq-eqb, leb-true, le-leb, ltb-true, lt-ltb}
use Rattle.octets.proofs.Choices.{never, pick_both}
use Rattle.octets.proofs.Some.{some_of_every, passes_sound, passes_complete}
use Rattle.network.specs.declared.Relation.{Relation}
use Rattle.network.specs.Networks.{Network}
use Rattle.network.proofs.Covers.{relates_sound, relates_complete}
use Rattle.aspath.specs.Members.{Segment, Member, members}
use Rattle.aspath.specs.Loops as loops
use Rattle.aspath.specs.Bogons.{some_bogon}
use Rattle.aspath.specs.Patterns.{matches}
use Rattle.aspath.proofs.MeaningLoops.{loop_sound, loop_complete}
use Rattle.aspath.proofs.MeaningBogons.{some_sound, some_complete}
use Rattle.aspath.proofs.MeaningPatterns.{matches_sound, matches_complete}
use Rattle.communities.specs.Communities.{holds_all}
use Rattle.communities.proofs.Holding.{holds_all_sound, holds_all_complete}
use Rattle.attributes.specs.Attribute.{first_of, ask_path, ask_communities}
use Rattle.message.specs.Message.{Message, update}
use Rattle.program.specs.Readings.{by_as, by_address, by_both, Side, Comparison, equal, below, at_most, above, at_least}
use Rattle.program.specs.Readings.{Test, type_is, has_attribute, path_matches, peer_is, has_loop, has_bogon, network_is, time_is, has_communities}
use Rattle.truth.specs.Means.{HasPath, HasCode, HasPrefix, HasCommunities, Compares}
use Rattle.truth.specs.Means.{Means, type, attribute, path, peer_number, peer_address, peer_both, loop, bogon, network, time, communities}
use Rattle.truth.specs.Means.{if_any, on_path, some_prefix, compares, test_holds}
use Rattle.truth.proofs.Addresses.{PrefixesAddressed, OperandAddressed, side_addressed}

-- ---- parts of the tests

-- an attribute that was found is there
code_sound : (m : Message) (code : ℕ) → test_holds m (has_attribute code) ≡ true → HasCode m code
unfolding test_holds
code_sound m code e =
    let b = (pick_both _ _).0 e in
    record { is_update = eqb-true _ _ b.0; coded = passes_sound (λ a h. eqb-true _ _ h) b.1 }

-- and none is missed
code_complete : {m : Message} {code : ℕ} → HasCode m code → test_holds m (has_attribute code) ≡ true
unfolding test_holds
code_complete h = (pick_both _ _).1 (eq-eqb _ _ h.is_update, passes_complete (λ a e. eq-eqb _ _ e) h.coded)

-- a prefix that was found is there
prefix_sound : (m : Message) (r : Relation) (n : Network) (s : Side) → test_holds m (network_is r n s) ≡ true → HasPrefix m r n s
unfolding test_holds some_prefix
prefix_sound m r n s e =
    let b = (pick_both _ _).0 e in
    record { is_update = eqb-true _ _ b.0; relates = passes_sound (relates_sound r n) b.1 }

-- and none is missed
prefix_complete : {m : Message} {r : Relation} {n : Network} {s : Side} → PrefixesAddressed m → OperandAddressed (network_is r n s)
    → HasPrefix m r n s → test_holds m (network_is r n s) ≡ true
unfolding test_holds some_prefix
prefix_complete {r = r} {n = n} {s = s} a o h =
    (pick_both _ _).1
    (eq-eqb _ _ h.is_update, passes_complete (λ p x. relates_complete r n p o.below x.1.below x.0) (some_of_every (side_addressed a s) h.relates))

-- a message has one path at most
pub path_one : {m : Message} {p q : List Member} → HasPath m p → HasPath m q → p ≡ q
path_one h k =
    let same : h.segments ≡ k.segments = cc (sym h.present ∙ k.present) in
    sym h.joined ∙ ap members same ∙ k.joined

-- a test of the path that was found true is true of one
path_sound : (m : Message) (test : List Member → Bool) → on_path m test ≡ true → (p : List Member) × HasPath m p × (test p ≡ true)
unfolding on_path
path_sound m test e = let b = (pick_both _ _).0 e in go (eqb-true _ _ b.0) (first_of ask_path m.attributes) refl b.1
  where
    go : m.type ≡ update → (o : Option (List Segment)) → first_of ask_path m.attributes ≡ o → if_any o (λ segments. test (members segments)) ≡ true
        → (p : List Member) × HasPath m p × (test p ≡ true)
    go u None f k = never k
    go u (Some s) f k = (members s, record { is_update = u; segments = s; present = f; joined = refl }, k)

-- and none is missed
path_complete : {m : Message} {p : List Member} → HasPath m p → (test : List Member → Bool) → test p ≡ true → on_path m test ≡ true
unfolding on_path
path_complete h test e = (pick_both _ _).1 (eq-eqb _ _ h.is_update, rw (h.present, h.joined) e)

-- communities that were found are held
communities_sound : (m : Message) (asked : List ℕ) → test_holds m (has_communities asked) ≡ true → HasCommunities m asked
unfolding test_holds
communities_sound m asked e = let b = (pick_both _ _).0 e in go (eqb-true _ _ b.0) (first_of ask_communities m.attributes) refl b.1
  where
    go : m.type ≡ update → (o : Option (List ℕ)) → first_of ask_communities m.attributes ≡ o → if_any o (λ held. holds_all held asked) ≡ true → HasCommunities m asked
    go u None f k = never k
    go u (Some held) f k = record { is_update = u; held = held; present = f; all = holds_all_sound held asked k }

-- and none is missed
communities_complete : {m : Message} {asked : List ℕ} → HasCommunities m asked → test_holds m (has_communities asked) ≡ true
unfolding test_holds
communities_complete h = (pick_both _ _).1 (eq-eqb _ _ h.is_update, rw h.present (holds_all_complete _ _ h.all))

-- times compare as the test says
compares_means : (c : Comparison) (a b : ℕ) → (compares c a b ≡ true) ↔ Compares c a b
compares_means equal a b = (eqb-true a b, eq-eqb a b)
compares_means below a b = (ltb-true a b, lt-ltb a b)
compares_means at_most a b = (leb-true a b, le-leb a b)
compares_means above a b = (ltb-true b a, lt-ltb b a)
compares_means at_least a b = (leb-true b a, le-leb b a)

-- ---- tests

-- a test that was found true is true, whatever the message and the test are
pub means_sound : (m : Message) (t : Test) → test_holds m t ≡ true → Means m t
unfolding test_holds
means_sound m (type_is code) e = type (eqb-true _ _ e)
means_sound m (has_attribute code) e = attribute (code_sound m code e)
means_sound m (path_matches p) e = let o = path_sound m (matches p) e in path o.1 (matches_sound o.2)
means_sound m (peer_is (by_as n)) e = peer_number (eqb-true _ _ e)
means_sound m (peer_is (by_address a)) e = peer_address (eqb-true _ _ e)
means_sound m (peer_is (by_both a n)) e = let b = (pick_both _ _).0 e in peer_both (eqb-true _ _ b.0) (eqb-true _ _ b.1)
means_sound m has_loop e = let o = path_sound m loops.has_loop e in loop o.1 (loop_sound o.2)
means_sound m has_bogon e = let o = path_sound m some_bogon e in bogon o.1 (some_sound o.2)
means_sound m (network_is r n s) e = network (prefix_sound m r n s e)
means_sound m (time_is c seconds micros) e = time ((compares_means c _ _).0 e)
means_sound m (has_communities asked) e = communities (communities_sound m asked e)

-- and no true test is missed, where the addresses that it compares have their networks' bits
pub means_complete : {m : Message} {t : Test} → PrefixesAddressed m → OperandAddressed t → Means m t → test_holds m t ≡ true
unfolding test_holds
means_complete a o (type e) = eq-eqb _ _ e
means_complete a o (attribute h) = code_complete h
means_complete a o (path {p = p} h x) = path_complete h (matches p) (matches_complete x)
means_complete a o (peer_number e) = eq-eqb _ _ e
means_complete a o (peer_address e) = eq-eqb _ _ e
means_complete a o (peer_both e f) = (pick_both _ _).1 (eq-eqb _ _ e, eq-eqb _ _ f)
means_complete a o (loop h x) = path_complete h loops.has_loop (loop_complete x)
means_complete a o (bogon h x) = path_complete h some_bogon (some_complete x)
means_complete a o (network h) = prefix_complete a o h
means_complete a o (time {c = c} x) = (compares_means c _ _).1 x
means_complete a o (communities h) = communities_complete h

-- so the test decides what it means
pub means_decided : (m : Message) (t : Test) → PrefixesAddressed m → OperandAddressed t → (test_holds m t ≡ true) ↔ Means m t
means_decided m t a o = (means_sound m t, means_complete a o)
