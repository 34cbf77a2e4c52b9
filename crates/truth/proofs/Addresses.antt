-- Addresses of as many bits as their network's: the prefixes of a message that has a record, and the operands of tests that some text could give.
-- Assumes nothing.
use Prim.Native.Nat.{ℕ, ◌^◌, ◌<◌}
use native.Mathlib.Omega.{arith}
use mathlib.Core.Path.{◌≡◌, ap}
use mathlib.Core.List.{List}
use Rattle.octets.specs.Numbers.{number_at}
use Rattle.octets.specs.Lists.{Every, every_none}
use Rattle.octets.specs.Rows.{Joined}
use Rattle.octets.proofs.Numbers.{number_lt}
use Rattle.octets.proofs.Every.{every_append}
use Rattle.octets.proofs.Items.{joined_every}
use Rattle.network.specs.Networks.{address_bits, Network}
use Rattle.network.specs.Wire.{PrefixBytes}
use Rattle.network.proofs.Clearing.{cleared_le}
use Rattle.message.specs.Message.{Message}
use Rattle.message.specs.Represents.{BodyBytes, is_update, is_other, Represents}
use Rattle.program.specs.Readings.{Side, either_side, announced, withdrawn, Reading, test, neg, joint}
use Rattle.program.specs.Readings.{Test, type_is, has_attribute, path_matches, peer_is, has_loop, has_bogon, network_is, time_is, has_communities}
use Rattle.program.specs.Records.{NetworkPossible, PossibleHead}
use Rattle.program.specs.Compiling.{head_of}
use Rattle.program.proofs.ReadingValid.{PossibleTest, PossibleReading}
use Rattle.truth.specs.Means.{prefixes_on}

-- an address has its network's bits
pub record Addressed (n : Network) : Type 0 where
  pub below : n.address < 2 ^ n.bits

-- so has every prefix of a message
pub record PrefixesAddressed (m : Message) : Type 0 where
  pub withdrawn : Every Addressed m.withdrawn
  pub announced : Every Addressed m.announced

-- so has the operand of a test that has a network
abbrev pub OperandAddressed : Test → Type 0
OperandAddressed (type_is c) = Unit {0}
OperandAddressed (has_attribute c) = Unit {0}
OperandAddressed (path_matches p) = Unit {0}
OperandAddressed (peer_is p) = Unit {0}
OperandAddressed has_loop = Unit {0}
OperandAddressed has_bogon = Unit {0}
OperandAddressed (network_is r n s) = Addressed n
OperandAddressed (time_is c s m) = Unit {0}
OperandAddressed (has_communities cs) = Unit {0}

-- so has that of every test of a reading
abbrev pub OperandsAddressed : Reading → Type 0
OperandsAddressed (test t) = OperandAddressed t
OperandsAddressed (neg r) = OperandsAddressed r
OperandsAddressed (joint o a b) = OperandsAddressed a × OperandsAddressed b

-- the prefixes that a network test looks at
pub side_addressed : {m : Message} → PrefixesAddressed m → (s : Side) → Every Addressed (prefixes_on s m)
side_addressed h either_side = every_append h.announced h.withdrawn
side_addressed h announced = h.announced
side_addressed h withdrawn = h.withdrawn

-- ---- messages that have records

-- a prefix on the wire
prefix_addressed : {n : Network} {bytes : List ℕ} → PrefixBytes address_bits n bytes → Addressed n
prefix_addressed {n} p =
    let a = number_at p.address 0 4 in
    let h : a < 256 ^ 4 = number_lt p.address 0 4 p.few.octets.below in
    let bits : n.bits ≡ address_bits = ap (λ (x : Network). x.bits) p.network in
    record { below = rw bits (omega (arith, h, ap (λ (x : Network). x.address) p.network, cleared_le address_bits n.len a)) }

-- prefixes one after another
prefixes_addressed : {ns : List Network} {bytes : List ℕ} → Joined (PrefixBytes address_bits) ns bytes → Every Addressed ns
prefixes_addressed j = joined_every (λ n bytes p. prefix_addressed p) j

-- the prefixes in a body
body_addressed : {m : Message} {bytes : List ℕ} → BodyBytes m bytes → PrefixesAddressed m
body_addressed (is_update e u) =
    record { withdrawn = prefixes_addressed u.withdrawn_are; announced = prefixes_addressed u.announced_are }
body_addressed (is_other f o) = record { withdrawn = rw o.no_withdrawn every_none; announced = rw o.no_announced every_none }

-- a message that has a record
pub represented_addressed : {m : Message} {bytes : List ℕ} → Represents m bytes → PrefixesAddressed m
represented_addressed r = body_addressed r.rest_is.frame_is.body_is

-- ---- tests that some text could give

network_addressed : {n : Network} → NetworkPossible n → Addressed n
network_addressed {n} p =
    let bits : n.bits ≡ address_bits = ap (λ (x : Network). x.bits) p.clear in
    record { below = rw bits p.word.below }

-- such a test
pub possible_addressed : (t : Test) → PossibleTest t → OperandAddressed t
possible_addressed (type_is c) p = tt
possible_addressed (has_attribute c) p = tt
possible_addressed (path_matches q) p = tt
possible_addressed (peer_is q) p = tt
possible_addressed has_loop p = tt
possible_addressed has_bogon p = tt
possible_addressed (network_is r n s) p = network_addressed p
possible_addressed (time_is c s m) p = tt
possible_addressed (has_communities cs) p = tt

-- a test whose record some text could give
pub head_addressed : (t : Test) → PossibleHead (head_of t) → OperandAddressed t
unfolding head_of
head_addressed (type_is c) p = tt
head_addressed (has_attribute c) p = tt
head_addressed (path_matches q) p = tt
head_addressed (peer_is q) p = tt
head_addressed has_loop p = tt
head_addressed has_bogon p = tt
head_addressed (network_is r n s) p = network_addressed p
head_addressed (time_is c s m) p = tt
head_addressed (has_communities cs) p = tt

-- a reading of such tests
pub reading_addressed : (r : Reading) → PossibleReading r → OperandsAddressed r
reading_addressed (test t) p = possible_addressed t p
reading_addressed (neg r) p = reading_addressed r p
reading_addressed (joint o a b) p = (reading_addressed a p.0, reading_addressed b p.1)
