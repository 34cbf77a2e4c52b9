-- Networks and how one covers another, over the bits of an address.
use Rattle.std.specs.Prelude.{ℕ, ◌-◌, ◌*◌, ◌/◌, ◌%◌, ◌^◌, ◌≤◌, ◌<◌, ◌≡◌, Bool, true, ◌⊎◌, leb, eqb}
use Rattle.octets.specs.Choice.{pick, both}
use Rattle.network.specs.declared.Network.{Network as Stored}
use Rattle.network.specs.declared.Relation.{Relation}
use Rattle.network.specs.declared.Relation.TheVariants.{Exact, Supernet, Subnet, Related}

-- the bits and the bytes of an IPv4 address
abbrev pub address_bits : ℕ
address_bits = 32

abbrev pub address_size : ℕ
address_size = 4

-- a network: the bits of its addresses, its address and its length
pub record Network : Type 0 where
  pub bits : ℕ
  pub address : ℕ
  pub len : ℕ

-- bit i of an address of w bits, counted from the most significant
unfoldable pub bit_at : ℕ → ℕ → ℕ → ℕ
bit_at w i a = a / 2 ^ (w - 1 - i) % 2

-- the first len bits of two addresses agree
pub record FirstBits (w len a b : ℕ) : Type 0 where
  pub same : (i : ℕ) → i < len → bit_at w i a ≡ bit_at w i b

-- a covers b: both have addresses of as many bits, a's length is at most that and at most b's, and that many first bits agree
pub record Covers (a b : Network) : Type 0 where
  pub family : a.bits ≡ b.bits
  pub sized : a.len ≤ a.bits
  pub shorter : a.len ≤ b.len
  pub first : FirstBits a.bits a.len a.address b.address

-- how a prefix of a message stands to an operand: the same network; a supernet covers the operand, and a subnet is covered by it;
-- related is either
unfoldable pub Relates : Relation → Network → Network → Type 0
Relates Exact operand prefix = (operand.bits ≡ prefix.bits) × (operand.address ≡ prefix.address) × (operand.len ≡ prefix.len)
Relates Supernet operand prefix = Covers prefix operand
Relates Subnet operand prefix = Covers operand prefix
Relates Related operand prefix = Covers prefix operand ⊎ Covers operand prefix

-- an address of w bits with those past a length cleared
unfoldable pub cleared : ℕ → ℕ → ℕ → ℕ
cleared w len a = a / 2 ^ (w - len) * 2 ^ (w - len)

-- the network of an address of w bits and a length
abbrev pub masked : ℕ → ℕ → ℕ → Network
masked w a len = record { bits = w; address = cleared w len a; len = len }

-- ---- what the code computes

-- the network that the code's struct stands for
abbrev pub network_in : Stored → Network
network_in n = record { bits = address_bits; address = n.address; len = n.len }

unfoldable pub agree : ℕ → ℕ → ℕ → ℕ → Bool
agree w len a b = eqb (a / 2 ^ (w - len)) (b / 2 ^ (w - len))

unfoldable pub covers : Network → Network → Bool
covers a b =
    both (eqb a.bits b.bits)
    (both (leb a.len a.bits) (both (leb a.len b.len) (agree a.bits a.len a.address b.address)))

unfoldable pub relates : Relation → Network → Network → Bool
relates Exact operand prefix =
    both (eqb operand.bits prefix.bits) (both (eqb operand.address prefix.address) (eqb operand.len prefix.len))
relates Supernet operand prefix = covers prefix operand
relates Subnet operand prefix = covers operand prefix
relates Related operand prefix = pick (covers prefix operand) true (covers operand prefix)
