-- A prefix on the wire (RFC 4271, section 4.3), over the width w of an address in bits.
use Rattle.std.specs.Prelude.{ℕ, ◌+◌, ◌/◌, ◌≤◌, ◌≡◌, List, ◌∷◌, length, get_or, take, drop, ltb}
use Rattle.octets.specs.Choice.{pick}
use Rattle.octets.specs.Numbers.{number_at, Free}
use Rattle.network.specs.Networks.{Network, masked}

-- as few bytes as hold that many bits
abbrev pub bytes_for : ℕ → ℕ
bytes_for len = (len + 7) / 8

-- these bytes are a network's prefix: its length, and as few bytes as hold it; the bits past the length are free and count as zero
pub record PrefixBytes (w : ℕ) (n : Network) (bytes : List ℕ) : Type 0 where
  pub sized : n.len ≤ w
  pub address : List ℕ
  pub joined : bytes ≡ n.len ∷ address
  pub few : Free (bytes_for n.len) address
  pub network : n ≡ masked w (number_at address 0 (w / 8)) n.len

-- ---- what the code computes

-- the bytes of the prefix at the front, 0 where no whole one stands there
unfoldable pub prefix_size : ℕ → List ℕ → ℕ
prefix_size w l =
    pick (ltb w (get_or l 0 0)) 0
    (pick (ltb (length l) (1 + bytes_for (get_or l 0 0))) 0 (1 + bytes_for (get_or l 0 0)))

-- the network of the prefix at the front: the bytes past those that hold its length count as zero
unfoldable pub network_of : ℕ → List ℕ → Network
network_of w l = masked w (number_at (take (bytes_for (get_or l 0 0)) (drop 1 l)) 0 (w / 8)) (get_or l 0 0)
