-- Addresses and networks: the operands of `-exact`, `-supernet`, `-subnet`, `-related`.
use Rattle.std.specs.Prelude.{ℕ, ◌+◌, ◌*◌, ◌≡◌, List, ◌∷◌, ◌++◌, eqb, get_or, drop, Option, None, Some}
use Rattle.octets.specs.Choice.{pick, onward}
use Rattle.network.specs.Networks.{address_bits, Network, masked, network_in}
use Rattle.network.specs.declared.Network.{Network as Held}
use Rattle.program.specs.Readings.{Side, either_side, announced, withdrawn}
use Rattle.operand.specs.Fronts.{Read, read, after}
use Rattle.operand.specs.Decimals.{byte_limit, Below, numeral, number}

-- `a.b.c.d`, each part 0 to 255
pub record Address (bs : List ℕ) (address : ℕ) : Type 0 where
  pub a : ℕ
  pub b : ℕ
  pub c : ℕ
  pub d : ℕ
  pub aText : List ℕ
  pub bText : List ℕ
  pub cText : List ℕ
  pub dText : List ℕ
  pub joined : bs ≡ aText ++ (46 ∷ (bText ++ (46 ∷ (cText ++ (46 ∷ dText)))))
  pub a_is : Below byte_limit aText a
  pub b_is : Below byte_limit bText b
  pub c_is : Below byte_limit cText c
  pub d_is : Below byte_limit dText d
  pub value : address ≡ ((a * 256 + b) * 256 + c) * 256 + d

-- `a.b.c.d/len`, len at most the bits of an address; bits past len are cleared
pub record NetworkText (bs : List ℕ) (n : Network) : Type 0 where
  pub address : ℕ
  pub len : ℕ
  pub address_text : List ℕ
  pub len_text : List ℕ
  pub joined : bs ≡ address_text ++ (47 ∷ len_text)
  pub address_is : Address address_text address
  pub len_is : Below (address_bits + 1) len_text len
  pub value : n ≡ masked address_bits address len

-- a leading `+` means announcements only, `-` withdrawals only
pub data NetworkOperand : List ℕ → Side → Network → Type 0 where
  plain : {bs : List ℕ} {n : Network} → NetworkText bs n → NetworkOperand bs either_side n
  plus : {bs : List ℕ} {n : Network} → NetworkText bs n → NetworkOperand (43 ∷ bs) announced n
  minus : {bs : List ℕ} {n : Network} → NetworkText bs n → NetworkOperand (45 ∷ bs) withdrawn n

-- ---- what the code computes

-- the part at the front, and what is left behind its dot
unfoldable pub part_read : List ℕ → Option (Read ℕ)
part_read l = onward (number byte_limit l) (λ n. onward (after 46 n.rest) (λ r. Some (read n.value r)))

-- the address at the front
unfoldable pub address_read : List ℕ → Option (Read ℕ)
address_read l =
    onward (part_read l) (λ a. onward (part_read a.rest) (λ b. onward (part_read b.rest) (λ c. onward (number byte_limit c.rest) (λ d.
    Some (read (((a.value * 256 + b.value) * 256 + c.value) * 256 + d.value) d.rest)))))

-- the network that these bytes write
unfoldable pub network_read : List ℕ → Option Network
network_read l =
    onward (address_read l) (λ a. onward (after 47 a.rest) (λ r. onward (numeral (address_bits + 1) r) (λ n.
    Some (masked address_bits a.value n))))

-- a network, and the side that it is asked of
pub record Sided : Type 0 where
  pub side : Side
  pub network : Network

-- both together
abbrev pub sided : Side → Network → Sided
sided s n = record { side = s; network = n }

-- the network that these bytes write, on a side
abbrev side_of : Side → List ℕ → Option Sided
side_of s l = onward (network_read l) (λ n. Some (sided s n))

-- the side by the first byte
unfoldable pub network_operand : List ℕ → Option Sided
network_operand l =
    pick (eqb (get_or l 0 0) 43) (side_of announced (drop 1 l))
    (pick (eqb (get_or l 0 0) 45) (side_of withdrawn (drop 1 l)) (side_of either_side l))

-- ---- what an answer of the code says

-- the network
abbrev pub network_found : Option Held → Option Network
network_found None = None
network_found (Some n) = Some (network_in n)
