-- `-peer`: AS number, address, or address, blanks, AS number.
use Rattle.std.specs.Prelude.{ℕ, ◌≤◌, ◌≡◌, List, [], ◌∷◌, ◌++◌, length, Option, None, Some}
use Rattle.octets.specs.Choice.{pick, onward}
use Rattle.octets.specs.Lists.{Every}
use Rattle.program.specs.Readings.{Peer, by_as, by_address, by_both}
use Rattle.token.specs.Texts.{Blank}
use Rattle.operand.specs.Fronts.{Read, cut}
use Rattle.token.specs.Next.{is_blank}
use Rattle.operand.specs.AsNumbers.{AsNumber, as_numeral}
use Rattle.operand.specs.Addresses.{Address, address_read}

-- an AS number, an address, or an address and an AS number with blanks between
pub data PeerOperand : List ℕ → Peer → Type 0 where
  as_only : {bs : List ℕ} {n : ℕ} → AsNumber bs n → PeerOperand bs (by_as n)
  address_only : {bs : List ℕ} {a : ℕ} → Address bs a → PeerOperand bs (by_address a)
  address_and_as : {bs gap cs l : List ℕ} {a n : ℕ} → Address bs a → Every Blank gap → 1 ≤ length gap → AsNumber cs n → l ≡ bs ++ (gap ++ cs)
      → PeerOperand l (by_both a n)

-- ---- what the code computes

-- behind an address: nothing, or blanks and a number
unfoldable pub behind_address : ℕ → List ℕ → Option Peer
behind_address a [] = Some (by_address a)
behind_address a (b ∷ bs) = pick (is_blank b) (onward (as_numeral (cut is_blank bs).rest) (λ n. Some (by_both a n))) None

-- by the address at the front, if there is one
abbrev pub peer_by : List ℕ → Option (Read ℕ) → Option Peer
peer_by l None = onward (as_numeral l) (λ n. Some (by_as n))
peer_by l (Some a) = behind_address a.value a.rest

-- the peer that these bytes write
unfoldable pub peer_operand : List ℕ → Option Peer
peer_operand l = peer_by l (address_read l)
