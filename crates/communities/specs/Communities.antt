-- Communities (RFC 1997): numbers of four bytes, written in two halves; and the body of a COMMUNITY attribute, which is such numbers.
use Rattle.std.specs.Prelude.{ℕ, ◌+◌, ◌*◌, ◌≡◌, Bool, List, length, eqb, ltb}
use Rattle.octets.specs.Choice.{pick}
use Rattle.octets.specs.Numbers.{number_at, Field}
use Rattle.octets.specs.Lists.{Every, SomeMember, some_passes, every_passes}
use Rattle.octets.specs.Rows.{Joined, items}

-- each half is below it
abbrev pub half_limit : ℕ
half_limit = 65536

-- the community N:M; N is the half that comes first on the wire
abbrev pub community : ℕ → ℕ → ℕ
community n m = n * half_limit + m

-- its bytes
abbrev pub community_size : ℕ
community_size = 4

-- these bytes are communities, one after another
abbrev pub CommunitiesBytes : List ℕ → List ℕ → Type 0
CommunitiesBytes cs bytes = Joined (Field community_size) cs bytes

-- a community stands somewhere among those held
abbrev pub Held : List ℕ → ℕ → Type 0
Held held c = SomeMember (λ (h : ℕ). h ≡ c) held

-- every one asked for does
abbrev pub HoldsAll : List ℕ → List ℕ → Type 0
HoldsAll held asked = Every (Held held) asked

-- ---- what the code computes

-- the bytes of the community at the front, 0 where no whole one stands there
unfoldable pub size_at : List ℕ → ℕ
size_at l = pick (ltb (length l) community_size) 0 community_size

-- the community at the front
abbrev pub community_of : List ℕ → ℕ
community_of l = number_at l 0 community_size

-- the communities of a body
abbrev pub communities_of : List ℕ → List ℕ
communities_of l = items size_at community_of l

-- whether a community stands among those held
unfoldable pub is_held : List ℕ → ℕ → Bool
is_held held c = some_passes (λ h. eqb h c) held

-- whether every one asked for does
unfoldable pub holds_all : List ℕ → List ℕ → Bool
holds_all held asked = every_passes (is_held held) asked
