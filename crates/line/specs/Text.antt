-- Lists as text.
use Rattle.std.specs.Prelude.{ℕ, List, [], ◌∷◌, ◌++◌, map, Option, Some, None}
use Rattle.octets.specs.Decimal.{decimal}
use Rattle.network.specs.Networks.{Network}
use Rattle.network.specs.Text.{network_text}
use Rattle.aspath.specs.Members.{SegmentType, set, sequence, Segment}
use Rattle.communities.specs.Text.{community_text}

-- what parts the members of a field, and the fields of a line
abbrev pub space : ℕ
space = 32

abbrev pub bar : ℕ
bar = 124

-- texts, each after a separator
unfoldable pub following : ℕ → List (List ℕ) → List ℕ
following separator [] = []
following separator (text ∷ more) = ((separator ∷ []) ++ text) ++ following separator more

-- texts with a separator between them
unfoldable pub separated : ℕ → List (List ℕ) → List ℕ
separated separator [] = []
separated separator (text ∷ more) = text ++ following separator more

-- spaces part prefixes
abbrev pub prefixes_text : List Network → List ℕ
prefixes_text networks = separated space (map network_text networks)

-- the numbers of a sequence with spaces between; those of a set as `{1,2}`
unfoldable pub numbers_text : SegmentType → List ℕ → List ℕ
numbers_text sequence numbers = separated space (map decimal numbers)
numbers_text set numbers = (123 ∷ []) ++ (separated 44 (map decimal numbers) ++ (125 ∷ []))

abbrev pub segment_text : Segment → List ℕ
segment_text s = numbers_text s.type s.numbers

-- the segments of a path with spaces between
abbrev pub path_text : List Segment → List ℕ
path_text segments = separated space (map segment_text segments)

-- communities with spaces between
abbrev pub communities_text : List ℕ → List ℕ
communities_text cs = separated space (map community_text cs)

-- the field of what may be absent is empty then
unfoldable pub optional : {A : Type 0} → (A → List ℕ) → Option A → List ℕ
optional text None = []
optional text (Some x) = text x
