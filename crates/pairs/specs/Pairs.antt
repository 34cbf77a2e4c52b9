-- The known pairs of document 01 that are to be proved (those with a star), as one list under one claim.
use Rattle.std.specs.Prelude.{ℕ, ◌*◌, ◌≡◌, List, [], ◌∷◌}
use Rattle.aspath.specs.Bogons.{Bogon}
use Rattle.message.specs.Message.{Message}
use Rattle.message.specs.Represents.{Represents}
use Rattle.program.specs.Spent.{spending}
use Rattle.program.specs.Readings.{Reading, weight}
use Rattle.program.specs.Layout.{record_size}
use Rattle.truth.specs.Verdict.{Keeps, Drops, Spends}
use Rattle.filter.specs.declared.Refusal.{Refusal}
use Rattle.filter.specs.Answers as words
use Rattle.filter.specs.Answers.{number_of, DerivedWithin, TextAnswers, compiled}
use Rattle.pairs.specs.RecordR.{record_r, message_r}

pub data Pair : Type 0 where
  -- a text, and the steps in which its reading keeps or drops R
  kept dropped : List ℕ → ℕ → Pair
  -- a text, its refusal's number and its place
  refused : List ℕ → ℕ → ℕ → Pair
  -- an AS number that lies in the table of bogons, or doesn't
  bogon no_bogon : ℕ → Pair

-- a text compiles, in a buffer that just holds its program, and its reading has this verdict on R in so many steps
pub record OnR (Verdict : Message → Reading → Type 0) (text : List ℕ) (count : ℕ) : Type 0 where
  pub reading : Reading
  pub derives : DerivedWithin text reading
  pub compiles : TextAnswers text (record_size * weight reading) (compiled reading)
  pub verdict : Verdict message_r reading
  pub counted : Spends message_r reading (spending count)

abbrev pub PairHolds : Pair → Type 0
PairHolds (kept text count) = OnR Keeps text count
PairHolds (dropped text count) = OnR Drops text count
PairHolds (refused text number place) = (room : ℕ) → (why : Refusal) × (number_of why ≡ number) × TextAnswers text room (words.refused why place)
PairHolds (bogon n) = Bogon n
PairHolds (no_bogon n) = Bogon n → ⊥

-- each pair of a list holds
pub data EachPair : List Pair → Type 0 where
  none : EachPair []
  more : {p : Pair} {ps : List Pair} → PairHolds p → EachPair ps → EachPair (p ∷ ps)

-- the list of the paper, in its order
unfoldable pub pairs : List Pair
pairs =
    kept (45 ∷ 112 ∷ 101 ∷ 101 ∷ 114 ∷ 32 ∷ 49 ∷ 57 ∷ 57 ∷ 48 ∷ 51 ∷ 54 ∷ []) 1  -- -peer 199036
    ∷ dropped (45 ∷ 112 ∷ 101 ∷ 101 ∷ 114 ∷ 32 ∷ 50 ∷ 52 ∷ 50 ∷ 56 ∷ []) 1  -- -peer 2428
    ∷ kept (45 ∷ 97 ∷ 115 ∷ 112 ∷ 97 ∷ 116 ∷ 104 ∷ 32 ∷ 39 ∷ 51 ∷ 51 ∷ 51 ∷ 51 ∷ 36 ∷ 39 ∷ []) 1  -- -aspath '3333$'
    ∷ dropped (45 ∷ 97 ∷ 115 ∷ 112 ∷ 97 ∷ 116 ∷ 104 ∷ 32 ∷ 39 ∷ 94 ∷ 51 ∷ 51 ∷ 51 ∷ 51 ∷ 39 ∷ []) 1  -- -aspath '^3333'
    ∷ dropped
    (45 ∷ 108 ∷ 111 ∷ 111 ∷ 112 ∷ 115 ∷ 32 ∷ 45 ∷ 97 ∷ 110 ∷ 100 ∷ 32 ∷ 45 ∷ 98 ∷ 111 ∷ 103 ∷ 111 ∷ 110 ∷ 45 ∷ 97 ∷ 115 ∷ 110 ∷ [])
    2  -- -loops -and -bogon-asn
    ∷ kept (33 ∷ 32 ∷ 45 ∷ 108 ∷ 111 ∷ 111 ∷ 112 ∷ 115 ∷ []) 2  -- ! -loops
    ∷ kept (45 ∷ 115 ∷ 117 ∷ 98 ∷ 110 ∷ 101 ∷ 116 ∷ 32 ∷ 49 ∷ 48 ∷ 46 ∷ 48 ∷ 46 ∷ 48 ∷ 46 ∷ 48 ∷ 47 ∷ 56 ∷ []) 1  -- -subnet 10.0.0.0/8
    ∷ dropped (45 ∷ 101 ∷ 120 ∷ 97 ∷ 99 ∷ 116 ∷ 32 ∷ 45 ∷ 49 ∷ 48 ∷ 46 ∷ 49 ∷ 46 ∷ 50 ∷ 46 ∷ 48 ∷ 47 ∷ 50 ∷ 52 ∷ []) 1  -- -exact -10.1.2.0/24
    ∷ refused ([]) 4 0  -- empty text
    ∷ refused (45 ∷ 108 ∷ 111 ∷ 111 ∷ 112 ∷ 115 ∷ 32 ∷ 41 ∷ []) 4 7  -- -loops )
    ∷ refused (45 ∷ 97 ∷ 115 ∷ 112 ∷ 97 ∷ 116 ∷ 104 ∷ 32 ∷ 33 ∷ 52 ∷ 51 ∷ 50 ∷ []) 4 8  -- -aspath !432
    ∷ bogon 131071
    ∷ no_bogon 131072
    ∷ []

pub record KnownPairs : Type 0 where
  -- R's bytes are R's message
  pub record_is : Represents message_r record_r
  pub each : EachPair pairs
