-- The walk: its steps over lent bytes.
use Rattle.std.specs.Prelude.{ℕ, zero, suc, ◌+◌, ◌-◌, List, [], ◌∷◌, length, leb, ltb}
use Rattle.octets.specs.Choice.{pick}
use Rattle.header.specs.Header.{header_size, length_at}
use Rattle.octets.specs.Parts.{part_at}
use Rattle.walk.specs.declared.Step.{Step}
use Rattle.walk.specs.declared.Step.TheVariants.{Record, Done, Cut}

-- the answer that closes a walk: done, or cut with the bytes left
abbrev pub closing_of : List ℕ → Step
closing_of [] = Done
closing_of (b ∷ rest) = Cut (length (b ∷ rest))

-- ---- what the code computes

-- what stands at a place: nothing more; a cut record with the bytes left; or a record with its place and length
unfoldable pub step_at : List ℕ → ℕ → Step
step_at s at =
    pick (leb (length s) at) Done
    (pick (ltb (length s - at) header_size) (Cut (length s - at))
    (pick (ltb (length s - at - header_size) (length_at s at)) (Cut (length s - at))
    (Record at (header_size + length_at s at))))

-- the record that a step hands out
abbrev pub record_of : List ℕ → Step → List ℕ
record_of s (Record start len) = part_at s start len
record_of s Done = []
record_of s (Cut left) = []

-- where the walk goes on: past a record; after done or cut it stays
abbrev pub place_after : Step → ℕ → ℕ
place_after (Record start len) at = start + len
place_after Done at = at
place_after (Cut left) at = at

-- the place of the k-th step, counted from 0, and its answer
unfoldable pub place_of : List ℕ → ℕ → ℕ
place_of s zero = 0
place_of s (suc k) = place_after (step_at s (place_of s k)) (place_of s k)

abbrev pub step_of : List ℕ → ℕ → Step
step_of s k = step_at s (place_of s k)
