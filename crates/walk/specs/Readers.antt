-- The reader: it holds the lent bytes and its place.
use Rattle.std.specs.Prelude.{ℕ, zero, suc, List}
use Rattle.std.specs.Borrow.{Bor}
use Rattle.walk.specs.declared.Reader.{Reader}
use Rattle.walk.specs.declared.Step.{Step}
use Rattle.walk.specs.Steps.{step_at, place_after}

-- ---- what the code computes

-- a reader at the start of the bytes
abbrev pub fresh : Bor (List ℕ) → Reader
fresh bytes = record { bytes = bytes; at = 0 }

-- what stands at a reader's place
abbrev pub step_on : Reader → Step
step_on r = step_at r.bytes.now r.at

-- the reader after that step: the bytes stay, and the place is where the walk goes on
abbrev pub moved : Reader → Reader
moved r = record { bytes = r.bytes; at = place_after (step_on r) r.at }

-- ---- calls one after another

-- a fresh reader before the k-th call, counted from 0
unfoldable pub reader_of : Bor (List ℕ) → ℕ → Reader
reader_of bytes zero = fresh bytes
reader_of bytes (suc k) = moved (reader_of bytes k)
