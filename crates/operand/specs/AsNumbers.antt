-- AS numbers: decimal without leading zeros, below 2^32.
use Rattle.std.specs.Prelude.{ℕ, ◌^◌, List, Option}
use Rattle.operand.specs.Fronts.{Read, wholly}
use Rattle.operand.specs.Decimals.{Below, number}

-- every AS number is below it
abbrev pub as_limit : ℕ
as_limit = 2 ^ 32

-- how an AS number is written
pub data AsNumber : List ℕ → ℕ → Type 0 where
  plain : {bs : List ℕ} {n : ℕ} → Below as_limit bs n → AsNumber bs n

-- ---- what the code computes

-- the AS number at the front
unfoldable pub as_number : List ℕ → Option (Read ℕ)
as_number l = number as_limit l

-- the AS number that all of the bytes write
unfoldable pub as_numeral : List ℕ → Option ℕ
as_numeral l = wholly (as_number l)
