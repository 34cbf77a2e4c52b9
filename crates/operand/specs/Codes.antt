-- `-type` and `-attr`: a name or a code 0 to 255.
use Rattle.std.specs.Prelude.{ℕ, List, Option}
use Rattle.octets.specs.Choice.{or_else}
use Rattle.names.specs.Tables.{Row, In, found}
use Rattle.operand.specs.Decimals.{byte_limit, Below, numeral}

-- a name of the table, or a code 0 to 255
pub data CodeOperand (names : List (Row ℕ)) (bs : List ℕ) : ℕ → Type 0 where
  by_name : {c : ℕ} → In names bs c → CodeOperand names bs c
  by_code : {n : ℕ} → Below byte_limit bs n → CodeOperand names bs n

-- ---- what the code computes

-- the code of a name, or the code itself
unfoldable pub coded : List (Row ℕ) → List ℕ → Option ℕ
coded names l = or_else (found names l) (numeral byte_limit l)
