-- Numbers in decimal without leading zeros.
use Rattle.std.specs.Prelude.{ℕ, ◌+◌, ◌-◌, ◌*◌, ◌^◌, ◌≤◌, ◌<◌, Bool, true, false, List, [], ◌∷◌, leb, ltb, Option, None, Some}
use Rattle.octets.specs.Choice.{pick}
use Rattle.octets.specs.Decimal.{Decimal}
use Rattle.operand.specs.Fronts.{Read, read, wholly}

-- the value of a byte is below it
abbrev pub byte_limit : ℕ
byte_limit = 256

-- a number that the code answers is below it
abbrev pub word_limit : ℕ
word_limit = 2 ^ 32

-- a decimal below a limit
pub record Below (limit : ℕ) (bs : List ℕ) (n : ℕ) : Type 0 where
  pub decimal : Decimal bs n
  pub below : n < limit

-- digits with any zeros: the number that they say after a number
pub data Digits : ℕ → List ℕ → ℕ → Type 0 where
  end : {n : ℕ} → Digits n [] n
  more : {n m : ℕ} {bs : List ℕ} (d : ℕ) → d ≤ 9 → Digits (10 * n + d) bs m → Digits n ((48 + d) ∷ bs) m

-- ---- what the code computes

-- `0` to `9`
unfoldable pub is_digit : ℕ → Bool
is_digit b = pick (leb 48 b) (leb b 57) false

-- the digit at the front
unfoldable pub digit_read : List ℕ → Option (Read ℕ)
digit_read [] = None
digit_read (b ∷ bs) = pick (is_digit b) (Some (read (b - 48) bs)) None

-- behind digits that say n, or none yet where fresh: none at a digit behind a leading zero, none from the limit on
unfoldable pub number_on : ℕ → Bool → ℕ → List ℕ → Option (Read ℕ)
number_on limit fresh n [] = pick fresh None (Some (read n []))
number_on limit fresh n (b ∷ bs) =
    pick (is_digit b)
    (pick (pick fresh true (leb 1 n)) (pick (ltb (10 * n + (b - 48)) limit) (number_on limit false (10 * n + (b - 48)) bs) None) None)
    (pick fresh None (Some (read n (b ∷ bs))))

-- the number at the front
unfoldable pub number : ℕ → List ℕ → Option (Read ℕ)
number limit l = number_on limit true 0 l

-- the number that all of the bytes write
unfoldable pub numeral : ℕ → List ℕ → Option ℕ
numeral limit l = wholly (number limit l)
