-- `-timestamp`: optional `>=`, `>`, `=`, `<`, `<=` (none means `=`), seconds below 2^32, optionally a dot and 1 to 6 digits.
use Rattle.std.specs.Prelude.{ℕ, ◌+◌, ◌-◌, ◌*◌, ◌^◌, ◌≤◌, ◌≡◌, Bool, List, [], ◌∷◌, ◌++◌, length, get_or, drop, eqb, leb, Option, None, Some}
use Rattle.octets.specs.Choice.{pick, onward}
use Rattle.program.specs.Readings.{Comparison, equal, below, at_most, above, at_least}
use Rattle.program.specs.Layout.{comparison_code}
use Rattle.operand.specs.Fronts.{Read, read}
use Rattle.operand.specs.Decimals.{Below, Digits, is_digit, number}

-- the seconds of a time are below it
abbrev pub seconds_limit : ℕ
seconds_limit = 2 ^ 32

-- the most digits of a fraction
abbrev pub fraction_digits : ℕ
fraction_digits = 6

-- `=`, `<`, `<=`, `>`, `>=`, or none for `=`
pub data ComparisonText : List ℕ → Comparison → Type 0 where
  unsigned : ComparisonText [] equal
  equals : ComparisonText (61 ∷ []) equal
  less : ComparisonText (60 ∷ []) below
  at_most_sign : ComparisonText (60 ∷ 61 ∷ []) at_most
  greater : ComparisonText (62 ∷ []) above
  at_least_sign : ComparisonText (62 ∷ 61 ∷ []) at_least

-- nothing, or a dot and 1 to 6 digits; in microseconds: `.5` is 500,000
pub data FractionText : List ℕ → ℕ → Type 0 where
  whole : FractionText [] 0
  fraction : {bs : List ℕ} {n : ℕ} → Digits 0 bs n → 1 ≤ length bs → length bs ≤ fraction_digits
      → FractionText (46 ∷ bs) (n * 10 ^ (fraction_digits - length bs))

-- a comparison, seconds below 2^32, and maybe a fraction
pub record TimeOperand (bs : List ℕ) (c : Comparison) (seconds micros : ℕ) : Type 0 where
  pub sign : List ℕ
  pub whole : List ℕ
  pub rest : List ℕ
  pub joined : bs ≡ sign ++ (whole ++ rest)
  pub sign_is : ComparisonText sign c
  pub whole_is : Below seconds_limit whole seconds
  pub rest_is : FractionText rest micros

-- ---- what the code computes

-- with `=` behind it or not
abbrev pub or_equal : Comparison → Comparison → List ℕ → Read Comparison
or_equal c d l = pick (eqb (get_or l 0 0) 61) (read d (drop 1 l)) (read c l)

-- the comparison at the front, by its first byte
unfoldable pub comparison : List ℕ → Read Comparison
comparison l =
    pick (eqb (get_or l 0 0) 61) (read equal (drop 1 l))
    (pick (eqb (get_or l 0 0) 60) (or_equal below at_most (drop 1 l)) (pick (eqb (get_or l 0 0) 62) (or_equal above at_least (drop 1 l)) (read equal l)))

-- the number that digits say after a number, with any zeros; none where another byte stands
unfoldable pub any_digits : ℕ → List ℕ → Option ℕ
any_digits n [] = Some n
any_digits n (b ∷ bs) = pick (is_digit b) (any_digits (10 * n + (b - 48)) bs) None

-- the microseconds of what stands behind the seconds
unfoldable pub fraction_of : List ℕ → Option ℕ
fraction_of [] = Some 0
fraction_of (x ∷ bs) =
    pick (eqb x 46)
    (pick (leb 1 (length bs))
    (pick (leb (length bs) fraction_digits) (onward (any_digits 0 bs) (λ n. Some (n * 10 ^ (fraction_digits - length bs)))) None) None) None

-- what an operand of `-timestamp` says
pub record Moment : Type 0 where
  pub comparison : Comparison
  pub seconds : ℕ
  pub micros : ℕ

-- a time and its comparison
abbrev pub moment : Comparison → ℕ → ℕ → Moment
moment c s m = record { comparison = c; seconds = s; micros = m }

-- the time that these bytes write
unfoldable pub time_operand : List ℕ → Option Moment
time_operand l =
    onward (number seconds_limit (comparison l).rest) (λ s. onward (fraction_of s.rest) (λ m.
    Some (moment (comparison l).value s.value m)))

-- ---- what answers of the code say

-- a comparison by its code
abbrev pub signed : Read Comparison → Read ℕ
signed r = read (comparison_code r.value) r.rest

-- one of two codes, the second where a byte was taken
abbrev pub either_code : ℕ → ℕ → Read Bool → Read ℕ
either_code c d r = read (pick r.value d c) r.rest
