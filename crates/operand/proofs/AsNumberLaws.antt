-- AS numbers: decided, at the front of a text and as the whole of one, and what may stand behind one. Assumes nothing.
use Prim.Native.Nat.{ℕ, ◌≤◌, ◌<◌}
use mathlib.Core.Path.{◌≡◌}
use mathlib.Core.Bool.{Bool, true, false}
use Rattle.std.specs.Prelude.{None, Some}
use mathlib.Core.List.{List, ◌++◌}
use lib.ListN.{length}
use Rattle.octets.specs.Lists.{Every}
use Rattle.token.specs.Texts.{Blank}
use Rattle.token.specs.Next.{is_blank}
use Rattle.operand.specs.Fronts.{read}
use Rattle.operand.specs.Decimals.{is_digit}
use Rattle.operand.specs.AsNumbers.{as_limit, AsNumber, plain, as_number, as_numeral}
use Rattle.operand.proofs.Holding.{AnswerHolds, holds_map}
use Rattle.operand.proofs.FrontReads.{Got, Stops, end, wholly_sound, wholly_complete}
use Rattle.operand.proofs.Decimals.{decimal_some, number_sound, number_complete, number_none}
use Rattle.operand.proofs.Blanks.{digit_no_blank, blank_stops, decimal_stops}
use Rattle.operand.proofs.PartedLaws.{ReadsOne}

-- ---- what may stand behind one

-- the bytes that an AS number may go on with
unfoldable pub in_as_number : ℕ → Bool
in_as_number b = is_digit b

-- nothing, or a byte that is none of these
abbrev pub BehindAs : List ℕ → Type 0
BehindAs l = Stops in_as_number l

-- blanks
pub gap_behind_as : {gap : List ℕ} → Every Blank gap → 1 ≤ length gap → (rest : List ℕ) → BehindAs (gap ++ rest)
unfolding in_as_number
gap_behind_as g h rest = blank_stops g h rest

-- ---- at the front of a text

-- an AS number that was read stands there
pub as_sound : (l : List ℕ) → AnswerHolds (Got AsNumber l) (as_number l)
unfolding as_number
as_sound l = holds_map (λ r g. record { text = g.text; joined = g.joined; says = plain g.says }) (number_sound as_limit l)

-- and every one is read where what follows may stand behind it
pub as_complete : {text rest : List ℕ} {n : ℕ} → AsNumber text n → BehindAs rest → as_number (text ++ rest) ≡ Some (read n rest)
unfolding as_number in_as_number
as_complete (plain b) s = number_complete b s

-- there is none where no digit stands
pub as_none : {l : List ℕ} → Stops is_digit l → as_number l ≡ None
unfolding as_number
as_none s = number_none as_limit s

-- ---- its bytes and its number

-- it has one byte or more
pub as_some : {text : List ℕ} {n : ℕ} → AsNumber text n → 1 ≤ length text
as_some (plain b) = decimal_some b.decimal

-- the first is a digit: what no digit passes stops there
pub as_stops : (p : ℕ → Bool) → ((b : ℕ) → is_digit b ≡ true → p b ≡ false) → {text : List ℕ} {n : ℕ} → AsNumber text n → (rest : List ℕ) → Stops p (text ++ rest)
as_stops p f (plain b) rest = decimal_stops p f b.decimal rest

-- the reader of one
pub as_reads : ReadsOne AsNumber as_number BehindAs
as_reads = record { sound = as_sound; complete = as_complete; some_byte = as_some; front = as_stops is_blank digit_no_blank; gap_behind = gap_behind_as }

-- it is below the limit
pub as_below : {text : List ℕ} {n : ℕ} → AsNumber text n → n < as_limit
as_below (plain b) = b.below

-- ---- the whole of a text

-- an AS number that was read is written so
pub as_numeral_sound : (l : List ℕ) → AnswerHolds (AsNumber l) (as_numeral l)
unfolding as_numeral
as_numeral_sound l = wholly_sound (as_sound l)

-- and every one is read
pub as_numeral_complete : {l : List ℕ} {n : ℕ} → AsNumber l n → as_numeral l ≡ Some n
unfolding as_numeral
as_numeral_complete {l} x = wholly_complete as_number l (as_complete x end)
