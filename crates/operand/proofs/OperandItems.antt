-- An item of a pattern, what may stand behind it, and what closes the items. Assumes nothing.
use Prim.Native.Nat.{ℕ, ◌≤◌}
use native.Mathlib.Omega.{arith}
use mathlib.Core.Path.{◌≡◌, refl}
use Rattle.std.specs.Prelude.{Some}
use mathlib.Core.List.{List, [], ◌∷◌, ◌++◌}
use lib.ListN.{length}
use Rattle.aspath.specs.declared.Item.{Item}
use Rattle.token.specs.Next.{is_blank}
use Rattle.operand.proofs.Holding.{AnswerHolds, held, holds_onward, holds_else}
use Rattle.operand.proofs.FrontReads.{Got, Stops, end, other, after_sound}
use Rattle.operand.proofs.AsNumberLaws.{in_as_number, BehindAs, gap_behind_as, as_sound, as_complete, as_none, as_some, as_stops}
use Rattle.operand.proofs.Blanks.{digit_no_blank}
use Rattle.operand.proofs.PartedLaws.{ReadsOne, Closes}
use Rattle.operand.specs.Patterns.{ItemText, a_number, not_it, any, item_read}
use Rattle.operand.specs.Fronts.{read, after}
use Rattle.operand.specs.Decimals.{is_digit}

-- an item that was read stands at the front
item_sound : (l : List ℕ) → AnswerHolds (Got ItemText l) (item_read l)
unfolding item_read
item_sound l =
    holds_else (holds_onward (as_sound l) (λ n g. held (record { text = g.text; joined = g.joined; says = a_number g.says })))
    (holds_else (holds_onward (after_sound 46 l) (λ r e. held (record { text = 46 ∷ []; joined = e; says = any })))
    (holds_onward (after_sound 33 l) (λ r e. holds_onward (as_sound r) (λ n g. held (record { text = 33 ∷ g.text; joined = rw (← g.joined) e; says = not_it g.says })))))

-- and every item is read before what may stand behind an AS number
item_complete : {text rest : List ℕ} {i : Item} → ItemText text i → BehindAs rest → item_read (text ++ rest) ≡ Some (read i rest)
unfolding item_read after is_digit
item_complete (a_number b) s = rw (as_complete b s)
item_complete {rest = rest} (not_it {bs} b) s = rw (as_none {l = 33 ∷ bs ++ rest} (other refl), as_complete b s)
item_complete {rest = rest} any s = rw (as_none {l = 46 ∷ rest} (other refl))

-- no item starts with a blank
item_front : {text : List ℕ} {i : Item} → ItemText text i → (rest : List ℕ) → Stops is_blank (text ++ rest)
unfolding is_blank
item_front (a_number b) rest = as_stops is_blank digit_no_blank b rest
item_front (not_it b) rest = other refl
item_front any rest = other refl

-- an item has a byte or more
item_some : {text : List ℕ} {i : Item} → ItemText text i → 1 ≤ length text
item_some (a_number b) = as_some b
item_some (not_it b) = omega arith
item_some any = omega arith

-- the reader of an item
pub item_reads : ReadsOne ItemText item_read BehindAs
item_reads = record { sound = item_sound; complete = item_complete; some_byte = item_some; front = item_front; gap_behind = gap_behind_as }

-- nothing closes the items
pub end_closes : Closes item_read BehindAs []
unfolding item_read after
end_closes = record { no_blank = end; behind = end; no_more = rw (as_none end) }

-- and so does `$`
pub dollar_closes : (l : List ℕ) → Closes item_read BehindAs (36 ∷ l)
unfolding item_read after is_digit in_as_number is_blank
dollar_closes l = record { no_blank = other refl; behind = other refl; no_more = rw (as_none {l = 36 ∷ l} (other refl)) }
