-- Reading a decimal below a limit: the longest run of digits at the front, and all of the bytes. Assumes nothing.
use Prim.Native.Nat.{ℕ, ◌+◌, ◌*◌, ◌-◌, ◌≤◌, ◌<◌}
use native.Mathlib.Nat.{zero-add}
use native.Mathlib.Omega.{arith}
use mathlib.Core.Path.{◌≡◌, refl, ap, ◌∙◌}
use mathlib.Core.Bool.{Bool, true, false}
use Rattle.std.specs.Prelude.{None, Some}
use mathlib.Core.List.{List, [], ◌∷◌, ◌++◌, append_assoc}
use lib.Dec.{leb, ltb}
use lib.ListN.{length, length-append}
use borrow.Author.Tests.{leb-true, le-leb, ltb-true, lt-ltb, le-ltb}
use Rattle.octets.specs.Choice.{pick}
use Rattle.octets.specs.Lists.{every_none, every_more}
use Rattle.octets.proofs.Choices.{each, alike}
use Rattle.operand.specs.Fronts.{read}
use Rattle.octets.specs.Decimal.{Decimal, digit, more}
use Rattle.octets.proofs.Every.{every_append}
use Rattle.operand.specs.Decimals.{Below, is_digit, number_on, number, numeral}
use Rattle.operand.proofs.Holding.{AnswerHolds, nothing, held, holds_pick}
use Rattle.operand.proofs.FrontReads.{Got, Run, Stops, end, other, wholly_sound, wholly_complete}

-- ---- digits

-- each digit passes
pub digit_is : (d : ℕ) → d ≤ 9 → is_digit (48 + d) ≡ true
unfolding is_digit
digit_is d h = simp (le-leb 48 (48 + d) (omega arith), le-leb (48 + d) 57 (omega arith))

-- and what passes is a digit
pub digit_of : (b : ℕ) → is_digit b ≡ true → (48 + (b - 48) ≡ b) × (b - 48 ≤ 9)
unfolding is_digit
digit_of b e =
    let p = each (leb 48 b) (leb b 57) e in
    let low : 48 ≤ b = leb-true 48 b p.0 in
    let high : b ≤ 57 = leb-true b 57 p.1 in
    (omega arith, omega arith)

-- the bytes of a decimal are digits
pub decimal_run : {bs : List ℕ} {n : ℕ} → Decimal bs n → Run is_digit bs
decimal_run (digit d h) = every_more (digit_is d h) every_none
decimal_run (more d p m h e) = rw e (every_append (decimal_run p) (every_more (digit_is d h) every_none))

-- there is one at least
pub decimal_some : {bs : List ℕ} {n : ℕ} → Decimal bs n → 1 ≤ length bs
decimal_some (digit d h) = omega arith
decimal_some (more {bs} d x m h e) = rw (e, length-append bs) (omega arith)

-- ---- one step

-- without a digit the number stands
pub number_stop : (limit : ℕ) (fresh : Bool) (n : ℕ) {l : List ℕ} → Stops is_digit l → number_on limit fresh n l ≡ pick fresh None (Some (read n l))
unfolding number_on
number_stop limit fresh n end = refl
number_stop limit fresh n (other e) = rw e

module _ (limit : ℕ) (fresh : Bool) (n b : ℕ) (bs : List ℕ) (e : is_digit b ≡ true) where
  -- a digit behind a leading zero is refused
  pub digit_zero : pick fresh true (leb 1 n) ≡ false → number_on limit fresh n (b ∷ bs) ≡ None
  unfolding number_on
  digit_zero h = rw (e, h)

  -- so is one that leads to the limit
  pub digit_over : limit ≤ 10 * n + (b - 48) → number_on limit fresh n (b ∷ bs) ≡ None
  unfolding number_on
  digit_over h = rw (e, le-ltb (10 * n + (b - 48)) limit h) (alike (pick fresh true (leb 1 n)) refl refl)

  -- any other is taken
  pub digit_taken : pick fresh true (leb 1 n) ≡ true → 10 * n + (b - 48) < limit → number_on limit fresh n (b ∷ bs) ≡ number_on limit false (10 * n + (b - 48)) bs
  unfolding number_on
  digit_taken h k = rw (e, h, lt-ltb (10 * n + (b - 48)) limit k)

-- ---- at the front of a text

-- digits that are taken go on with the decimal
on_sound : (limit : ℕ) (bs : List ℕ) (n : ℕ) (ys : List ℕ) → Below limit bs n → AnswerHolds (Got (Below limit) (bs ++ ys)) (number_on limit false n ys)
unfolding number_on
on_sound limit bs n [] x = held (record { text = bs; joined = refl; says = x })
on_sound limit bs n (y ∷ ys) x =
    holds_pick (is_digit y)
    (λ e. holds_pick (leb 1 n) (λ m. holds_pick (ltb (10 * n + (y - 48)) limit) (λ u. rw (append_assoc bs (y ∷ []) ys) at (on_sound limit (bs ++ (y ∷ [])) (10 * n + (y - 48)) ys (longer e m u))) (λ u. nothing)) (λ m. nothing))
    (λ e. held (record { text = bs; joined = refl; says = x }))
  where
    longer : is_digit y ≡ true → leb 1 n ≡ true → ltb (10 * n + (y - 48)) limit ≡ true → Below limit (bs ++ (y ∷ [])) (10 * n + (y - 48))
    longer e m u =
        record { decimal = more {l = bs ++ (y ∷ [])} (y - 48) x.decimal (leb-true 1 n m) (digit_of y e).1 (rw (digit_of y e).0); below = ltb-true (10 * n + (y - 48)) limit u }

-- a number that was read stands at the front
pub number_sound : (limit : ℕ) (l : List ℕ) → AnswerHolds (Got (Below limit) l) (number limit l)
unfolding number number_on
number_sound limit [] = nothing
number_sound limit (b ∷ bs) =
    holds_pick (is_digit b) (λ e. holds_pick (ltb (10 * 0 + (b - 48)) limit) (λ u. on_sound limit (b ∷ []) (10 * 0 + (b - 48)) bs (first e u)) (λ u. nothing)) (λ e. nothing)
  where
    first : is_digit b ≡ true → ltb (10 * 0 + (b - 48)) limit ≡ true → Below limit (b ∷ []) (10 * 0 + (b - 48))
    first e u =
        let x : Decimal ((48 + (b - 48)) ∷ []) (b - 48) = digit (b - 48) (digit_of b e).1 in
        record { decimal = rw (zero-add (b - 48)) (rw (digit_of b e).0 at x); below = ltb-true (10 * 0 + (b - 48)) limit u }

-- a decimal below the limit is read through, whatever follows
number_through : {limit n : ℕ} {bs : List ℕ} → Decimal bs n → n < limit → (ys : List ℕ) → number limit (bs ++ ys) ≡ number_on limit false n ys
unfolding number
number_through {limit} (digit d l) h ys =
    digit_taken limit true 0 (48 + d) ys (digit_is d l) refl (omega arith) ∙ ap (λ (k : ℕ). number_on limit false k ys) (omega arith)
number_through {limit} (more {bs} {n = n} d p m l e) h ys =
    rw (e, append_assoc bs ((48 + d) ∷ []) ys)
    (number_through p (omega arith) ((48 + d) ∷ ys) ∙ (digit_taken limit false n (48 + d) ys (digit_is d l) (le-leb 1 n m) (omega arith) ∙ ap (λ (k : ℕ). number_on limit false k ys) (omega arith)))

-- and every number before no digit is read
pub number_complete : {limit n : ℕ} {text rest : List ℕ} → Below limit text n → Stops is_digit rest → number limit (text ++ rest) ≡ Some (read n rest)
number_complete {limit} {n} {rest = rest} x s = number_through x.decimal x.below rest ∙ number_stop limit false n s

-- where no digit stands, there is no number
pub number_none : (limit : ℕ) {l : List ℕ} → Stops is_digit l → number limit l ≡ None
unfolding number
number_none limit s = number_stop limit true 0 s

-- ---- the whole of a text

-- a number that was read is written so and below the limit
pub numeral_sound : (limit : ℕ) (l : List ℕ) → AnswerHolds (Below limit l) (numeral limit l)
unfolding numeral
numeral_sound limit l = wholly_sound (number_sound limit l)

-- and every such number is read
pub numeral_complete : {limit n : ℕ} {l : List ℕ} → Below limit l n → numeral limit l ≡ Some n
unfolding numeral
numeral_complete {limit} {n} {l} x = wholly_complete (number limit) l (number_complete x end)
