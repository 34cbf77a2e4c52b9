-- Times: a comparison, seconds and a fraction; decided, and at most one. Assumes nothing.
use Prim.Native.Nat.{ℕ, ◌+◌, ◌-◌, ◌*◌}
use native.Mathlib.Omega.{arith}
use mathlib.Core.Path.{◌≡◌, refl, ap, ◌∙◌}
use mathlib.Core.Bool.{true, false}
use Rattle.std.specs.Prelude.{Option, Some}
use mathlib.Core.List.{List, [], ◌∷◌, ◌++◌}
use lib.Dec.{eqb, leb}
use lib.ListN.{length, get_or, drop}
use borrow.Author.Tests.{eqb-true, leb-true, le-leb}
use Rattle.program.specs.Readings.{Comparison, below, at_most, above, at_least}
use Rattle.operand.specs.Decimals.{Digits, end, more, is_digit}
use Rattle.operand.proofs.Holding.{AnswerHolds, nothing, held, holds_onward, holds_pick}
use Rattle.operand.proofs.FrontReads.{Got, got_pick, Stops, end, other, first_is}
use Rattle.operand.proofs.Decimals.{digit_is, digit_of, number_sound, number_complete}
use Rattle.operand.proofs.Blanks.{decimal_first}
use Rattle.operand.specs.Times.{seconds_limit, fraction_digits, ComparisonText, unsigned, equals, less, at_most_sign, greater, at_least_sign, FractionText, whole, fraction, TimeOperand, or_equal, comparison, any_digits, fraction_of, Moment, moment, time_operand}
use Rattle.operand.specs.Fronts.{read}

-- ---- the comparison

-- a comparison that was read stands at the front
comparison_sound : (l : List ℕ) → Got ComparisonText l (comparison l)
unfolding comparison
comparison_sound l =
    got_pick (eqb (get_or l 0 0) 61) (λ e. record { text = 61 ∷ []; joined = first_is 61 l refl e; says = equals })
    (λ u. got_pick (eqb (get_or l 0 0) 60) (λ e. signed 60 below at_most (first_is 60 l refl e) less at_most_sign)
    (λ v. got_pick (eqb (get_or l 0 0) 62) (λ e. signed 62 above at_least (first_is 62 l refl e) greater at_least_sign)
    (λ w. record { text = []; joined = refl; says = unsigned })))
  where
    signed : (b : ℕ) (c d : Comparison) → l ≡ b ∷ drop 1 l → ComparisonText (b ∷ []) c → ComparisonText (b ∷ 61 ∷ []) d → Got ComparisonText l (or_equal c d (drop 1 l))
    signed b c d j x y =
        got_pick (eqb (get_or (drop 1 l) 0 0) 61) (λ e. record { text = b ∷ 61 ∷ []; joined = j ∙ ap (λ (r : List ℕ). b ∷ r) (first_is 61 (drop 1 l) refl e); says = y })
        (λ e. record { text = b ∷ []; joined = j; says = x })

-- no comparison goes on into a digit
comparison_complete : {sign text : List ℕ} {c : Comparison} → ComparisonText sign c → ((b : ℕ) → is_digit b ≡ false → eqb 0 b ≡ false → eqb (get_or text 0 0) b ≡ false) → comparison (sign ++ text) ≡ read c text
unfolding comparison is_digit
comparison_complete unsigned f = rw (f 61 refl refl, f 60 refl refl, f 62 refl refl)
comparison_complete equals f = refl
comparison_complete less f = rw (f 61 refl refl)
comparison_complete at_most_sign f = refl
comparison_complete greater f = rw (f 61 refl refl)
comparison_complete at_least_sign f = refl

-- ---- the fraction

-- a number that was read is written so
digits_sound : (n : ℕ) (l : List ℕ) → AnswerHolds (Digits n l) (any_digits n l)
unfolding any_digits
digits_sound n [] = held end
digits_sound n (b ∷ bs) = holds_pick (is_digit b) (λ e. go e (digits_sound (10 * n + (b - 48)) bs)) (λ e. nothing)
  where
    go : is_digit b ≡ true → {o : Option ℕ} → AnswerHolds (Digits (10 * n + (b - 48)) bs) o → AnswerHolds (Digits n (b ∷ bs)) o
    go e nothing = nothing
    go e (held {a} h) =
        let x : Digits n ((48 + (b - 48)) ∷ bs) a = more (b - 48) (digit_of b e).1 h in
        held (rw (digit_of b e).0 at x)

-- and every number is read
digits_complete : {n m : ℕ} {l : List ℕ} → Digits n l m → any_digits n l ≡ Some m
unfolding any_digits
digits_complete end = refl
digits_complete (more {n} d h x) = let e : 48 + d - 48 ≡ d = omega arith in rw (digit_is d h, e) (digits_complete x)

-- a fraction that was read is written so
fraction_sound : (l : List ℕ) → AnswerHolds (FractionText l) (fraction_of l)
unfolding fraction_of
fraction_sound [] = held whole
fraction_sound (x ∷ bs) =
    holds_pick (eqb x 46) (λ e. holds_pick (leb 1 (length bs)) (λ f. holds_pick (leb (length bs) fraction_digits) (λ g.
    holds_onward (digits_sound 0 bs) (λ n h. held (rw (eqb-true x 46 e) (fraction h (leb-true 1 (length bs) f) (leb-true (length bs) fraction_digits g))))) (λ g. nothing)) (λ f. nothing)) (λ e. nothing)

-- and every fraction is read
fraction_complete : {l : List ℕ} {n : ℕ} → FractionText l n → fraction_of l ≡ Some n
unfolding fraction_of
fraction_complete whole = refl
fraction_complete (fraction {bs} h f g) = rw (le-leb 1 (length bs) f, le-leb (length bs) fraction_digits g, digits_complete h)

-- ---- the time

-- a time that was read is meant
pub time_sound : (l : List ℕ) → AnswerHolds (λ (x : Moment). TimeOperand l x.comparison x.seconds x.micros) (time_operand l)
unfolding time_operand
time_sound l =
    let g = comparison_sound l in
    holds_onward (number_sound seconds_limit (comparison l).rest) (λ s h. holds_onward (fraction_sound s.rest) (λ m f.
    held (record { sign = g.text; whole = h.text; rest = s.rest; joined = rw (← h.joined) g.joined; sign_is = g.says; whole_is = h.says; rest_is = f })))

-- no fraction starts with a digit
fraction_stops : {l : List ℕ} {n : ℕ} → FractionText l n → Stops is_digit l
unfolding is_digit
fraction_stops whole = end
fraction_stops (fraction h f g) = other refl

-- no time is missed
pub time_complete : {l : List ℕ} {c : Comparison} {s m : ℕ} → TimeOperand l c s m → time_operand l ≡ Some (moment c s m)
unfolding time_operand
time_complete x =
    rw (
      x.joined,
      comparison_complete {text = x.whole ++ x.rest} x.sign_is (decimal_first x.whole_is.decimal x.rest),
      number_complete x.whole_is (fraction_stops x.rest_is),
      fraction_complete x.rest_is,
    )
