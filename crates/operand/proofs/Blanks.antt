-- Blanks by a test, and where runs of blanks, of digits and of letters stop. Assumes nothing.
use Prim.Native.Nat.{ℕ, ◌+◌, ◌-◌, ◌≤◌}
use native.Mathlib.Omega.{arith}
use mathlib.Core.Path.{◌≡◌, refl, sym, ◌∙◌}
use mathlib.Core.Bool.{Bool, true, false}
use mathlib.Core.List.{List, ◌++◌}
use lib.Dec.{eqb}
use lib.ListN.{length, get_or, drop}
use lib.Seq.{drop-drop}
use borrow.Author.Tests.{ne_eqb}
use Rattle.octets.proofs.Choices.{never}
use Rattle.token.specs.Texts.{Blank, space, tab, line_feed}
use Rattle.octets.specs.Decimal.{Decimal}
use Rattle.octets.specs.Lists.{Every, every_none, every_more}
use Rattle.octets.proofs.Every.{every_weaker}
use Rattle.token.proofs.ByteTests.{blank_sound, blank_complete, letter_blank, letter_sound}
use Rattle.operand.proofs.FrontReads.{Run, Stops, other, first_other}
use Rattle.operand.proofs.Decimals.{decimal_run, decimal_some}
use Rattle.operand.specs.Decimals.{is_digit}
use Rattle.token.specs.Next.{is_blank, is_letter, run, run_end, part}
use Rattle.token.proofs.Runs.{run_long, end_within}
use Rattle.operand.specs.Fronts.{cut}

-- bytes that pass are blanks
pub blanks_sound : {l : List ℕ} → Run is_blank l → Every Blank l
blanks_sound h = every_weaker blank_sound h

-- and blanks pass
pub blanks_complete : {l : List ℕ} → Every Blank l → Run is_blank l
blanks_complete h = every_weaker (λ b k. blank_complete k) h

-- a test that p passes and q doesn't tells bytes apart
pub apart : (p : ℕ → Bool) {x : ℕ} (b : ℕ) → p x ≡ true → p b ≡ false → eqb x b ≡ false
apart p {x} b e f = ne_eqb x b (λ z. never (sym f ∙ (rw z at e)))

-- no digit is a blank
pub digit_no_blank : (b : ℕ) → is_digit b ≡ true → is_blank b ≡ false
unfolding is_blank is_digit
digit_no_blank b e = rw (apart is_digit 32 e refl, apart is_digit 9 e refl, apart is_digit 10 e refl)

-- no letter is
pub letter_no_blank : (b : ℕ) → is_letter b ≡ true → is_blank b ≡ false
letter_no_blank b e = letter_blank b (letter_sound b e)

-- a digit is a letter
pub digit_letter : (b : ℕ) → is_digit b ≡ true → is_letter b ≡ true
unfolding is_letter is_digit
digit_letter b e = rw (apart is_digit 40 e refl, apart is_digit 41 e refl, apart is_digit 33 e refl, apart is_digit 39 e refl, digit_no_blank b e)

-- what no blank passes stops before blanks
gap_stops : (p : ℕ → Bool) → p 32 ≡ false → p 9 ≡ false → p 10 ≡ false → {gap : List ℕ} → Every Blank gap → 1 ≤ length gap → (rest : List ℕ) → Stops p (gap ++ rest)
gap_stops p s t f every_none h rest = absurd (omega arith)
gap_stops p s t f (every_more space bs) h rest = other s
gap_stops p s t f (every_more tab bs) h rest = other t
gap_stops p s t f (every_more line_feed bs) h rest = other f

-- so do digits
pub blank_stops : {gap : List ℕ} → Every Blank gap → 1 ≤ length gap → (rest : List ℕ) → Stops is_digit (gap ++ rest)
unfolding is_digit
blank_stops g h rest = gap_stops is_digit refl refl refl g h rest

-- and letters
pub blank_stops_letters : {gap : List ℕ} → Every Blank gap → 1 ≤ length gap → (rest : List ℕ) → Stops is_letter (gap ++ rest)
unfolding is_letter is_blank
blank_stops_letters g h rest = gap_stops is_letter refl refl refl g h rest

-- what no byte of a run passes stops at the run
pub run_stops : (p q : ℕ → Bool) → ((b : ℕ) → p b ≡ true → q b ≡ false) → {text : List ℕ} → Run p text → 1 ≤ length text → (rest : List ℕ) → Stops q (text ++ rest)
run_stops p q f every_none h rest = absurd (omega arith)
run_stops p q f (every_more e es) h rest = other (f _ e)

-- what no digit passes stops at a decimal
pub decimal_stops : (p : ℕ → Bool) → ((b : ℕ) → is_digit b ≡ true → p b ≡ false) → {text : List ℕ} {n : ℕ} → Decimal text n → (rest : List ℕ) → Stops p (text ++ rest)
decimal_stops p f x rest = run_stops is_digit p f (decimal_run x) (decimal_some x) rest

-- so a decimal does not start with what is no digit
pub decimal_first : {text : List ℕ} {n : ℕ} → Decimal text n → (rest : List ℕ) (b : ℕ) → is_digit b ≡ false → eqb 0 b ≡ false → eqb (get_or (text ++ rest) 0 0) b ≡ false
decimal_first x rest b e z = first_other b z (decimal_stops (λ (y : ℕ). eqb y b) (λ y f. apart is_digit b f e) x rest)

-- ---- where a run from a place on ends

module _ (p : ℕ → Bool) (s : List ℕ) (at : ℕ) {r : ℕ} (e : r ≡ run_end p s at) where
  -- what is left there
  pub run_left : drop r s ≡ (cut p (drop at s)).rest
  unfolding cut
  run_left = rw e (sym (drop-drop (run p (drop at s)) at s))

  -- the bytes up to there
  pub run_taken : part s at r ≡ (cut p (drop at s)).value
  unfolding cut
  run_taken =
      let z : r - at ≡ run p (drop at s) = omega arith in
      rw z

-- where the blanks do
module _ (s : List ℕ) (at : ℕ) {r : ℕ} (e : r ≡ run_end is_blank s at) where
  -- what is left there
  pub blanks_left : drop r s ≡ (cut is_blank (drop at s)).rest
  blanks_left = run_left is_blank s at e

  -- there are as many as places between
  pub blanks_count : length (cut is_blank (drop at s)).value + at ≡ r
  unfolding cut
  blanks_count = omega (arith, run_long is_blank (drop at s))

  -- within the bytes
  pub blanks_within : at ≤ length s → r ≤ length s
  blanks_within h = rw e (end_within is_blank s at h)
