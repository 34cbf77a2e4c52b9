-- Reading a number digit by digit, and its bound. Assumes nothing.
use Prim.Native.Nat.{ℕ, ◌+◌, ◌-◌, ◌*◌, ◌≤◌, ◌<◌}
use native.Mathlib.Omega.{arith}
use mathlib.Core.Path.{◌≡◌, refl, sym, ap, ◌∙◌}
use mathlib.Core.Bool.{Bool, true, false, ◌&&◌}
use mathlib.Core.List.{List, [], ◌∷◌}
use Rattle.std.specs.Prelude.{None, Some}
use borrow.Author.Tests.{le-leb}
use lib.Dec.{leb}
use lib.ListN.{length}
use Rattle.octets.specs.Choice.{pick}
use Rattle.std.specs.Char.{is_ascii_digit}
use Rattle.operand.specs.Fronts.{Read, read}
use Rattle.operand.specs.Decimals.{is_digit, digit_read, number_on, number}
use Rattle.operand.proofs.FrontReads.{Stops, end, other}
use Rattle.operand.proofs.Decimals.{digit_of, number_stop, number_none, digit_zero, digit_over, digit_taken, number_sound}
use Rattle.operand.proofs.Holding.{some_once, holds_some}

-- the digit at the front, by its byte
pub digit_at : {x : ℕ} {s r : List ℕ} → s ≡ x ∷ r → digit_read s ≡ pick (is_digit x) (Some (read (x - 48) r)) None
unfolding digit_read
digit_at e = rw e

-- a byte that is a digit stands at the front
pub record DigitFront (l : List ℕ) (d : Read ℕ) : Type 0 where
  pub byte : ℕ
  pub is : is_digit byte ≡ true
  pub joined : l ≡ byte ∷ d.rest
  pub value : d.value ≡ byte - 48

pub digit_front : (l : List ℕ) {d : Read ℕ} → digit_read l ≡ Some d → DigitFront l d
unfolding digit_read
digit_front [] e = let z : ◌≡◌ {A = ℕ} 0 1 = cc in absurd (omega arith)
digit_front (b ∷ bs) {d} e = go (is_digit b) refl e
  where
    go : (t : Bool) → is_digit b ≡ t → pick t (Some (read (b - 48) bs)) None ≡ Some d → DigitFront (b ∷ bs) d
    go true y f =
        let q : read (b - 48) bs ≡ d = some_once refl f in
        record { byte = b; is = y; joined = ap (λ (r : Read ℕ). b ∷ r.rest) q; value = ap (λ (r : Read ℕ). r.value) (sym q) }
    go false y f = let z : ◌≡◌ {A = ℕ} 0 1 = cc in absurd (omega arith)

-- no digit does
pub digit_stops : (l : List ℕ) → digit_read l ≡ None → Stops is_digit l
unfolding digit_read
digit_stops [] e = end
digit_stops (b ∷ bs) e = other (go (is_digit b) e)
  where
    go : (t : Bool) → pick t (Some (read (b - 48) bs)) None ≡ None → t ≡ false
    go true f = let z : ◌≡◌ {A = ℕ} 0 1 = cc in absurd (omega arith)
    go false f = refl

module _ (l : List ℕ) {d : Read ℕ} (e : digit_read l ≡ Some d) where
  -- a digit is at most 9
  pub digit_small : d.value ≤ 9
  digit_small = let x = digit_front l e in rw x.value (digit_of x.byte x.is).1

  -- fewer bytes stand behind it
  pub digit_shorter : length d.rest < length l
  digit_shorter = let x = digit_front l e in rw x.joined (omega arith)

  module _ (limit n : ℕ) where
    -- none stands behind a leading zero
    pub number_zero : n ≡ 0 → number_on limit false n l ≡ None
    number_zero z = let x = digit_front l e in rw (x.joined, z) (digit_zero limit false 0 x.byte d.rest x.is refl)

    -- nor is one read that leads to the limit
    pub number_over : limit ≤ 10 * n + d.value → number_on limit false n l ≡ None
    number_over h = let x = digit_front l e in rw x.joined (digit_over limit false n x.byte d.rest x.is (rw x.value at h))

    -- any other is
    pub number_more : (n ≡ 0 → ⊥) → 10 * n + d.value < limit → number_on limit false n l ≡ number_on limit false (10 * n + d.value) d.rest
    number_more f h =
        let x = digit_front l e in
        let m = digit_taken limit false n x.byte d.rest x.is (le-leb 1 n (omega arith)) (rw x.value at h) in
        rw x.joined (m ∙ ap (λ (k : ℕ). number_on limit false (10 * n + k) d.rest) (sym x.value))

  -- the first is a number
  pub number_first : (limit : ℕ) → 9 < limit → number limit l ≡ number_on limit false d.value d.rest
  unfolding number
  number_first limit h =
      let x = digit_front l e in
      let y = (digit_of x.byte x.is).1 in
      rw x.joined
      (digit_taken limit true 0 x.byte d.rest x.is refl (omega arith) ∙ ap (λ (k : ℕ). number_on limit false k d.rest) (omega (arith, x.value)))

-- without a digit there is no number
pub number_missing : (limit : ℕ) (l : List ℕ) → digit_read l ≡ None → number limit l ≡ None
number_missing limit l e = number_none limit (digit_stops l e)

-- and one that is begun ends
pub number_ends : (limit n : ℕ) (l : List ℕ) → digit_read l ≡ None → number_on limit false n l ≡ Some (read n l)
number_ends limit n l e = number_stop limit false n (digit_stops l e)

-- a number that was read is below its limit
pub number_below : (limit : ℕ) (l : List ℕ) {r : Read ℕ} → number limit l ≡ Some r → r.value < limit
number_below limit l e = (holds_some (number_sound limit l) e).says.below

-- the library's test of a digit is ours
pub ascii_digit : (b : ℕ) {r : Bool} → r ≡ is_ascii_digit b → is_digit b ≡ r
unfolding is_digit
ascii_digit b e = sym (e ∙ go (leb 48 b) (leb b 57))
  where
    go : (t u : Bool) → (t && u) ≡ pick t u false
    go true u = refl
    go false u = refl
