-- Fractions: digits and powers of ten. Assumes nothing.
use Prim.Native.Nat.{ℕ, zero, suc, ◌+◌, ◌-◌, ◌*◌, ◌^◌, ◌≤◌, ◌<◌}
use native.Mathlib.Nat.{pow-succ', pow-le-pow_right}
use native.Mathlib.Numerals.{add-one}
use native.Mathlib.Omega.{arith}
use mathlib.Core.Path.{◌≡◌, refl}
use mathlib.Core.Bool.{Bool, true, false}
use mathlib.Core.List.{List, [], ◌∷◌}
use Rattle.std.specs.Prelude.{Some, None}
use lib.ListN.{length, get_or, drop}
use lib.Seq.{drop-cons}
use Rattle.operand.specs.Decimals.{is_digit}
use lib.Dec.{eqb, leb}
use Rattle.octets.specs.Choice.{pick, onward}
use Rattle.operand.specs.Fronts.{after}
use Rattle.operand.specs.Times.{fraction_digits, any_digits, fraction_of}
use Rattle.operand.proofs.Decimals.{digit_of}
use Rattle.operand.proofs.Holding.{some_once}

-- six digits say less than a million
pub six_digits : {n k : ℕ} → n < 10 ^ k → k ≤ fraction_digits → n < 1000000
six_digits {n} {k} h l = omega (arith, pow-le-pow_right {n = 10} (omega arith) {i = k} {j = fraction_digits} l)

-- a digit more
pub more_digits : (k n d : ℕ) → d ≤ 9 → n < 10 ^ k → 10 * n + d < 10 ^ (k + 1)
more_digits k n d l h = rw (add-one, pow-succ' 10 k) (omega arith)

-- a digit at a place, and another byte
module _ (s : List ℕ) (n i : ℕ) (h : i < length s) where
  pub digits_onward : is_digit (get_or s i 0) ≡ true → any_digits n (drop i s) ≡ any_digits (10 * n + (get_or s i 0 - 48)) (drop (i + 1) s)
  unfolding any_digits
  digits_onward e = rw (drop-cons s i 0, e, add-one)

  pub digits_other : is_digit (get_or s i 0) ≡ false → any_digits n (drop i s) ≡ None
  unfolding any_digits
  digits_other e = rw (drop-cons s i 0, e)

-- so many digits in microseconds are less than a million
pub scaled_fits : (n k : ℕ) → k ≤ fraction_digits → n < 10 ^ k → n * 10 ^ (fraction_digits - k) < 1000000
scaled_fits n zero h l = omega arith
scaled_fits n (suc zero) h l = omega arith
scaled_fits n (suc (suc zero)) h l = omega arith
scaled_fits n (suc (suc (suc zero))) h l = omega arith
scaled_fits n (suc (suc (suc (suc zero)))) h l = omega arith
scaled_fits n (suc (suc (suc (suc (suc zero))))) h l = omega arith
scaled_fits n (suc (suc (suc (suc (suc (suc zero)))))) h l = omega arith
scaled_fits n (suc (suc (suc (suc (suc (suc (suc k))))))) h l = absurd (omega arith)

-- what so many digits say is below a power of ten
any_below : (l : List ℕ) (n k : ℕ) {m : ℕ} → n < 10 ^ k → any_digits n l ≡ Some m → m < 10 ^ (k + length l)
unfolding any_digits
any_below [] n k {m} h e = let z : n ≡ m = some_once refl e in let a : k + 0 ≡ k = omega arith in rw (a, ← z) h
any_below (b ∷ bs) n k {m} h e = go (is_digit b) refl (λ l f. any_below bs (10 * n + (b - 48)) (k + 1) l f) e
  where
    go : (t : Bool) → is_digit b ≡ t → (10 * n + (b - 48) < 10 ^ (k + 1) → any_digits (10 * n + (b - 48)) bs ≡ Some m → m < 10 ^ (k + 1 + length bs))
        → pick t (any_digits (10 * n + (b - 48)) bs) None ≡ Some m → m < 10 ^ (k + length (b ∷ bs))
    go true y ih f =
        let a : k + length (b ∷ bs) ≡ k + 1 + length bs = omega arith in
        rw a (ih (more_digits k n (b - 48) (digit_of b y).1 h) f)
    go false y ih f = let z : ◌≡◌ {A = ℕ} 0 1 = cc in absurd (omega arith)

pub digits_below : (l : List ℕ) {m : ℕ} → any_digits 0 l ≡ Some m → m < 10 ^ length l
digits_below l {m} e = let z : 0 + length l ≡ length l = omega arith in rw z at (any_below l 0 0 (omega arith) e)

-- a fraction without bytes, and one with a dot
pub no_fraction : (l : List ℕ) → length l ≡ 0 → fraction_of l ≡ Some 0
unfolding fraction_of
no_fraction [] h = refl
no_fraction (x ∷ xs) h = absurd (omega arith)

pub fraction_behind : (l : List ℕ) → (length l ≡ 0 → ⊥)
    → fraction_of l
    ≡ onward (after 46 l) (λ bs. pick (leb 1 (length bs))
    (pick (leb (length bs) fraction_digits) (onward (any_digits 0 bs) (λ n. Some (n * 10 ^ (fraction_digits - length bs)))) None)
    None)
unfolding fraction_of after
fraction_behind [] f = absurd (f refl)
fraction_behind (x ∷ bs) f = go (eqb x 46)
  where
    go : (t : Bool)
        → pick t (pick (leb 1 (length bs)) (pick (leb (length bs) fraction_digits) (onward (any_digits 0 bs) (λ n. Some (n * 10 ^ (fraction_digits - length bs)))) None) None) None
        ≡ onward (pick t (Some bs) None) (λ bs. pick (leb 1 (length bs))
        (pick (leb (length bs) fraction_digits) (onward (any_digits 0 bs) (λ n. Some (n * 10 ^ (fraction_digits - length bs)))) None)
        None)
    go true = refl
    go false = refl
