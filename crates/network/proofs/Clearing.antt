-- Laws of an address with the bits past a length cleared, over the width. Assumes nothing.
use Prim.Native.Nat.{ℕ, ◌+◌, ◌-◌, ◌*◌, ◌/◌, ◌%◌, ◌^◌, ◌≤◌, ◌<◌}
use native.Mathlib.Nat.{div-mul-le_self, mul_assoc, mul-mod_left, zero-mul, mul-one, div-one, div-eq_of_lt, sub-zero, sub-eq-zero_of_le}
use native.Mathlib.Omega.{arith}
use mathlib.Core.Path.{◌≡◌, sym, ap, ◌∙◌}
use lib.Pow.{pow-add, shl_exact, shr_lt, shl-shr, shr-shr}
use Rattle.network.specs.Networks.{cleared}

-- two shifts at the address's width clear the bits: nothing is lost on the way back up
pub shifted : (w len a : ℕ) → len ≤ w → a < 2 ^ w → a / 2 ^ (w - len) * 2 ^ (w - len) % 2 ^ w ≡ cleared w len a
unfolding cleared
shifted w len a h f =
    let e : len + (w - len) ≡ w = omega arith in
    let g : a < 2 ^ (len + (w - len)) = rw e f in
    shl_exact len (w - len) w (shr_lt len (w - len) g) (omega arith)

-- a length that is the width or more clears nothing
pub cleared_all : (w len a : ℕ) → w ≤ len → cleared w len a ≡ a
unfolding cleared
cleared_all w len a h = rw (sub-eq-zero_of_le h, div-one, mul-one)

-- length 0 clears every bit
pub cleared_none : (w a : ℕ) → a < 2 ^ w → cleared w 0 a ≡ 0
unfolding cleared
cleared_none w a f = rw (sub-zero, div-eq_of_lt f, zero-mul)

-- clearing makes no address larger
pub cleared_le : (w len a : ℕ) → cleared w len a ≤ a
unfolding cleared
cleared_le w len a = div-mul-le_self a (2 ^ (w - len))

-- clearing again clears nothing more
pub cleared_again : (w len a : ℕ) → cleared w len (cleared w len a) ≡ cleared w len a
unfolding cleared
cleared_again w len a = rw (shl-shr (a / 2 ^ (w - len)) (w - len))

-- addresses that agree but for their last k bits agree where those are cleared
pub cleared_same : (w len k a b : ℕ) → len + k ≤ w → a / 2 ^ k ≡ b / 2 ^ k → cleared w len a ≡ cleared w len b
unfolding cleared
cleared_same w len k a b h e = ap (λ (q : ℕ). q * 2 ^ (w - len)) (further a ∙ ap (λ (q : ℕ). q / 2 ^ (w - len - k)) e ∙ sym (further b))
  where
    further : (x : ℕ) → x / 2 ^ (w - len) ≡ x / 2 ^ k / 2 ^ (w - len - k)
    further x =
        let j : k + (w - len - k) ≡ w - len = omega arith in
        sym (shr-shr x k (w - len - k) ∙ ap (λ (m : ℕ). x / 2 ^ m) j)

-- the last k bits of an address are 0 where they are cleared
pub cleared_low : (w len k a : ℕ) → len + k ≤ w → cleared w len a % 2 ^ k ≡ 0
unfolding cleared
cleared_low w len k a h =
    let j : w - len - k + k ≡ w - len = omega arith in
    rw (← j, pow-add 2 (w - len - k) k, ← mul_assoc) (mul-mod_left _ (2 ^ k))
