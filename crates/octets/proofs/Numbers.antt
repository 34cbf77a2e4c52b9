-- Laws of big-endian numbers, over the width. Assumes nothing.
use Prim.Native.Nat.{ℕ, zero, suc, ◌+◌, ◌*◌, ◌/◌, ◌^◌, ◌≤◌, ◌<◌}
use native.Mathlib.Nat.{pow-suc, add_assoc, add-zero, add-suc, mul-suc}
use lib.Pow.{pow-add, high}
use native.Mathlib.Numerals.{add-one}
use native.Mathlib.Omega.{arith}
use mathlib.Core.Path.{◌≡◌, refl, ap, ◌∙◌}
use mathlib.Core.List.{List, ◌++◌}
use lib.ListN.{length, take, drop, get_or, get_or-append, get_or-eq_default}
use lib.Seq.{get_or-drop, get_or-take, get_or-append-add}
use Rattle.octets.specs.Numbers.{Octets, number_at}

-- a number of bytes is below the power of its width
pub number_lt : (s : List ℕ) (at w : ℕ) → ((i : ℕ) → get_or s i 0 < 256) → number_at s at w < 256 ^ w
unfolding number_at
number_lt s at zero b = omega arith
number_lt s at (suc w) b = rw pow-suc (omega (arith, b (at + w), number_lt s at w b))

-- from the end on there are only zeros
pub number_past : (s : List ℕ) (at w : ℕ) → length s ≤ at → number_at s at w ≡ 0
unfolding number_at
number_past s at zero h = refl
number_past s at (suc w) h =
    let k : length s ≤ at + w = omega arith in
    rw (number_past s at w h, get_or-eq_default s 0 k) refl

-- a number of a part is that of the whole
pub number_drop : (s : List ℕ) (n at w : ℕ) → number_at (drop n s) at w ≡ number_at s (n + at) w
unfolding number_at
number_drop s n at zero = refl
number_drop s n at (suc w) = rw (number_drop s n at w, get_or-drop n s (at + w) 0, add_assoc n at w) refl

-- a number at a place is the first of what is left there
pub number_here : (s : List ℕ) (at w : ℕ) → number_at (drop at s) 0 w ≡ number_at s at w
number_here s at w = number_drop s at 0 w ∙ ap (λ (n : ℕ). number_at s n w) (add-zero at)

pub number_take : (s : List ℕ) (n at w : ℕ) → at + w ≤ n → number_at (take n s) at w ≡ number_at s at w
unfolding number_at
number_take s n at zero h = refl
number_take s n at (suc w) h =
    let k : at + w < n = omega arith in
    let j : at + w ≤ n = omega arith in
    rw (number_take s n at w j, get_or-take n s (at + w) 0 k) refl

-- in a joined list: within the front, and past it
pub number_front : (x y : List ℕ) (at w : ℕ) → at + w ≤ length x → number_at (x ++ y) at w ≡ number_at x at w
unfolding number_at
number_front x y at zero h = refl
number_front x y at (suc w) h =
    let k : at + w < length x = omega arith in
    let j : at + w ≤ length x = omega arith in
    rw (number_front x y at w j, get_or-append x y 0 (at + w) k) refl

pub number_after : (x y : List ℕ) (at w : ℕ) → number_at (x ++ y) (length x + at) w ≡ number_at y at w
unfolding number_at
number_after x y at zero = refl
number_after x y at (suc w) = rw (number_after x y at w, add_assoc, get_or-append-add x y (at + w) 0) refl

-- one more byte at the end
pub number_next : (s : List ℕ) (at w : ℕ) → number_at s at (w + 1) ≡ number_at s at w * 256 + get_or s (at + w) 0
unfolding number_at
number_next s at w = rw add-one refl

pub number_none : (s : List ℕ) (at : ℕ) → number_at s at 0 ≡ 0
unfolding number_at
number_none s at = refl

-- a number of i bytes, i below 4, has room for one byte more in 32 bits
pub room : (n i : ℕ) → i < 4 → n < 256 ^ i → n < 16777216
room n zero h k = omega arith
room n (suc zero) h k = omega arith
room n (suc (suc zero)) h k = omega arith
room n (suc (suc (suc zero))) h k = omega arith
room n (suc (suc (suc (suc i)))) h k = absurd (omega arith)

pub next_lt : (n i b : ℕ) → n < 256 ^ i → b < 256 → n * 256 + b < 256 ^ (i + 1)
next_lt n i b h k = rw (add-one, pow-suc) (omega arith)

-- a number of one byte is that byte
pub number_one : (s : List ℕ) (at : ℕ) → number_at s at 1 ≡ get_or s at 0
unfolding number_at
number_one s at = rw add-zero (omega arith)

-- a number of k bytes and m more
number_split : (s : List ℕ) (at k m : ℕ) → number_at s at (k + m) ≡ number_at s at k * 256 ^ m + number_at s (at + k) m
unfolding number_at
number_split s at k zero = rw (add-zero k) (omega arith)
number_split s at k (suc m) = rw (add-suc, number_split s at k m, pow-suc 256 m, add_assoc at k m) (omega arith)

-- the powers of 256 are those of 2
pub pow_bytes : (m : ℕ) → 256 ^ m ≡ 2 ^ (8 * m)
pow_bytes zero = refl
pow_bytes (suc m) = rw (pow-suc 256 m, mul-suc 8 m, pow-add 2 (8 * m) 8, pow_bytes m) refl

-- the bits above the last m bytes are those of the bytes before them
pub number_high : {s : List ℕ} → Octets s → (at k m : ℕ) → number_at s at (k + m) / 2 ^ (8 * m) ≡ number_at s at k
number_high {s} o at k m =
    rw (number_split s at k m, pow_bytes m) (high (number_at s at k) (8 * m) (rw pow_bytes at (number_lt s (at + k) m o.below)))
