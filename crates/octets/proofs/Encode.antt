-- Bytes for numbers: a number below the power of the width has bytes. Assumes nothing.
use Prim.Native.Nat.{ℕ, zero, suc, ◌+◌, ◌/◌, ◌%◌, ◌^◌, ◌≤◌, ◌<◌}
use native.Mathlib.Nat.{pow-suc, zero-add}
use native.Mathlib.Omega.{arith}
use mathlib.Core.Path.{◌≡◌, refl}
use mathlib.Core.List.{[], ◌∷◌}
use lib.ListN.{length, get_or, length-append}
use lib.Seq.{get_or_at}
use Rattle.octets.specs.Numbers.{Octets, Field, number_at, bytes_of}
use Rattle.octets.proofs.Bytes.{octets_none, octets_append}
use Rattle.octets.proofs.Numbers.{number_front}

-- they are w
pub bytes_length : (w n : ℕ) → length (bytes_of w n) ≡ w
unfolding bytes_of
bytes_length zero n = refl
bytes_length (suc w) n = simp length-append (omega (arith, bytes_length w (n / 256)))

-- a byte by itself is bytes
pub octets_one : (b : ℕ) → b < 256 → Octets (b ∷ [])
octets_one b h = record { below = below_at }
  where
    below_at : (i : ℕ) → get_or (b ∷ []) i 0 < 256
    below_at zero = h
    below_at (suc i) = omega arith

-- they are bytes
pub bytes_octets : (w n : ℕ) → Octets (bytes_of w n)
unfolding bytes_of
bytes_octets zero n = octets_none
bytes_octets (suc w) n = octets_append (bytes_octets w (n / 256)) (octets_one (n % 256) (omega arith))

-- and the number in them is the one that they were made of
pub bytes_value : (w n : ℕ) → n < 256 ^ w → number_at (bytes_of w n) 0 w ≡ n
unfolding bytes_of number_at
bytes_value zero n h = omega arith
bytes_value (suc w) n h =
    let x = bytes_of w (n / 256) in
    let k : n / 256 < 256 ^ w = omega (arith, pow-suc 256 w) in
    let f : 0 + w ≤ length x = omega (arith, bytes_length w (n / 256)) in
    rw (number_front x ((n % 256) ∷ []) 0 w f, bytes_value w (n / 256) k, zero-add, get_or_at x (n % 256) [] 0 w (bytes_length w (n / 256)))
    (omega arith)

-- a number below the power of the width has bytes
pub bytes_field : (w n : ℕ) → n < 256 ^ w → Field w n (bytes_of w n)
bytes_field w n h = record { long = bytes_length w n; octets = bytes_octets w n; value = bytes_value w n h }
