-- Laws of a number in a field of bytes. Assumes nothing.
use Prim.Native.Nat.{ℕ, ◌^◌, ◌≤◌, ◌<◌}
use native.Mathlib.Omega.{arith}
use mathlib.Core.Path.{◌≡◌, ◌∙◌}
use mathlib.Core.List.{List, ◌++◌}
use lib.ListN.{length, take, length-take}
use Rattle.octets.specs.Numbers.{Octets, Field, number_at}
use Rattle.octets.proofs.Bytes.{octets_take}
use Rattle.octets.proofs.Numbers.{number_lt, number_front, number_take}

-- the number in the first w bytes, where there are so many
pub field_sound : (w : ℕ) (l : List ℕ) → Octets l → w ≤ length l → Field w (number_at l 0 w) (take w l)
field_sound w l o h = record {
  long = simp length-take (omega arith);
  octets = octets_take w o;
  value = number_take l w 0 w (omega arith);
}

-- a number is read from its bytes, whatever follows them
pub field_same : (w : ℕ) {n : ℕ} {bytes : List ℕ} → Field w n bytes → (rest : List ℕ) → number_at (bytes ++ rest) 0 w ≡ n
field_same w {n} {bytes} x rest = number_front bytes rest 0 w (omega (arith, x.long)) ∙ x.value

-- a number in w bytes is below the power of the width
pub field_below : {w n : ℕ} {bytes : List ℕ} → Field w n bytes → n < 256 ^ w
field_below {w} {n} {bytes} x = rw x.value at (number_lt bytes 0 w x.octets.below)
