-- Laws of numbers and their bytes: bytes are those of the number in them. Assumes nothing.
use Prim.Native.Nat.{ℕ, zero, suc, ◌+◌, ◌*◌, ◌/◌, ◌%◌, ◌≤◌, ◌<◌}
use native.Mathlib.Omega.{arith}
use mathlib.Core.Path.{◌≡◌, refl, sym, ◌∙◌}
use mathlib.Core.List.{List, [], ◌∷◌, ◌++◌}
use lib.ListN.{length, get_or, take, drop, length-drop}
use lib.Seq.{take-suc, take-add, drop-drop, get_or-drop}
use Rattle.octets.specs.Numbers.{Octets, number_at, bytes_of}

-- one byte more
bytes_more : (w n b : ℕ) → b < 256 → bytes_of (suc w) (n * 256 + b) ≡ bytes_of w n ++ (b ∷ [])
unfolding bytes_of
bytes_more w n b h =
    let e : (n * 256 + b) / 256 ≡ n = omega arith in
    let f : (n * 256 + b) % 256 ≡ b = omega arith in
    rw (e, f)

-- the w bytes at a place are those of the number in them
pub number_bytes : {l : List ℕ} → Octets l → (at w : ℕ) → at + w ≤ length l → bytes_of w (number_at l at w) ≡ take w (drop at l)
unfolding bytes_of number_at
number_bytes o at zero h = refl
number_bytes {l} o at (suc w) h =
    let k : w < length (drop at l) = simp length-drop (omega arith) in
    bytes_more w (number_at l at w) (get_or l (at + w) 0) (o.below (at + w))
    ∙ rw (number_bytes o at w (omega arith), take-suc (drop at l) w 0 k, get_or-drop at l w 0)

-- bytes at a place, and those after them
pub parts_join : (l : List ℕ) (at v w : ℕ) → take v (drop at l) ++ take w (drop (at + v) l) ≡ take (v + w) (drop at l)
parts_join l at v w = rw (← drop-drop v at l) (sym (take-add v w (drop at l)))
