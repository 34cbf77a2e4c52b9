-- Numbers of w bytes each are read back from their bytes, and those read are what the bytes say. Assumes nothing.
use Prim.Native.Nat.{ℕ, zero, suc, ◌+◌, ◌*◌, ◌≤◌}
use native.Mathlib.Nat.{zero-mul, suc-mul}
use native.Mathlib.Omega.{arith}
use mathlib.Core.Path.{◌≡◌, refl, ap, ◌∙◌}
use mathlib.Core.List.{List, ◌++◌, append_assoc}
use lib.ListN.{length, take, drop, length-drop}
use lib.Seq.{drop_at, take-add}
use Rattle.octets.specs.Numbers.{Octets, Field}
use Rattle.octets.specs.Rows.{Joined, none, more}
use Rattle.octets.proofs.Bytes.{octets_drop}
use Rattle.octets.proofs.Fields.{field_sound, field_same}
use Rattle.aspath.specs.Wire.{numbers_in}
use Rattle.octets.proofs.Every.{total_same}
use Rattle.octets.proofs.Items.{joined_length}

-- as many numbers are read as were asked for
pub numbers_length : (w n : ℕ) (l : List ℕ) → length (numbers_in w n l) ≡ n
unfolding numbers_in
numbers_length w zero l = refl
numbers_length w (suc n) l = ap suc (numbers_length w n (drop w l))

-- joined numbers have w bytes each
pub numbers_bytes : (w : ℕ) {ns body : List ℕ} → Joined (Field w) ns body → length body ≡ length ns * w
numbers_bytes w {ns} j = joined_length (λ (n : ℕ). w) (λ n bytes x. x.long) j ∙ total_same w ns

-- joined numbers are read back, whatever follows them
pub numbers_same : (w : ℕ) {ns body : List ℕ} → Joined (Field w) ns body → (rest : List ℕ) → numbers_in w (length ns) (body ++ rest) ≡ ns
unfolding numbers_in
numbers_same w none rest = refl
numbers_same w (more {a = n} {more_items = ns} {bytes = bytes} {rest = left} x j e) rest =
    rw (e, append_assoc, field_same w x (left ++ rest), drop_at bytes (left ++ rest) w x.long, numbers_same w j rest)

-- the numbers read are those that the bytes are joined of
pub numbers_sound : (w n : ℕ) (l : List ℕ) → Octets l → n * w ≤ length l → Joined (Field w) (numbers_in w n l) (take (n * w) l)
unfolding numbers_in
numbers_sound w zero l o h = rw zero-mul none
numbers_sound w (suc n) l o h =
    let e : suc n * w ≡ w + n * w = omega (arith, suc-mul n w) in
    let k : n * w ≤ length (drop w l) = simp length-drop (omega arith) in
    more (field_sound w l o (omega arith)) (numbers_sound w n (drop w l) (octets_drop w o) k) (ap (λ (m : ℕ). take m l) e ∙ take-add w (n * w) l)
