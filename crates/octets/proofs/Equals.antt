-- Laws of byte strings that are the same. Assumes nothing.
use Prim.Native.Nat.{ℕ}
use mathlib.Core.Path.{◌≡◌, refl}
use mathlib.Core.Bool.{true}
use mathlib.Core.List.{List}
use Rattle.std.proofs.lemmas.Slice.Eq.{bytes_eq-Decides}
use Rattle.octets.specs.Equal.{same}

-- byte strings found the same are equal
pub same_true : (x y : List ℕ) → same x y ≡ true → x ≡ y
unfolding same
same_true x y = (bytes_eq-Decides x y).0

-- each is the same as itself
pub same_itself : (x : List ℕ) → same x x ≡ true
unfolding same
same_itself x = (bytes_eq-Decides x x).1 refl
