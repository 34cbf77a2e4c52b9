-- Laws of lists of bytes: parts of bytes are bytes, and so are bytes joined. Assumes nothing.
use Prim.Native.Nat.{ℕ, ◌+◌, ◌-◌, ◌≤◌, ◌<◌}
use native.Mathlib.Nat.{lt_of_not-le}
use native.Mathlib.Decide.{dec_le}
use native.Mathlib.Omega.{arith}
use mathlib.Core.Path.{◌≡◌}
use mathlib.Core.List.{List, [], ◌++◌}
use lib.ListN.{length, get_or, take, drop, length-take, get_or-append, get_or-eq_default}
use lib.Seq.{get_or-take, get_or-drop, get_or-append-add}
use Rattle.octets.specs.Numbers.{Octets}

-- no bytes are bytes
pub octets_none : Octets []
octets_none = record { below = λ i. omega arith }

-- bytes without the first n are bytes
pub octets_drop : (n : ℕ) {l : List ℕ} → Octets l → Octets (drop n l)
octets_drop n {l} o = record { below = λ i. rw get_or-drop (o.below (n + i)) }

-- the first n of some bytes are bytes
pub octets_take : (n : ℕ) {l : List ℕ} → Octets l → Octets (take n l)
octets_take n {l} o = record { below = λ i. go i (dec_le n i) }
  where
    go : (i : ℕ) → Dec (n ≤ i) → get_or (take n l) i 0 < 256
    go i (yes h) = rw (get_or-eq_default (take n l) 0 {n = i} (simp length-take (omega arith))) (omega arith)
    go i (no f) = rw (get_or-take n l i 0 (lt_of_not-le f)) (o.below i)

-- bytes after bytes are bytes
pub octets_append : {x y : List ℕ} → Octets x → Octets y → Octets (x ++ y)
octets_append {x} {y} o p = record { below = λ i. go i (dec_le (length x) i) }
  where
    go : (i : ℕ) → Dec (length x ≤ i) → get_or (x ++ y) i 0 < 256
    go i (yes h) =
        let e : length x + (i - length x) ≡ i = omega arith in
        rw (← e, get_or-append-add) (p.below (i - length x))
    go i (no f) = rw (get_or-append x y 0 i (lt_of_not-le f)) (o.below i)
