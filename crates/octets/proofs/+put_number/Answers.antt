-- `octets::put_number` meets its contract: the bytes of n / 256, then the last one. Assumes nothing.
use native.Mathlib.Omega.{arith}
use mathlib.Core.Path.{◌≡◌}
use mathlib.Core.List.{List, [], ◌∷◌}
use lib.ListN.{length}
use lib.Dec.{leb}
use borrow.Author.Tests.{le-leb}
use Rattle.octets.specs.Choice.{pick}
use Rattle.octets.specs.Numbers.{widest_number, bytes_of}
use Rattle.octets.specs.Writes.{last_place, Written}
use Rattle.octets.proofs.Writes.{both, nothing}
use Prim.Native.Nat.{ℕ, suc, ◌-◌, ◌/◌, ◌%◌, ◌≤◌}
use Rattle.octets.proofs.+put_number.Goals as goal

-- no bytes
none_written : (l : List ℕ) (at w n : ℕ) → w ≡ 0 → at ≤ last_place → length l ≤ last_place → Written l at (pick (leb w widest_number) (bytes_of w n) []) l at
unfolding bytes_of
none_written l at w n e h s = rw e (nothing l at h s)

-- a width of one or more, at most the widest: the bytes before the last, then that
then_last : {l m o : List ℕ} {at p q : ℕ} (w v n : ℕ) → w ≡ suc v → w ≤ widest_number → Written l at (pick (leb v widest_number) (bytes_of v (n / 256)) []) m p → Written m p ((n % 256) ∷ []) o q
    → Written l at (pick (leb w widest_number) (bytes_of w n) []) o q
unfolding bytes_of
then_last w v n e h x y = rw (le-leb w widest_number h, e) (both (bytes_of v (n / 256)) ((n % 256) ∷ []) (rw (le-leb v widest_number (omega arith)) at x) y)

pub returns-then-width-eq0 : goal.returns-then-width-eq0
returns-then-width-eq0 t c = let a = c.args in
    let h : length a.out.now ≤ last_place = omega arith in
    none_written a.out.now a.at a.width a.n c.if-width-eq0.true (omega arith) h

pub returns : goal.returns
returns t c = let s = c in
    let z = c.if-width-eq0.false in
    then_last s.args.width (s.args.width - 1) s.args.n (omega arith) (omega (arith, c.if-width-gt-WIDEST_NUMBER.false))
    c.put_number-next.ensures c.put.ensures
