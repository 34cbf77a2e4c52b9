-- `octets::put_bytes` meets its contract. The loop's invariant: the bytes from `i` on are left to write. Assumes nothing.
use Prim.Native.Nat.{◌+◌}
use native.Mathlib.Omega.{arith}
use mathlib.Core.List.{[], ◌∷◌}
use lib.ListN.{get_or, drop}
use lib.Seq.{drop-cons}
use native.Mathlib.Numerals.{add-one}
use Rattle.octets.proofs.Writes.{moves}
use Rattle.octets.proofs.put_bytes.Goals as goal

pub loop-b-preserved : goal.loop-b-preserved
loop-b-preserved c = let s = c.args.bytes.now in
    let l = c.loop-b in
    moves (get_or s l.b-index 0 ∷ []) (drop (l.b-index + 1) s) (rw (add-one l.b-index) (rw (drop-cons s l.b-index 0 (omega arith)) at l.invariant)) c.put-place.ensures (omega arith)
