-- `aspath::well_formed` meets its contract. The loop's invariant: the body is whole just where the rest of it is. Assumes nothing.
use Prim.Native.Nat.{◌-◌, ◌≤◌}
use mathlib.Core.Path.{◌≡◌}
use lib.ListN.{length, drop}
use Rattle.octets.specs.Rows.{whole}
use Rattle.aspath.specs.Wire.{width_bytes, segment_size}
use Rattle.aspath.proofs.well_formed.Given as goal

abbrev pub invariant-loop-size : goal.invariant-loop-size
invariant-loop-size l = let size = segment_size (width_bytes l.width) in (l.at ≤ length l.s) × (whole size (drop l.at l.s) ≡ whole size l.s)

abbrev pub decreases-loop-size : goal.decreases-loop-size
decreases-loop-size l = length l.s - l.at
