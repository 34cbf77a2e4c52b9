-- `line::put_path` meets its contract. The loop's invariant: the segments from `p` on are left to write. Assumes nothing.
use Prim.Native.Nat.{◌-◌, ◌≤◌}
use mathlib.Core.List.{map}
use lib.ListN.{length, drop}
use Rattle.octets.proofs.Writes.{Midst}
use Rattle.aspath.specs.Wire.{width_bytes, segments_of}
use Rattle.line.specs.Text.{space, following, segment_text}
use Rattle.line.proofs.put_path.Given as goal

abbrev pub invariant-loop-size : goal.invariant-loop-size
invariant-loop-size l = (l.p ≤ length l.s)
    × Midst
    l.initial.out l.initial.place (following space (map segment_text (segments_of (width_bytes l.width) (drop l.initial.p l.s))))
    l.out l.place (following space (map segment_text (segments_of (width_bytes l.width) (drop l.p l.s))))

abbrev pub decreases-loop-size : goal.decreases-loop-size
decreases-loop-size l = length l.s - l.p
