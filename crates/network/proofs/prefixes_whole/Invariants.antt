-- `network::prefixes_whole` meets its contract. The loop's invariant: what is left is prefixes to its end just where the section is. Assumes nothing.
use Prim.Native.Nat.{◌-◌, ◌≤◌}
use mathlib.Core.Path.{◌≡◌}
use lib.ListN.{length, drop}
use Rattle.octets.specs.Rows.{whole}
use Rattle.network.specs.Networks.{address_bits}
use Rattle.network.specs.Wire.{prefix_size}
use Rattle.network.proofs.prefixes_whole.Given as goal

abbrev pub invariant-loop-size : goal.invariant-loop-size
invariant-loop-size l = (l.at ≤ length l.s) × (whole (prefix_size address_bits) (drop l.at l.s) ≡ whole (prefix_size address_bits) l.s)

abbrev pub decreases-loop-size : goal.decreases-loop-size
decreases-loop-size l = length l.s - l.at
