-- `octets::number` meets its contract. The loop's invariant: n is the number in the first i bytes. Assumes nothing.
use Prim.Native.Nat.{◌<◌, ◌^◌}
use mathlib.Core.Path.{◌≡◌}
use Rattle.octets.specs.Numbers.{number_at}
use Rattle.octets.proofs.number.Given as goal

abbrev pub invariant-loop-i : goal.invariant-loop-i
invariant-loop-i l = (l.n ≡ number_at l.s l.at l.i) × (l.n < 256 ^ l.i)
