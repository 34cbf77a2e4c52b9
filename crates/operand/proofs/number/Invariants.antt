-- `operand::number` meets its contract. The loop's invariant: what is read behind the digits so far is what is read. Assumes nothing.
use Prim.Native.Nat.{◌<◌}
use mathlib.Core.Path.{◌≡◌}
use mathlib.Core.Bool.{false}
use lib.ListN.{length}
use Rattle.operand.specs.Decimals.{number_on, number}
use Rattle.operand.proofs.number.Given as goal

abbrev pub invariant-loop-d : goal.invariant-loop-d
invariant-loop-d l = (l.n < l.limit) × (number_on l.limit false l.n l.rest ≡ number l.limit l.s)

abbrev pub decreases-loop-d : goal.decreases-loop-d
decreases-loop-d l = length l.rest
