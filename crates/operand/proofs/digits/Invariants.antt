-- `operand::digits` meets its contract. The loop's invariant: what is read behind the digits so far is what is read. Assumes nothing.
use Prim.Native.Nat.{◌<◌, ◌^◌}
use mathlib.Core.Path.{◌≡◌}
use lib.ListN.{drop}
use Rattle.operand.specs.Times.{any_digits}
use Rattle.operand.proofs.digits.Given as goal

abbrev pub invariant-loop-b : goal.invariant-loop-b
invariant-loop-b l = (l.n < 10 ^ l.b-index) × (any_digits l.n (drop l.b-index l.s) ≡ any_digits 0 l.s)
