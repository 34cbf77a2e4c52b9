-- `operand::count_listed` meets its contract. The loop's invariant: those counted and those left are all of them. Assumes nothing.
use Prim.Native.Nat.{◌+◌}
use mathlib.Core.Path.{◌≡◌}
use lib.ListN.{length}
use Rattle.operand.specs.Parted.{all_parted}
use Rattle.operand.specs.Listed.{listed_read}
use Rattle.operand.specs.Left.{listed_left}
use Rattle.operand.proofs.count_listed.Given as goal

abbrev pub invariant-loop-behind : goal.invariant-loop-behind
invariant-loop-behind l = let all = all_parted (listed_read l.fn.list) l.s in let ahead = listed_left l.behind-iterator in
    (l.count + length ahead.value ≡ length all.value) × (ahead.rest ≡ all.rest) × (l.rest ≡ l.behind-iterator.rest.now)
