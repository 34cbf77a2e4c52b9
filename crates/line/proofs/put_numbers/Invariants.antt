-- `line::put_numbers` meets its contract. The loop's invariant: the numbers from the i-th on are left to write. Assumes nothing.
use Prim.Native.Nat.{◌+◌, ◌-◌, ◌*◌}
use mathlib.Core.List.{map}
use lib.ListN.{drop}
use Rattle.octets.specs.Decimal.{decimal}
use Rattle.octets.proofs.Writes.{Midst}
use Rattle.aspath.specs.Wire.{numbers_in}
use Rattle.line.specs.Text.{following}
use Rattle.line.proofs.put_numbers.Given as goal

abbrev pub invariant-loop-i : goal.invariant-loop-i
invariant-loop-i l = Midst
    l.initial.out l.initial.place (following l.separator (map decimal (numbers_in l.w (l.count - 1) (drop (l.start + l.w) l.s))))
    l.out l.place (following l.separator (map decimal (numbers_in l.w (l.count - l.i) (drop (l.start + l.i * l.w) l.s))))
