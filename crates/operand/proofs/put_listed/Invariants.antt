-- `operand::put_listed` meets its contract. The loop's invariant: those left are left to write. Assumes nothing.
use mathlib.Core.List.{map}
use Rattle.octets.proofs.Writes.{Midst}
use Rattle.program.specs.Layout.{encode_all}
use Rattle.program.specs.Records.{item}
use Rattle.operand.specs.Listed.{listed_records}
use Rattle.operand.specs.Left.{listed_left}
use Rattle.operand.proofs.put_listed.Given as goal

abbrev pub invariant-loop-found : goal.invariant-loop-found
invariant-loop-found l =
    Midst l.initial.out l.initial.place (encode_all (listed_records l.fn.list l.s))
    l.out l.place (encode_all (map item (listed_left l.found-iterator).value))
