-- `operand::put_listed` meets its contract. The loop's invariant: those left are left to write. Assumes nothing.
use native.Mathlib.Omega.{arith}
use mathlib.Core.Path.{ap}
use mathlib.Core.List.{map}
use Rattle.octets.proofs.Writes.{moves, ends}
use Rattle.program.specs.Records.{item}
use Rattle.program.specs.Layout.{encode, encode_all}
use Rattle.operand.specs.Left.{listed_left}
use Rattle.operand.proofs.put_listed.Goals as goal

pub loop-found-preserved : goal.loop-found-preserved
unfolding encode_all
loop-found-preserved c =
    moves (encode (item c.in-Some.found)) (encode_all (map item (listed_left c.next.new.self).value))
    (rw (ap (λ r. map item r.value) c.in-Some.ensures.steps.0) at c.loop-found.invariant)
    (rw c.item_fields.ensures at c.put_record-place.ensures) (omega arith)

pub returns : goal.returns
unfolding encode_all
returns c = ends (rw (ap (λ r. map item r.value) c.in-None.ensures.steps.0) at c.loop-found.invariant)
