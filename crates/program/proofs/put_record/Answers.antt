-- `program::put_record` meets its contract: one field after another. Assumes nothing.
use Rattle.octets.specs.Numbers.{bytes_of}
use Rattle.octets.proofs.Writes.{both}
use Rattle.program.specs.Layout.{laid}
use Rattle.program.proofs.put_record.Goals as goal

pub returns : goal.returns
unfolding laid bytes_of
returns c = let f = c.args.f in
    (both (bytes_of 1 f.kind) _ c.put_number-variant.ensures
    (both (bytes_of 1 f.variant) _ c.put_number-count.ensures
    (both (bytes_of 2 f.count) _ c.put_number-a.ensures
    (both (bytes_of 4 f.a) _ c.put_number-b.ensures
    (both (bytes_of 4 f.b) _ c.put_number-zeros.ensures
    c.put_number.ensures)))))
