-- `program::fields_at` meets its contract: each field is the number in its bytes. Assumes nothing.
use Rattle.program.specs.Layout.{fields_in}
use Rattle.program.proofs.fields_at.Goals as goal

pub returns : goal.returns
unfolding fields_in
returns c = rw (
  c.number.ensures,
  c.number-2.ensures,
  c.number-3.ensures,
  c.number-4.ensures,
  c.number-5.ensures,
  c.rest-record.ensures,
)
