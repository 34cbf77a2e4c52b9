-- `operand::item_fields` meets its contract, by the item. Assumes nothing.
use Rattle.program.specs.Layout.{item_fields, fields_of}
use Rattle.operand.proofs.item_fields.Goals as goal

pub returns-in-Number : goal.returns-in-Number
unfolding fields_of item_fields
returns-in-Number c = rw (c.lone_head.ensures, c.in-Number.is)

pub returns-in-Other : goal.returns-in-Other
unfolding fields_of item_fields
returns-in-Other c = rw (c.lone_head-in-Other.ensures, c.in-Other.is)

pub returns-in-Any : goal.returns-in-Any
unfolding fields_of item_fields
returns-in-Any c = rw (c.lone_head-in-Any.ensures, c.in-Any.is)
