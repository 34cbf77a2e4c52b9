-- `filter::named` meets its contract. Assumes nothing.
use mathlib.Core.Path.{sym, ◌∙◌}
use Rattle.filter.proofs.Tests.{no_operand, broken_operand, named_says}
use Rattle.filter.proofs.named.Goals as goal

pub returns-then-not-is_operand : goal.returns-then-not-is_operand
returns-then-not-is_operand c = rw c.at.ensures
    (no_operand c.requires.0 c.requires.1 c.next-t.ensures (sym c.is_operand.ensures ∙ c.if-not-is_operand.true))

pub returns-in_default : goal.returns-in_default
returns-in_default c = let operand = sym c.is_operand.ensures ∙ c.if-not-is_operand.false in
    rw c.at-in_default.ensures (broken_operand c.requires.0 c.requires.1 c.next-t.ensures operand c.bytes-bytes.ensures (sym c.in_default.is ∙ c.meaning.ensures))

pub returns : goal.returns
returns c = let operand = sym c.is_operand.ensures ∙ c.if-not-is_operand.false in
    named_says c.requires.0 c.requires.1 c.next-t.ensures operand c.bytes-bytes.ensures (sym c.in-Some.is ∙ c.meaning.ensures)
    c.next-next.ensures c.put_record-items.ensures c.put_items.ensures
