-- `operand::put_items` meets its contract: the list of the operand, if there is one. Assumes nothing.
use native.Mathlib.Omega.{arith}
use borrow.Author.Tests.{lt-ltb, le-ltb}
use mathlib.Core.Path.{◌≡◌, sym, ap, ◌∙◌}
use mathlib.Core.List.{[]}
use lib.ListN.{length}
use Rattle.octets.proofs.Writes.{starts, ends}
use Rattle.program.specs.Layout.{encode_all}
use Rattle.token.specs.Texts.{text_limit}
use Rattle.operand.specs.Listed.{list_records, listed_records}
use Rattle.operand.specs.Tests.{meaning, operand_meaning, following_meant}
use Rattle.operand.proofs.put_items.Goals as goal

pub returns-then-bytes-gt-TEXT_LIMIT : goal.returns-then-bytes-gt-TEXT_LIMIT
unfolding operand_meaning encode_all
returns-then-bytes-gt-TEXT_LIMIT c =
    rw (lt-ltb text_limit (length c.args.bytes.now) c.if-bytes-gt-TEXT_LIMIT.true) (ends (starts _ _ [] (omega arith) (omega arith)))

pub returns-in_default : goal.returns-in_default
unfolding operand_meaning encode_all
returns-in_default c = let a = c.args in
    let e : following_meant (meaning a.name a.bytes.now) ≡ [] = sym c.list_of.ensures ∙ ap list_records c.in_default.is in
    rw (le-ltb text_limit (length a.bytes.now) c.if-bytes-gt-TEXT_LIMIT.false, e) (ends (starts _ _ [] (omega arith) (omega arith)))

pub returns : goal.returns
unfolding operand_meaning
returns c = let a = c.args in
    let e : following_meant (meaning a.name a.bytes.now) ≡ listed_records c.in-Some.list c.in-Some.s.now = sym c.list_of.ensures ∙ ap list_records c.in-Some.is in
    rw (le-ltb text_limit (length a.bytes.now) c.if-bytes-gt-TEXT_LIMIT.false, e) c.put_listed.ensures
