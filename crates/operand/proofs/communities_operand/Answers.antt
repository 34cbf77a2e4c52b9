-- `operand::communities_operand` meets its contract: one or more communities up to the end, and no blank there. Assumes nothing.
use native.Mathlib.Omega.{arith}
use mathlib.Core.Path.{sym, ◌∙◌}
use Rattle.operand.proofs.Said.{empty_true, empty_false}
use Rattle.operand.proofs.CommunitiesMeant.{broken_none, broken_left, broken_blank, communities_here, some_bytes}
use Rattle.operand.proofs.communities_operand.Goals as goal

pub returns-then-count-eq0 : goal.returns-then-count-eq0
returns-then-count-eq0 c = let n = c.count_listed-count.ensures in broken_none c.args.bytes.now n.count_is n.left c.if-count-eq0.true

pub returns-then-not-is_empty : goal.returns-then-not-is_empty
returns-then-not-is_empty c = let n = c.count_listed-count.ensures in
    broken_left c.args.bytes.now n.count_is n.left (empty_false _ c.is_empty.ensures c.if-not-is_empty.true)

pub overflow_sub-bytes : goal.overflow_sub-bytes
overflow_sub-bytes c = let x = some_bytes c.args.bytes.now c.count_listed-count.ensures.count_is c.if-count-eq0.false in omega arith

pub bounds-bytes-bytes : goal.bounds-bytes-bytes
bounds-bytes-bytes c = let x = some_bytes c.args.bytes.now c.count_listed-count.ensures.count_is c.if-count-eq0.false in omega arith

pub returns-then-is_blank : goal.returns-then-is_blank
returns-then-is_blank c = broken_blank c.args.bytes.now (sym c.is_blank.ensures ∙ c.if-is_blank.true)

pub returns : goal.returns
returns c = let n = c.count_listed-count.ensures in
    rw c.list_head.ensures
    (communities_here c.args.bytes.now n.count_is n.left c.if-count-eq0.false (empty_true _ c.is_empty.ensures c.if-not-is_empty.false) (sym c.is_blank.ensures ∙ c.if-is_blank.false))
