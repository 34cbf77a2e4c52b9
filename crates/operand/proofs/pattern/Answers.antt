-- `operand::pattern` meets its contract, by the parts of a pattern. Assumes nothing.
use native.Mathlib.Omega.{arith}
use mathlib.Core.Path.{ap}
use lib.ListN.{length}
use Rattle.operand.specs.Listed.{listed_read}
use Rattle.operand.specs.declared.Listed.TheVariants.{Items}
use Rattle.operand.proofs.Said.{empty_true, empty_false}
use Rattle.operand.proofs.PatternMeant.{ends_small, opened_shorter, broken_behind, broken_empty, pattern_here}
use Rattle.operand.proofs.ListedReads.{listed_reads}
use Rattle.operand.proofs.PartedFronts.{parted_few}
use Rattle.operand.proofs.pattern.Goals as goal

pub count_listed-count-requires : goal.count_listed-count-requires
count_listed-count-requires c = rw c.opened-caret.ensures.left (omega (arith, opened_shorter c.args.bytes.now))

pub returns-then-not-is_empty : goal.returns-then-not-is_empty
unfolding listed_read
returns-then-not-is_empty c =
    let o = c.opened-caret.ensures in
    let n = c.count_listed-count.ensures in
    broken_behind c.args.bytes.now o.left o.starts n.count_is n.left c.optional-dollar.ensures c.past_blanks.ensures (empty_false _ c.is_empty.ensures c.if-not-is_empty.true)

pub overflow_add-variant : goal.overflow_add-variant
overflow_add-variant c =
    let o = c.opened-caret in
    omega (
      arith,
      c.ends_code-variant.ensures,
      ends_small o.result.0 c.optional-dollar.result.0,
      c.count_listed-count.ensures.count_is,
      parted_few (listed_reads Items) o.result.1.now,
      ap length o.ensures.left,
      opened_shorter c.args.bytes.now,
    )

pub returns-then-variant-count-eq0 : goal.returns-then-variant-count-eq0
unfolding listed_read
returns-then-variant-count-eq0 c =
    let o = c.opened-caret.ensures in
    let n = c.count_listed-count.ensures in
    broken_empty c.args.bytes.now o.left o.starts n.count_is n.left c.optional-dollar.ensures c.past_blanks.ensures (rw c.ends_code-variant.ensures at c.if-variant-count-eq0.true)

pub returns : goal.returns
unfolding listed_read
returns c =
    let o = c.opened-caret.ensures in
    let n = c.count_listed-count.ensures in
    rw (c.list_head.ensures, c.ends_code-variant.ensures)
    (pattern_here c.args.bytes.now o.left o.starts n.count_is n.left c.optional-dollar.ensures c.past_blanks.ensures
    (empty_true _ c.is_empty.ensures c.if-not-is_empty.false) (rw c.ends_code-variant.ensures at c.if-variant-count-eq0.false))
