-- `names::value_in` meets its contract: the rows one after another. Assumes nothing.
use Rattle.std.proofs.Common.{sym, ◌∙◌, arith}
use Rattle.std.proofs.lemmas.List.{drop_all}
use Rattle.names.specs.Tables.{found}
use Rattle.names.proofs.Held.{here, further}
use Rattle.names.proofs.value_in.Goals as goal

pub returns-then-same : goal.returns-then-same
returns-then-same g c = sym (c.loop-name.invariant ∙ here _ _ _ _ c.loop-name-test.true c.loop-name-item.is c.same.ensures c.if-same.true)

pub loop-name-preserved : goal.loop-name-preserved
loop-name-preserved g c = c.loop-name.invariant ∙ further _ _ _ _ c.loop-name-test.true c.loop-name-item.is c.same.ensures c.if-same.false

pub returns : goal.returns
unfolding found
returns g c = sym (c.loop-name.invariant ∙ rw (drop_all c.loop-name.name-index c.args.rows.now (omega arith)))
