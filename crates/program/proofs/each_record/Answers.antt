-- `program::each_record` meets its contract. Assumes nothing.
use native.Mathlib.Omega.{arith}
use mathlib.Core.Path.{sym, ◌∙◌}
use Rattle.program.proofs.Walks.{each_wrong, each_further, each_end}
use Rattle.program.proofs.each_record.Goals as goal

pub returns-then-not-test : goal.returns-then-not-test
returns-then-not-test g c = λ holds answers. let l = c.loop-rest in
    sym (each_wrong holds l.rest.now (omega arith) (sym (answers _ _ c.test.ensures) ∙ c.if-not-test.true)) ∙ l.invariant holds answers

pub loop-rest-preserved : goal.loop-rest-preserved
loop-rest-preserved g c = λ holds answers. let l = c.loop-rest in
    rw (c.rest-rest.ensures)
    (sym (each_further holds l.rest.now (omega arith) (sym (answers _ _ c.test.ensures) ∙ c.if-not-test.false)) ∙ l.invariant holds answers)

pub returns : goal.returns
returns g c = λ holds answers. let l = c.loop-rest in
    sym (each_end holds l.rest.now (omega arith)) ∙ l.invariant holds answers
