-- `truth::matches_some` meets its contract. The loop's invariant: the items match in the path just where they match in the members left.
use mathlib.Core.Path.{refl, sym, ap, ◌∙◌}
use mathlib.Core.Bool.{not}
use Rattle.aspath.specs.Patterns.{matches_here, matches_some}
use Rattle.truth.specs.Matching.{items_in}
use Rattle.truth.proofs.PathReads.{ended, stepped, some_here, some_none, some_next}
use Rattle.truth.proofs.matches_some.Goals as goal

pub loop-from-init : goal.loop-from-init
loop-from-init c = refl

pub returns-then-is_none : goal.returns-then-is_none
returns-then-is_none c = let a = c.args in
    let is = items_in a.count a.records.now in
    let e = ended c.loop-from.from c.next.new.self c.next.result c.next.ensures.steps (c.is_none.ensures ∙ ap not c.if-is_none.true) in
    let h = ap (matches_here a.end is) (sym e) ∙ sym c.matches_here.ensures.0 ∙ c.loop-from-test.true in
    sym (some_none a.end is h) ∙ ap (matches_some a.end is) (sym e) ∙ c.loop-from.invariant

pub loop-from-preserved : goal.loop-from-preserved
loop-from-preserved c = let a = c.args in
    let is = items_in a.count a.records.now in
    let e = (stepped c.loop-from.from c.next.new.self c.next.result c.next.ensures.steps (c.is_none.ensures ∙ ap not c.if-is_none.false)).1 in
    let h = ap (matches_here a.end is) (sym e) ∙ sym c.matches_here.ensures.0 ∙ c.loop-from-test.true in
    sym (some_next a.end is _ _ h) ∙ ap (matches_some a.end is) (sym e) ∙ c.loop-from.invariant

pub returns : goal.returns
returns c = let a = c.args in
    sym (some_here a.end (items_in a.count a.records.now) _ (sym c.matches_here.ensures.0 ∙ c.loop-from-test.false)) ∙ c.loop-from.invariant
