-- `aspath::loops` meets its contract.
-- The invariants: a loop of the path is one of the members left, and a return of n is one of those that the inner loop has left. Assumes nothing.
use mathlib.Core.Path.{sym, ap, ◌∙◌}
use mathlib.Core.Bool.{true, false}
use Rattle.aspath.specs.Members.{member_of}
use Rattle.aspath.specs.Loops.{returns_in, has_loop}
use Rattle.aspath.proofs.MeaningMembers.{same_held, other_held, alone_held}
use Rattle.aspath.proofs.Returns.{returns_end, returns_other, returns_found, returns_same, loop_none, loop_here, loop_later}
use Rattle.aspath.proofs.loops.Goals as goal

pub returns-in_default : goal.returns-in_default
returns-in_default c = sym (sym c.search.invariant ∙ ap has_loop c.in_default.ensures.steps.0 ∙ loop_none)

pub search-preserved : goal.search-preserved
search-preserved c = let r = c.loop-m in
    let n = c.in-Some.n in
    let f = sym r.invariant ∙ ap (returns_in r.other n) c.in-None.ensures.steps.0 ∙ returns_end n r.other in
    sym (loop_later (member_of n) _ (alone_held n _ ∙ f)) ∙ ap has_loop (sym c.in-Some.ensures.steps) ∙ c.search.invariant

pub loop-m-preserved-then-m-n : goal.loop-m-preserved-then-m-n
loop-m-preserved-then-m-n c = let r = c.loop-m in
    sym (returns_other _ _ _ r.other (other_held _ c.if-m-n.true)) ∙ ap (returns_in r.other _) (sym c.in-Some-m.ensures.steps) ∙ r.invariant

pub loop-m-preserved : goal.loop-m-preserved
loop-m-preserved c = rw c.if-other.false
    (sym (returns_same _ _ _ (same_held _ c.if-m-n.false)) ∙ ap (returns_in false _) (sym c.in-Some-m.ensures.steps)
    ∙ rw c.if-other.false at c.loop-m.invariant)

pub returns : goal.returns
returns c = let n = c.in-Some.n in
    let there = c.in-Some-m.ensures.steps in
    let f = sym (rw c.if-other.true at c.loop-m.invariant) ∙ ap (returns_in true n) there ∙ returns_found n _ _ (same_held _ c.if-m-n.false) in
    sym (sym c.search.invariant ∙ ap has_loop c.in-Some.ensures.steps ∙ loop_here (member_of n) _ (alone_held n _ ∙ f))
