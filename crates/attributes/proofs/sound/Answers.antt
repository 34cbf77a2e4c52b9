-- `attributes::sound` meets its contract. The loop's invariant: the attributes left are those from the end of the last on,
-- and the section is sound just where the rest of it is, with the codes marked so far. Assumes nothing.
use native.Mathlib.Omega.{arith}
use mathlib.Core.Path.{◌≡◌, refl, sym, ◌∙◌}
use mathlib.Core.Bool.{false}
use lib.ListN.{replicate, length-set}
use Rattle.attributes.proofs.Left.{came, none_came}
use Rattle.attributes.proofs.Marks.{marks, none_marked, marking_adds}
use Rattle.attributes.proofs.Walks.{sound_start, sound_stop, sound_marked, sound_next}
use Rattle.attributes.proofs.sound.Goals as goal

pub loop-attribute-init : goal.loop-attribute-init
loop-attribute-init c =
    (omega arith, rw c.into_iter-attribute-iterator.ensures.into_iter_gives refl, refl, sound_start c.args.s.now (marks (replicate 4 0)) (none_marked 4))

pub returns-then-marked : goal.returns-then-marked
returns-then-marked c =
    let l = c.loop-attribute in
    let x = came c.args.s.now l.end (l.invariant.1 ∙ c.in-Some.ensures.steps) in
    sym (sound_marked _ x.some x.code (marks l.seen) (sym c.marked.ensures ∙ c.if-marked.true)) ∙ l.invariant.3

pub overflow_add-end : goal.overflow_add-end
overflow_add-end c =
    let l = c.loop-attribute in
    let x = came c.args.s.now l.end (l.invariant.1 ∙ c.in-Some.ensures.steps) in
    omega arith

pub loop-attribute-preserved : goal.loop-attribute-preserved
loop-attribute-preserved c =
    let l = c.loop-attribute in
    let x = came c.args.s.now l.end (l.invariant.1 ∙ c.in-Some.ensures.steps) in
    let n = c.in-Some.attribute.code in
    let u : marks l.seen n ≡ false = sym c.marked.ensures ∙ c.if-marked.false in
    let a = marking_adds l.seen n (rw l.invariant.2 (omega arith)) u in
    (x.fits, x.others, simp length-set l.invariant.2, rw (c.mark.ensures, ← x.next) (sym (sound_next _ x.some x.code a u) ∙ l.invariant.3))

pub returns : goal.returns
returns c =
    let l = c.loop-attribute in
    let z = none_came c.args.s.now l.end (l.invariant.1 ∙ c.in-None.ensures.steps.0) in
    sound_stop (marks l.seen) c.args.s.now l.end l.invariant.0 z ∙ l.invariant.3
