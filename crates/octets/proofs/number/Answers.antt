-- `octets::number` meets its contract. The loop's invariant: n is the number in the first i bytes. Assumes nothing.
use native.Mathlib.Omega.{arith}
use borrow.Author.Tests.{le-leb}
use mathlib.Core.Path.{refl, sym}
use Rattle.octets.specs.Numbers.{number_at}
use Rattle.octets.proofs.Numbers.{number_past, number_next, room, next_lt}
use Rattle.octets.proofs.number.Goals as goal

pub returns-then-s-at : goal.returns-then-s-at
returns-then-s-at c = let a = c.args in
    simp (le-leb _ _ c.if-width-gt-WIDEST_NUMBER.false) (sym (number_past a.s.now a.at a.width c.if-s-at.true))

pub loop-i-init : goal.loop-i-init
unfolding number_at
loop-i-init c = (refl, omega arith)

pub overflow_mul-n : goal.overflow_mul-n
overflow_mul-n c = omega (arith, room c.loop-i.n c.loop-i.i (omega arith) c.loop-i.invariant.1)

pub overflow_add-n : goal.overflow_add-n
overflow_add-n c = omega (arith, room c.loop-i.n c.loop-i.i (omega arith) c.loop-i.invariant.1)

pub loop-i-preserved : goal.loop-i-preserved
loop-i-preserved c = let a = c.args in
    let l = c.loop-i in
    let e = number_next a.s.now a.at l.i in
    (rw (e, ← l.invariant.0, ← c.octet.ensures.0), next_lt l.n l.i _ l.invariant.1 c.octet.ensures.1)
