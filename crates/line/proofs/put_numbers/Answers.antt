-- `line::put_numbers` meets its contract. The loop's invariant: the numbers from the i-th on are left to write. Assumes nothing.
use Prim.Native.Nat.{◌+◌, ◌-◌, ◌*◌}
use native.Mathlib.Omega.{arith}
use mathlib.Core.Path.{◌≡◌}
use lib.ListN.{drop}
use lib.Seq.{drop-drop}
use Rattle.line.proofs.Numbers.{number_read, numbers_next, numbers_end, next_place}
use Rattle.line.proofs.Texts.{none_written, next_written, all_written}
use Rattle.line.proofs.put_numbers.Goals as goal

pub returns-then-count-eq0 : goal.returns-then-count-eq0
returns-then-count-eq0 c = none_written _ (numbers_end _ _ _ c.if-count-eq0.true) (omega arith) (omega arith)

pub loop-i-preserved : goal.loop-i-preserved
loop-i-preserved c =
    let s = c.args.s.now in
    let w = c.width_bytes-w.result in
    let i = c.loop-i.i in
    let p = c.args.start + i * w in
    let e : c.args.count - (i + 1) ≡ c.args.count - i - 1 = omega arith in
    rw (e, next_place c.args.start i w, ← drop-drop w p s)
    (next_written _ _ _ (numbers_next w (c.args.count - i) (drop p s) (omega arith)) c.loop-i.invariant c.put-place.ensures
    (rw (number_read s p c.width_bytes-w.ensures.1 c.number-in-loop-i.ensures) at c.put_decimal-place-in-loop-i.ensures))

pub returns : goal.returns
returns c = let a = c.args in
    let s = a.s.now in
    let i = c.loop-i.i in
    let w = c.width_bytes-w.result in
    rw (← c.width_bytes-w.ensures.0)
    (all_written _ _ _ (numbers_next w a.count (drop a.start s) (omega arith)) (numbers_end w (a.count - i) (drop (a.start + i * w) s) (omega arith))
    (rw (number_read s a.start c.width_bytes-w.ensures.1 c.number.ensures) at c.put_decimal-place.ensures)
    (rw drop-drop c.loop-i.invariant))
