-- `line::write` meets its contract: the text is known to fit, or is measured on an empty part first. Assumes nothing.
use native.Mathlib.Omega.{arith}
use mathlib.Core.Path.{sym, ◌∙◌}
use lib.ListN.{length}
use Rattle.octets.specs.Numbers.{Octets}
use Rattle.line.proofs.Bound.{lines_fit}
use Rattle.line.proofs.Measured.{fitting, too_short, long_enough}
use Rattle.line.proofs.write.Goals as goal

pub returns-then-ample : goal.returns-then-ample
returns-then-ample c = let a = c.args in
    let o : Octets a.s.now = record { below = λ i. (c.type_inv.s i).fits } in
    let h = lines_fit o a.parts (omega arith) (length a.out.now) (sym c.ample.ensures ∙ c.if-ample.true) in
    fitting h c.put_lines.ensures

pub returns-then-out-need : goal.returns-then-out-need
returns-then-out-need c = too_short c.put_lines-need.ensures c.args.out.now c.if-out-need.true

pub returns : goal.returns
returns c = long_enough c.put_lines-need.ensures c.args.out.now (omega arith) c.if-out-need.false c.put_lines-2.ensures
