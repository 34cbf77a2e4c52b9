-- `attributes::length_width` meets its contract. Assumes nothing.
use native.Mathlib.Omega.{arith}
use mathlib.Core.Path.{sym}
use Rattle.attributes.proofs.Sizes.{width_one, width_two}
use Rattle.attributes.proofs.length_width.Goals as goal

pub returns-then-flags-eq1 : goal.returns-then-flags-eq1
returns-then-flags-eq1 c = (sym (width_two c.args.flags c.if-flags-eq1.true), omega arith)

pub returns : goal.returns
returns c = (sym (width_one c.args.flags c.if-flags-eq1.false), omega arith)
