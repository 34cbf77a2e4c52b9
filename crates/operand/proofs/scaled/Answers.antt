-- `operand::scaled` meets its contract. Assumes nothing.
use native.Mathlib.Omega.{arith}
use Rattle.operand.proofs.Fractions.{scaled_fits}
use Rattle.operand.proofs.scaled.Goals as goal

pub overflow_mul-result : goal.overflow_mul-result
overflow_mul-result c = rw c.pow.ensures (omega (arith, scaled_fits c.args.n c.args.digits c.requires.0 c.requires.1))
