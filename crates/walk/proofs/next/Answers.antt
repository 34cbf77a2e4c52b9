-- `walk::next` meets its contract: a step from below 2 ^ 64 goes on below it. Assumes nothing.
use native.Mathlib.Omega.{arith}
use Rattle.std.specs.Prelude.{◌^◌}
use Rattle.walk.proofs.Steps.{place_below}
use Rattle.walk.proofs.next.Goals as goal

pub place_after-reader-requires : goal.place_after-reader-requires
place_after-reader-requires c = rw c.step_at-step.ensures (place_below _ _ (2 ^ 64) (omega arith) (omega arith))
