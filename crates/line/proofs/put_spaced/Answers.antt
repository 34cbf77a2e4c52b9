-- `line::put_spaced` meets its contract. The loop's invariant: the texts that the iterator has left are left to write. Assumes nothing.
use native.Mathlib.Omega.{arith}
use Rattle.line.specs.Text.{space}
use Rattle.line.proofs.Texts.{none_written, begins, next_written, all_written}
use Rattle.line.proofs.put_spaced.Goals as goal

pub returns-in_default : goal.returns-in_default
returns-in_default g c text left gives writes = none_written space (gives _ _ _ c.in_default.ensures.steps).0 (omega arith) (omega arith)

pub loop-item-init : goal.loop-item-init
loop-item-init g c text left gives writes = begins (writes _ _ _ _ _ c.put_item-place.ensures)

pub loop-item-preserved : goal.loop-item-preserved
loop-item-preserved g c text left gives writes =
    next_written space _ _ (gives _ _ _ c.in-Some-item.ensures.steps)
    (c.loop-item.invariant text left gives writes) c.put-place.ensures (writes _ _ _ _ _ c.put_item-place-in-loop-item.ensures)

pub returns : goal.returns
returns g c text left gives writes =
    all_written space _ _ (gives _ _ _ c.in-Some.ensures.steps) (gives _ _ _ c.in-None.ensures.steps).0
    (writes _ _ _ _ _ c.put_item-place.ensures)
    (rw c.into_iter-item-iterator.ensures.into_iter_gives at (c.loop-item.invariant text left gives writes))
