-- `aspath::well_formed` meets its contract. The loop's invariant: the body is whole just where the rest of it is. Assumes nothing.
use native.Mathlib.Omega.{arith}
use mathlib.Core.Path.{sym, ◌∙◌}
use Rattle.octets.proofs.Rows.{step, whole_step, whole_stop}
use Rattle.aspath.specs.Wire.{width_bytes, segment_size}
use Rattle.aspath.proofs.Segments.{segment_sizes}
use Rattle.aspath.proofs.well_formed.Goals as goal

pub overflow_add-at : goal.overflow_add-at
overflow_add-at c =
    let w = width_bytes c.args.width in
    let x = step (segment_size w) (segment_sizes w) c.args.s.now c.loop-size.at (sym c.in-Some.is ∙ c.segment_size.ensures) in
    omega arith

pub loop-size-smaller : goal.loop-size-smaller
loop-size-smaller c =
    let w = width_bytes c.args.width in
    let x = step (segment_size w) (segment_sizes w) c.args.s.now c.loop-size.at (sym c.in-Some.is ∙ c.segment_size.ensures) in
    omega arith

pub loop-size-preserved : goal.loop-size-preserved
loop-size-preserved c =
    let w = width_bytes c.args.width in
    let l = c.loop-size in
    let s = c.args.s.now in
    let e = sym c.in-Some.is ∙ c.segment_size.ensures in
    let x = step (segment_size w) (segment_sizes w) s l.at e in
    (x.fits, whole_step (segment_size w) (segment_sizes w) s l.at e ∙ l.invariant.1)

pub returns : goal.returns
returns c =
    let w = width_bytes c.args.width in
    let l = c.loop-size in
    whole_stop (segment_size w) (segment_sizes w) c.args.s.now l.at l.invariant.0 (sym c.in_default.is ∙ c.segment_size.ensures) ∙ l.invariant.1
