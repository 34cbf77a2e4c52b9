-- `line::put_path` meets its contract. The loop's invariant: the segments from `p` on are left to write. Assumes nothing.
use native.Mathlib.Omega.{arith}
use mathlib.Core.Path.{sym}
use lib.ListN.{drop}
use lib.Seq.{drop-drop}
use Rattle.octets.proofs.Rows.{sized_some, sized_none}
use Rattle.aspath.specs.Wire.{width_bytes, segment_size, segment_of}
use Rattle.aspath.proofs.Segments.{segment_sizes}
use Rattle.line.specs.Text.{space, segment_text}
use Rattle.line.proofs.Texts.{item_fits, texts_next, texts_end, none_written, begins, next_written, all_written}
use Rattle.line.proofs.put_path.Goals as goal

pub returns-in_default : goal.returns-in_default
returns-in_default c = let a = c.args in
    let w = width_bytes a.width in
    none_written space (texts_end (segment_size w) (segment_of w) segment_text a.s.now (sized_none c.in_default.ensures)) (omega arith) (omega arith)

pub loop-size-init : goal.loop-size-init
loop-size-init c = let a = c.args in
    let x = sized_some c.in-Some.ensures in
    (omega (arith, x.same, (segment_sizes (width_bytes a.width)).fits a.s.now), begins c.put_segment-place.ensures)

pub overflow_add-p : goal.overflow_add-p
overflow_add-p c = let x = sized_some c.in-Some-segment_size.ensures in
    omega (arith, item_fits (segment_sizes (width_bytes c.args.width)) c.args.s.now c.loop-size.invariant.0 (sym x.same))

pub loop-size-smaller : goal.loop-size-smaller
loop-size-smaller c = let x = sized_some c.in-Some-segment_size.ensures in
    let fits = item_fits (segment_sizes (width_bytes c.args.width)) c.args.s.now c.loop-size.invariant.0 (sym x.same) in
    omega (arith, x.same, x.some, fits)

pub loop-size-preserved : goal.loop-size-preserved
loop-size-preserved c = let w = width_bytes c.args.width in
    let s = c.args.s.now in
    let p = c.loop-size.p in
    let x = sized_some c.in-Some-segment_size.ensures in
    let e = sym x.same in (
      item_fits (segment_sizes w) s c.loop-size.invariant.0 e,
      rw (e, ← drop-drop (segment_size w (drop p s)) p s)
          (next_written space _ _ (texts_next (segment_size w) (segment_of w) segment_text (segment_sizes w) (drop p s) x.some)
          c.loop-size.invariant.1 c.put-next.ensures c.put_segment-place-in-Some-segment_size.ensures),
    )

pub returns : goal.returns
returns c = let w = width_bytes c.args.width in
    let s = c.args.s.now in
    let x = sized_some c.in-Some.ensures in
    all_written space _ _ (texts_next (segment_size w) (segment_of w) segment_text (segment_sizes w) s x.some)
    (texts_end (segment_size w) (segment_of w) segment_text (drop c.loop-size.p s) (sized_none c.in_default-segment_size.ensures))
    c.put_segment-place.ensures
    (rw (sym x.same) at c.loop-size.invariant.1)
