-- `line::put_segment` meets its contract: a set by its first byte, or a sequence. Assumes nothing.
use Prim.Native.Nat.{◌+◌}
use native.Mathlib.Omega.{arith}
use mathlib.Core.Path.{sym, ◌∙◌}
use mathlib.Core.List.{[], ◌∷◌}
use Rattle.octets.proofs.Writes.{both}
use Rattle.aspath.specs.Wire.{width_bytes}
use Rattle.aspath.proofs.Segments.{size_stands}
use Rattle.line.specs.Text.{separated}
use Rattle.line.proofs.Numbers.{octet_here, number_texts, set_text, sequence_text}
use Rattle.line.proofs.put_segment.Goals as goal

pub overflow_add-p : goal.overflow_add-p
overflow_add-p c = omega (arith, (size_stands (width_bytes c.args.width) c.args.s.now c.args.p c.requires).fits)

pub overflow_add-p-then-number-eq1 : goal.overflow_add-p-then-number-eq1
overflow_add-p-then-number-eq1 c = omega (arith, (size_stands (width_bytes c.args.width) c.args.s.now c.args.p c.requires).fits)

pub put_numbers-place-requires : goal.put_numbers-place-requires
put_numbers-place-requires c = let a = c.args in
    rw (octet_here a.s.now (a.p + 1) c.number-count.ensures) (omega (arith, (size_stands (width_bytes a.width) a.s.now a.p c.requires).fits))

pub returns-then-number-eq1 : goal.returns-then-number-eq1
returns-then-number-eq1 c = let a = c.args in
    let w = width_bytes a.width in
    let s = a.s.now in
    rw (set_text w s a.p (sym (octet_here s a.p c.number.ensures) ∙ c.if-number-eq1.true))
    (both (123 ∷ []) _ c.put-place.ensures
    (both (separated 44 (number_texts w s a.p)) (125 ∷ [])
    (rw (octet_here s (a.p + 1) c.number-count.ensures) at c.put_numbers-place.ensures) c.put.ensures))

pub overflow_add-p-2 : goal.overflow_add-p-2
overflow_add-p-2 c = omega (arith, (size_stands (width_bytes c.args.width) c.args.s.now c.args.p c.requires).fits)

pub put_numbers-requires : goal.put_numbers-requires
put_numbers-requires c = let a = c.args in
    rw (octet_here a.s.now (a.p + 1) c.number-count.ensures) (omega (arith, (size_stands (width_bytes a.width) a.s.now a.p c.requires).fits))

pub returns : goal.returns
returns c = let a = c.args in
    let s = a.s.now in
    rw (sequence_text (width_bytes a.width) s a.p (λ e. c.if-number-eq1.false (octet_here s a.p c.number.ensures ∙ e)))
    (rw (octet_here s (a.p + 1) c.number-count.ensures) at c.put_numbers.ensures)
